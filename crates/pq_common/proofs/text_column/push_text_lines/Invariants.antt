use Rattle.std.proofs.Common.{◌-◌, ◌≤◌, ◌++◌, List, length, map}
use Rattle.columns_core.specs.Column.{cell_of}
use Rattle.columns_core.specs.declared.cell.Cell.{Cell, Text}
use Rattle.columns_core.specs.declared.data_type.DataType.{DataType}
use Rattle.pq_common.specs.Rows.{lines_of}
use Rattle.pq_common.proofs.TakenLemmas.{Leaves}
use Rattle.pq_common.proofs.text_column.push_text_lines.Given as goal

-- what is held and the lines that are left are not yet written
abbrev pub invariant-loop-row : goal.invariant-loop-row
invariant-loop-row g l =
    let rows = length l.array.items in
    let column : DataType × List Cell = (l.array.data_type, map (cell_of Text) l.array.items) in
    record {
      within : l.row ≤ rows;
      left : Leaves g.K.Sink l.initial.out l.out (l.initial.block ++ lines_of column 0 rows) (l.block ++ lines_of column l.row (rows - l.row));
    }
