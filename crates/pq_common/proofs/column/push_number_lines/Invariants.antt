use Rattle.std.proofs.Common.{◌-◌, ◌≤◌, ◌++◌, length}
use Rattle.columns_core.specs.Array.{column_of}
use Rattle.columns_core.specs.declared.array.Array.TheVariants.{Int32}
use Rattle.pq_common.specs.Rows.{lines_of}
use Rattle.pq_common.proofs.TakenLemmas.{Leaves}
use Rattle.pq_common.proofs.column.push_number_lines.Given as goal

-- what is held and the lines that are left are not yet written
abbrev pub invariant-loop-row : goal.invariant-loop-row
invariant-loop-row g l =
    let rows = length l.array.items in
    let column = column_of (Int32 l.array) in
    record {
      within : l.row ≤ rows;
      left : Leaves g.K.Sink l.initial.out l.out (l.initial.block ++ lines_of column 0 rows) (l.block ++ lines_of column l.row (rows - l.row));
    }

abbrev pub decreases-loop-row : goal.decreases-loop-row
decreases-loop-row g l = length l.array.items - l.row
