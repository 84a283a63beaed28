use Rattle.std.proofs.Common.{◌++◌, ◌-◌, ◌≤◌, map}
use Rattle.std.specs.List.{flat_map, range_with_len}
use Rattle.columns_core.specs.Array.{column_of}
use Rattle.pq_common.specs.Rows.{row_line}
use Rattle.pq_common.proofs.TakenLemmas.{Leaves}
use Rattle.pq_common.proofs.rows.push_row_lines.Given as goal

-- what is held and the lines of the rows that are left are not yet written
abbrev pub invariant-loop-row : goal.invariant-loop-row
invariant-loop-row g l =
    let lines = row_line (map column_of l.arrays) in
    record {
      some : 1 ≤ l.count;
      most : l.count ≤ 32;
      within : l.row ≤ l.rows;
      left : Leaves g.K.Sink l.initial.out l.out (l.initial.block ++ flat_map lines (range_with_len 0 l.rows))
          (l.block ++ flat_map lines (range_with_len l.row (l.rows - l.row)));
    }

abbrev pub decreases-loop-row : goal.decreases-loop-row
decreases-loop-row g l = l.rows - l.row
