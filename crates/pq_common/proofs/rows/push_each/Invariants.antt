use Rattle.std.proofs.Common.{◌++◌, ◌-◌, ◌≤◌, map}
use Rattle.std.specs.List.{flat_map, range_with_len}
use Rattle.columns_core.specs.Array.{column_of}
use Rattle.pq_common.specs.Rows.{row_line}
use Rattle.pq_common.proofs.TakenLemmas.{Leaves}
use Rattle.pq_common.proofs.rows.push_each.Given as goal

-- what is held and the lines of the rows that are left are not yet written
abbrev pub invariant-loop-row : goal.invariant-loop-row
invariant-loop-row g l =
    let lines = row_line (map column_of l.arrays) in
    record {
      within : l.row ≤ l.to;
      left : Leaves g.K.Sink l.initial.out l.out (l.initial.block ++ flat_map lines (range_with_len l.from (l.to - l.from)))
          (l.block ++ flat_map lines (range_with_len l.row (l.to - l.row)));
    }
