use Rattle.std.proofs.Common.{◌≡◌, ◌≤◌, ◌∷◌, ◌++◌, drop, length}
use Rattle.std.specs.List.{flat_map}
use Rattle.columns_core.specs.Array.{column_of}
use Rattle.pq_common.specs.Rows.{cell_at}
use Rattle.pq_common.proofs.rows.write_others.Given as goal

-- the cells that are left stand before those that are written
abbrev pub invariant-loop-last : goal.invariant-loop-last
invariant-loop-last l = record {
  within : l.start ≤ l.end;
  left : flat_map (λ array. 9 ∷ cell_at l.row (column_of array)) l.rest ++ drop l.start l.line
      ≡ flat_map (λ array. 9 ∷ cell_at l.row (column_of array)) l.arrays ++ drop l.end l.initial.line;
}

abbrev pub decreases-loop-last : goal.decreases-loop-last
decreases-loop-last l = length l.rest
