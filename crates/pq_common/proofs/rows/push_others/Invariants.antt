use Rattle.std.proofs.Common.{◌++◌, ◌∷◌, drop}
use Rattle.std.specs.List.{flat_map}
use Rattle.columns_core.specs.Array.{column_of}
use Rattle.pq_common.specs.Rows.{cell_at}
use Rattle.pq_common.proofs.TakenLemmas.{Leaves}
use Rattle.pq_common.proofs.rows.push_others.Given as goal

-- what is held and the cells that are left are not yet written
abbrev pub invariant-loop-array : goal.invariant-loop-array
invariant-loop-array g l =
    Leaves g.K.Sink l.initial.out l.out (l.initial.block ++ flat_map (λ array. 9 ∷ cell_at l.row (column_of array)) l.arrays)
    (l.block ++ flat_map (λ array. 9 ∷ cell_at l.row (column_of array)) (drop l.array-index l.arrays))
