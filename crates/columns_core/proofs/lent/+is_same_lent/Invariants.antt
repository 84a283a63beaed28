use Rattle.std.proofs.Common.{◌≡◌, ◌+◌, ◌*◌, take}
use Rattle.columns_core.specs.Lent.{nest_cells, lent_depth, nest_depth}
use Rattle.columns_core.proofs.lent.+is_same_lent.Given as goal

abbrev pub decreases-Lent::is_same : goal.decreases-Lent::is_same
decreases-Lent::is_same l = 2 * lent_depth l.self + 1

abbrev pub decreases-are_same : goal.decreases-are_same
decreases-are_same l = 2 * nest_depth l.a

abbrev pub invariant-are_same-loop-k : goal.invariant-are_same-loop-k
invariant-are_same-loop-k l = take l.k (nest_cells l.a) ≡ take l.k (nest_cells l.b)
