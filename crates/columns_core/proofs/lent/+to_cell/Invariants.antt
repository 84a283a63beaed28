use Rattle.std.proofs.Common.{◌≡◌, ◌+◌, ◌*◌, take}
use Rattle.columns_core.specs.Lent.{nest_cells, lent_depth, nest_depth}
use Rattle.columns_core.proofs.lent.+to_cell.Given as goal

abbrev pub decreases-Lent::to_cell : goal.decreases-Lent::to_cell
decreases-Lent::to_cell l = 2 * lent_depth l.self + 1

abbrev pub decreases-to_cells : goal.decreases-to_cells
decreases-to_cells l = 2 * nest_depth l.inside

abbrev pub invariant-to_cells-loop-k : goal.invariant-to_cells-loop-k
invariant-to_cells-loop-k l = l.cells.items ≡ take l.k (nest_cells l.inside)
