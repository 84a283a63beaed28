use Rattle.std.proofs.Common.{◌≡◌, take}
use Rattle.columns_core.proofs.+copy_of_cell.Given as goal

abbrev pub invariant-copy::copy_of_cells-loop-cell : goal.invariant-copy::copy_of_cells-loop-cell
invariant-copy::copy_of_cells-loop-cell l = l.copies.items ≡ take l.cell-index l.cells
