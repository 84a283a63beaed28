use Rattle.flat_binary.proofs.CellLemmas.{has_same_cells}
use Rattle.flat_binary.proofs.laws.chunk_sizes_change_no_cell.Goals as goal

pub returns : goal.returns
returns c = has_same_cells
