use Rattle.parquet_scan.proofs.GivenCells.{given_cells_are_cells}
use Rattle.parquet_scan.proofs.laws.given_cells_are_cells.Goals as goal

pub returns : goal.returns
returns c = given_cells_are_cells
