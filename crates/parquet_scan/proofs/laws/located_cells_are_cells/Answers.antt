use Rattle.parquet_scan.proofs.LocatedCells.{located_cells_are_cells}
use Rattle.parquet_scan.proofs.laws.located_cells_are_cells.Goals as goal

pub returns : goal.returns
returns c = located_cells_are_cells
