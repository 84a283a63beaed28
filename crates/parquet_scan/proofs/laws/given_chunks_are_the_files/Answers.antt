use Rattle.parquet_scan.proofs.GivenCells.{given_chunks_are_the_files}
use Rattle.parquet_scan.proofs.laws.given_chunks_are_the_files.Goals as goal

pub returns : goal.returns
returns c = given_chunks_are_the_files
