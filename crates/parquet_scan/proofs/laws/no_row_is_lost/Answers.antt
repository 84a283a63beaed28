use Rattle.parquet_scan.proofs.Sound.{loses_no_row_of_valid_files}
use Rattle.parquet_scan.proofs.laws.no_row_is_lost.Goals as goal

pub returns : goal.returns
returns c = loses_no_row_of_valid_files
