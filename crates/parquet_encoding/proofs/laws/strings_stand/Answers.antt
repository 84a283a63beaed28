use Rattle.parquet_encoding.proofs.PlaceLemmas.{bytes_stand}
use Rattle.parquet_encoding.proofs.laws.strings_stand.Goals as goal

pub returns : goal.returns
returns c = bytes_stand
