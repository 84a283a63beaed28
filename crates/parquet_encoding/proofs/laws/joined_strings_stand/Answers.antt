use Rattle.parquet_encoding.proofs.PlaceLemmas.{lengths_stand}
use Rattle.parquet_encoding.proofs.laws.joined_strings_stand.Goals as goal

pub returns : goal.returns
returns c = lengths_stand
