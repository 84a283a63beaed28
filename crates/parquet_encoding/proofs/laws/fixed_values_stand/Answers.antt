use Rattle.parquet_encoding.proofs.PlaceLemmas.{fixed_stand}
use Rattle.parquet_encoding.proofs.laws.fixed_values_stand.Goals as goal

pub returns : goal.returns
returns c = fixed_stand
