use Rattle.std.proofs.Common.{refl}
use Rattle.parquet_page.specs.Values.{delta_values}
use Rattle.flat_values.proofs.stored.ArrayU323ParquetNativeType.open_deltas.Goals as goal

pub returns-clause-exact : goal.returns-clause-exact
unfolding delta_values
returns-clause-exact c = refl
