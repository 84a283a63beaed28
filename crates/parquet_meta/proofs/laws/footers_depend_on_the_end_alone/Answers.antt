use Rattle.parquet_meta.proofs.EndLemmas.{same_ends}
use Rattle.parquet_meta.proofs.laws.footers_depend_on_the_end_alone.Goals as goal

pub returns : goal.returns
returns c = same_ends
