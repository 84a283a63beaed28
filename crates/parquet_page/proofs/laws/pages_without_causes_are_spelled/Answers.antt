use Rattle.parquet_page.proofs.SpelledLemmas.{keys_are_spelled, values_are_spelled}
use Rattle.parquet_page.proofs.laws.pages_without_causes_are_spelled.Goals as goal

pub returns-clause-values : goal.returns-clause-values
returns-clause-values c = values_are_spelled

pub returns-clause-keys : goal.returns-clause-keys
returns-clause-keys c = keys_are_spelled
