use Rattle.parquet_base.proofs.DeterminedLemmas.{determined}
use Rattle.parquet_base.proofs.laws.runs_are_determined.Goals as goal

pub returns : goal.returns
returns c runs others rows a b same = determined 0 runs others rows a b (λ row low high. same row high)
