use Rattle.column_ends.proofs.CountLemmas.{counted-more, fit-exact}
use Rattle.column_ends.proofs.laws.counts_are_exact.Goals as goal

pub returns : goal.returns
returns c = record { exact = fit-exact; joined = counted-more }
