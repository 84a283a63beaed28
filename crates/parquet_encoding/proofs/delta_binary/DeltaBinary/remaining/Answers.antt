use Rattle.parquet_encoding.specs.DeltaLeft.{delta_left}
use Rattle.parquet_encoding.proofs.RunningLemmas.{length-numbers, none_counted}
use Rattle.parquet_encoding.proofs.delta_binary.DeltaBinary.remaining.Goals as goal

pub returns-in-None : goal.returns-in-None
unfolding delta_left
returns-in-None c bytes = none_counted c.args.self.now.value _ c.in-None.is

pub returns-in-Some : goal.returns-in-Some
unfolding delta_left
returns-in-Some c bytes = length-numbers c.args.self.now.value _ _ c.left.result c.in-Some.is (c.left.ensures.length bytes)
