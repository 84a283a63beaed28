use Rattle.parquet_encoding.specs.JoinedLeft.{joined_left}
use Rattle.parquet_encoding.proofs.JoinedLemmas.{length-left}
use Rattle.parquet_encoding.proofs.delta_length.DeltaLength.remaining.Goals as goal

pub returns : goal.returns
unfolding joined_left
returns c bytes = length-left _ c.args.self.now.next bytes c.remaining.result (c.remaining.ensures bytes)
