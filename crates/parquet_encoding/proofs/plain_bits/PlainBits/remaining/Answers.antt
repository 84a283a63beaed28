use Rattle.parquet_encoding.specs.PlainLeft.{bits_left}
use Rattle.parquet_encoding.proofs.TruthLemmas.{length-bits_left}
use Rattle.parquet_encoding.proofs.plain_bits.PlainBits.remaining.Goals as goal

pub returns : goal.returns
unfolding bits_left
returns c bytes = length-bits_left c.args.self.now.next c.args.self.now.left bytes
