use Rattle.parquet_encoding.specs.PlainLeft.{strings_left}
use Rattle.parquet_encoding.proofs.StringLemmas.{length-strings}
use Rattle.parquet_encoding.proofs.plain_bytes.PlainBytes.remaining.Goals as goal

pub returns : goal.returns
unfolding strings_left
returns c bytes = length-strings c.args.self.now.next c.args.self.now.left bytes
