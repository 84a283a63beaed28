use Rattle.std.proofs.Common.{arith}
use Rattle.parquet_encoding.specs.PlainLeft.{strings_left, strings}
use Rattle.parquet_encoding.proofs.StringLemmas.{length-strings}
use Rattle.parquet_encoding.proofs.WalkLemmas.{passes_one, passes_most, of_some}
use Rattle.parquet_encoding.proofs.plain_bytes.PlainBytes.skip.Goals as goal

pub loop-preserved : goal.loop-preserved
loop-preserved c = passes_one _ _ (strings c.args.self.now c.args.bytes.now) c.loop.counter c.loop.invariant c.next-passed.ensures.rest

pub returns : goal.returns
unfolding strings_left
returns c =
    let s = c.args.self.now in
    let long = of_some _ _ c.requires (length-strings s.next s.left c.args.bytes.now) in
    passes_most _ (strings s c.args.bytes.now) c.loop.counter c.args.n s.left c.loop.invariant (omega arith) long
