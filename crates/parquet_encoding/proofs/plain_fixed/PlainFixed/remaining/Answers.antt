use Rattle.std.proofs.Common.{◌∙◌, sym, ap, length}
use Rattle.parquet_encoding.specs.PlainLeft.{fixed_left}
use Rattle.parquet_encoding.proofs.StepLemmas.{if_some, some_is, something_is}
use Rattle.parquet_encoding.proofs.FixedLemmas.{fixed_is, fixed_ends, length-steps}
use Rattle.parquet_encoding.proofs.plain_fixed.PlainFixed.remaining.Goals as goal

pub returns : goal.returns
unfolding fixed_left
returns c bytes =
    let s = c.args.self.now in
    if_some _ _ (λ values e.
    let end = fixed_ends s.size s.next s.left bytes (something_is _ values e) in
    sym (ap length (some_is _ _ (sym e ∙ fixed_is s.size s.next s.left bytes end)) ∙ length-steps s.next s.size s.left))
