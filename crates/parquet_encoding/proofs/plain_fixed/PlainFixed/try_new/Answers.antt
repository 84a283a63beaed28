use Rattle.std.proofs.Common.{◌≡◌, ◌+◌, ◌*◌, ◌<◌, ◌^◌, ◌∙◌, length, sym, ap, arith, rules}
use Rattle.std.specs.Prelude.{is_some}
use Rattle.parquet_encoding.specs.PlainLeft.{fixed_left}
use Rattle.parquet_encoding.proofs.StepLemmas.{something_is}
use Rattle.parquet_encoding.proofs.FixedLemmas.{not_exact, is_exact, fixed_is, length-fixed, begins_fixed}
use Rattle.parquet_encoding.proofs.plain_fixed.PlainFixed.try_new.Goals as goal

pub returns-in_default-clause-exact : goal.returns-in_default-clause-exact
returns-in_default-clause-exact c =
    let fits : length c.args.bytes.now < 2 ^ 64 = search rules in
    sym (ap is_some (not_exact c.args.size c.args.count c.args.bytes.now (λ same. c.in_default.ensures (omega arith))))

pub returns-then-bytes-whole-clause-exact : goal.returns-then-bytes-whole-clause-exact
returns-then-bytes-whole-clause-exact c =
    sym (ap is_some (not_exact c.args.size c.args.count c.args.bytes.now (λ same. c.if-bytes-whole.true (same ∙ sym c.in-Some.ensures.1))))

pub returns-clause-values : goal.returns-clause-values
unfolding fixed_left
returns-clause-values c = begins_fixed c.args.size c.args.count c.args.bytes.now

pub returns-clause-exact : goal.returns-clause-exact
returns-clause-exact c =
    sym (ap is_some (is_exact c.args.size c.args.count c.args.bytes.now (c.if-bytes-whole.false ∙ c.in-Some.ensures.1)))

pub returns-clause-counted : goal.returns-clause-counted
unfolding fixed_left
returns-clause-counted c =
    let end : 0 + c.args.count * c.args.size ≡ length c.args.bytes.now = omega (arith, c.if-bytes-whole.false, c.in-Some.ensures.1) in
    length-fixed c.args.size 0 c.args.count c.args.bytes.now (something_is _ _ (fixed_is c.args.size 0 c.args.count c.args.bytes.now end))
