use Rattle.std.proofs.Common.{◌≡◌, ◌<◌, ◌+◌, sym, ◌∙◌, ap, arith, length, drop, []}
use Rattle.std.specs.Prelude.{option_and_then}
use Rattle.std.proofs.lemmas.List.{drop_all}
use Rattle.pq_common.proofs.NumberLemmas.{read_all, read_next, read_from}
use Rattle.pq_common.proofs.numbers.unsigned.Goals as goal

pub returns : goal.returns
returns c =
    let none : drop c.loop-digit.digit-index c.args.digits.now ≡ [] = drop_all c.loop-digit.digit-index c.args.digits.now (omega arith) in
    let some : 0 < length c.args.digits.now = grind (arith, c.if-is_empty.ensures) in
    sym (ap (read_from c.loop-digit.number) none) ∙ sym c.loop-digit.invariant.left ∙ read_all c.args.most c.args.digits.now some c.if-digits-most.false

pub returns-in_err-number : goal.returns-in_err-number
returns-in_err-number c =
    let some : 0 < length c.args.digits.now = grind (arith, c.if-is_empty.ensures) in
    let at = c.loop-digit.digit-index in
    c.from_residual.ensures
    ∙ sym (ap (option_and_then (λ next. read_from next (drop (at + 1) c.args.digits.now))) (sym c.with_digit.ensures ∙ c.in_err-number.was))
    ∙ sym (read_next c.args.digits.now at c.loop-digit.number c.loop-digit-test.true)
    ∙ sym c.loop-digit.invariant.left ∙ read_all c.args.most c.args.digits.now some c.if-digits-most.false
