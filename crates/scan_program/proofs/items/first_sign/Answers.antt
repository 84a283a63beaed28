use Rattle.std.proofs.Common.{◌≡◌, ◌-◌, ◌<◌, ◌≤◌, ℕ, List, subst, sym, ◌∙◌, ap, arith, length, drop, take, length-drop}
use Rattle.std.specs.Prelude.{slice_index}
use Rattle.std.proofs.lemmas.List.{take_all}
use Rattle.scan_program.specs.Words.{end_sign}
use Rattle.scan_program.proofs.SplitLemmas.{sign_at, sign_in, no_sign}
use Rattle.scan_program.proofs.items.first_sign.Goals as goal

pub returns-in-Some-clause-parts : goal.returns-in-Some-clause-parts
returns-in-Some-clause-parts c =
    let text = c.args.text.now in
    let at = c.loop-at.at in
    let rest : take (length text - at) (drop at text) ≡ drop at text = take_all (length text - at) (drop at text) (omega (arith, length-drop at text)) in
    sym (sign_at text at c.in-Some.is_low c.loop-at-test.true c.loop-at.invariant (sym (ap end_sign rest) ∙ sym c.end_sign.ensures.sign ∙ c.in-Some.is))

pub returns-in-Some-clause-sign : goal.returns-in-Some-clause-sign
returns-in-Some-clause-sign c =
    let text = c.args.text.now in
    let at = c.loop-at.at in
    let rest : take (length text - at) (drop at text) ≡ drop at text = take_all (length text - at) (drop at text) (omega (arith, length-drop at text)) in
    let found = rw c.in-Some.is at c.end_sign.ensures.two in
    let two = subst (λ (l : List ℕ). (2 ≤ length l) × (slice_index l 0 < 128) × (slice_index l 1 < 128)) rest found in
    sign_in text at two

pub returns : goal.returns
returns c = record { parts = sym (no_sign c.args.text.now (λ k h. c.loop-at.invariant k (omega (arith, h, c.loop-at-test.false)))); sign = tt }
