use Rattle.std.proofs.Common.{◌≡◌, ◌∙◌, sym, ap, subst, inl, inr, ℕ, ◌+◌, ◌-◌, ◌<◌, true, List, length, get_or, arith}
use Rattle.std.specs.Str.{IsCharBoundary}
use Rattle.std.proofs.lemmas.Bool.{cases_lt, true≢false}
use Rattle.columns_core.proofs.OffsetLemmas.{risen}
use Rattle.binary_values.specs.Rebased.{rebased}
use Rattle.binary_values.proofs.StringLemmas.{get-rebased, length-rebased}
use Rattle.binary_values.proofs.strings.begin_at_characters.Goals as goal

pub overflow_sub-start_end : goal.overflow_sub-start_end
overflow_sub-start_end g c =
    let offsets = c.args.offsets.now in
    let from = c.args.from in
    let there : from + (c.loop-i.i - from) ≡ c.loop-i.i = omega (arith, c.loop-i.auto.i) in
    let inside : from + (c.loop-i.i - from) < length offsets = omega (arith, there, c.loop-i-test.true, c.len_proxy-i-end.ensures.len) in
    omega (arith, c.start_end.ensures.start, c.requires.start, risen offsets from (c.loop-i.i - from) c.len_proxy-i-end.ensures.shape inside, ap (λ n. get_or offsets n 0) there)

-- the place in the text
place : (from k i start at : ℕ) (offsets : List ℕ) → from + k ≡ i → start ≡ get_or offsets from 0 → at ≡ get_or offsets i 0 → get_or (rebased from offsets) k 0 ≡ at - start
place from k i start at offsets is first own = get-rebased from offsets k ∙ omega (arith, ap (λ n. get_or offsets n 0) is, first, own)

pub loop-i-preserved : goal.loop-i-preserved
loop-i-preserved g c = λ k h.
    elim (cases_lt (c.args.from + k) c.loop-i.i) [
      | inl before ↦ c.loop-i.invariant k before
      | inr past ↦
          let here : c.args.from + k ≡ c.loop-i.i = omega (arith, h, past) in
          subst (IsCharBoundary c.args.text.now) (sym (place c.args.from k c.loop-i.i c.args.start c.start_end.result.0 c.args.offsets.now here c.requires.start c.start_end.ensures.start)) (c.is_char_boundary.ensures.test.0 c.if-not-is_char_boundary.false)
    ]

pub returns-then-not-is_char_boundary : goal.returns-then-not-is_char_boundary
returns-then-not-is_char_boundary g c =
    let from = c.args.from in
    let offsets = c.args.offsets.now in
    let k = c.loop-i.i - from in
    let there : from + k ≡ c.loop-i.i = omega (arith, c.loop-i.auto.i) in
    let inside : k < length (rebased from offsets) - 1 = omega (arith, there, c.loop-i-test.true, c.len_proxy-i-end.ensures.len, length-rebased from offsets) in (
      λ t. absurd (grind (arith, t)),
      λ begin.
          let test : c.is_char_boundary.result ≡ true = c.is_char_boundary.ensures.test.1 (subst (IsCharBoundary c.args.text.now) (place from k c.loop-i.i c.args.start c.start_end.result.0 offsets there c.requires.start c.start_end.ensures.start) (begin k inside)) in
          absurd (true≢false (sym test ∙ c.if-not-is_char_boundary.true)),
    )
