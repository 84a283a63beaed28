use Rattle.std.proofs.Common.{◌≡◌, ◌∙◌, ap, refl, sym, subst, ℕ, ◌-◌, ◌<◌, List, All, length, drop, take, get_or, arith}
use Rattle.std.specs.Prelude.{IsUtf8}
use Rattle.std.specs.Str.{IsAscii}
use Rattle.std.proofs.lemmas.List.{length-drop, take_all}
use Rattle.columns_core.proofs.OffsetLemmas.{length-parts, some-offset}
use Rattle.binary_values.proofs.AsciiLemmas.{ascii-further}
use Rattle.columns_core.proofs.PartLemmas.{below-last}
use Rattle.binary_values.proofs.StringLemmas.{texts-apart, texts-ascii, texts-cut, texts-together}
use Rattle.binary_values.proofs.strings.Strings.are_texts_from.Goals as goal

pub start_of-start-requires : goal.start_of-start-requires
start_of-start-requires g c = omega (arith, c.requires, length-parts c.self.inside.offsets c.self.inside.values.items, ap length c.self.view_is, some-offset c.self.inside.offsets c.self.invariant.0)

pub begin_at_characters-requires-clause-from : goal.begin_at_characters-requires-clause-from
begin_at_characters-requires-clause-from g c = omega (arith, c.requires, length-parts c.self.inside.offsets c.self.inside.values.items, ap length c.self.view_is, some-offset c.self.inside.offsets c.self.invariant.0)

pub slice_bounds-added-count : goal.slice_bounds-added-count
slice_bounds-added-count g c =
    let inside : c.args.from < length c.self.inside.offsets = omega (arith, c.requires, length-parts c.self.inside.offsets c.self.inside.values.items, ap length c.self.view_is, some-offset c.self.inside.offsets c.self.invariant.0) in
    omega (arith, c.start_of-start.ensures.start, below-last c.self.inside.offsets c.args.from c.self.invariant.0 inside, c.self.invariant.1, ap length c.deref.ensures.value)

pub slice_bounds-added-start : goal.slice_bounds-added-start
slice_bounds-added-start g c =
    let inside : c.args.from < length c.self.inside.offsets = omega (arith, c.requires, length-parts c.self.inside.offsets c.self.inside.values.items, ap length c.self.view_is, some-offset c.self.inside.offsets c.self.invariant.0) in
    omega (arith, c.start_of-start.ensures.start, below-last c.self.inside.offsets c.args.from c.self.invariant.0 inside, c.self.invariant.1, ap length c.deref.ensures.value)

-- the bytes behind a place
rest : (lent bytes offsets : List ℕ) (from start : ℕ) → lent ≡ bytes → start ≡ get_or offsets from 0 → take (length lent - start) (drop start lent) ≡ drop (get_or offsets from 0) bytes
rest lent bytes offsets from start is at = take_all (length lent - start) (drop start lent) (omega (arith, length-drop start lent)) ∙ ap (drop start) is ∙ ap (λ n. drop n bytes) at

pub returns-then-self-start : goal.returns-then-self-start
returns-then-self-start g c =
    let offsets = c.self.inside.offsets in
    let bytes = c.self.inside.values.items in
    let inside : c.args.from < length offsets = omega (arith, c.requires, length-parts offsets bytes, ap length c.self.view_is, some-offset offsets c.self.invariant.0) in
    let ascii = ascii-further bytes c.self.inside.ascii_from (get_or offsets c.args.from 0) (omega (arith, c.if-self-start.true, c.start_of-start.ensures.start)) c.self.invariant.3 in
    let texts = texts-ascii offsets bytes c.args.from c.self.invariant.0 c.self.invariant.1 inside ascii in
    (λ _. subst (λ (xs : List (List ℕ)). All IsUtf8 (drop c.args.from xs)) c.self.view_is texts, λ _. refl)

pub returns-then-is_ascii : goal.returns-then-is_ascii
returns-then-is_ascii g c =
    let offsets = c.self.inside.offsets in
    let bytes = c.self.inside.values.items in
    let inside : c.args.from < length offsets = omega (arith, c.requires, length-parts offsets bytes, ap length c.self.view_is, some-offset offsets c.self.invariant.0) in
    let is = rest c.deref.result.now bytes offsets c.args.from c.start_of-start.result c.deref.ensures.value c.start_of-start.ensures.start in
    let texts = texts-ascii offsets bytes c.args.from c.self.invariant.0 c.self.invariant.1 inside (subst IsAscii is c.if-is_ascii.ensures.cases) in
    (λ _. subst (λ (xs : List (List ℕ)). All IsUtf8 (drop c.args.from xs)) c.self.view_is texts, λ _. refl)

pub returns-in-Err : goal.returns-in-Err
returns-in-Err g c =
    let offsets = c.self.inside.offsets in
    let bytes = c.self.inside.values.items in
    let inside : c.args.from < length offsets = omega (arith, c.requires, length-parts offsets bytes, ap length c.self.view_is, some-offset offsets c.self.invariant.0) in
    let is = rest c.deref.result.now bytes offsets c.args.from c.start_of-start.result c.deref.ensures.value c.start_of-start.ensures.start in (
      λ t. absurd (grind (arith, t)),
      λ texts. absurd (c.in-Err.ensures (subst IsUtf8 (sym is) (texts-together offsets bytes c.args.from c.self.invariant.0 c.self.invariant.1 inside (subst (λ (xs : List (List ℕ)). All IsUtf8 (drop c.args.from xs)) (sym c.self.view_is) texts)))),
    )

pub returns-in-Ok : goal.returns-in-Ok
returns-in-Ok g c =
    let offsets = c.self.inside.offsets in
    let bytes = c.self.inside.values.items in
    let inside : c.args.from < length offsets = omega (arith, c.requires, length-parts offsets bytes, ap length c.self.view_is, some-offset offsets c.self.invariant.0) in
    let is = c.in-Ok.ensures.0 ∙ rest c.deref.result.now bytes offsets c.args.from c.start_of-start.result c.deref.ensures.value c.start_of-start.ensures.start in
    let utf8 = subst IsUtf8 (sym c.in-Ok.ensures.0) c.in-Ok.ensures.1 in (
      λ t. subst (λ (xs : List (List ℕ)). All IsUtf8 (drop c.args.from xs)) c.self.view_is (texts-cut offsets bytes c.args.from c.self.invariant.0 c.self.invariant.1 inside c.in-Ok.text.now is utf8 (c.begin_at_characters.ensures.0 t)),
      λ texts. c.begin_at_characters.ensures.1 (texts-apart offsets bytes c.args.from c.self.invariant.0 c.self.invariant.1 inside c.in-Ok.text.now is (subst (λ (xs : List (List ℕ)). All IsUtf8 (drop c.args.from xs)) (sym c.self.view_is) texts)),
    )

pub begin_at_characters-requires-clause-length : goal.begin_at_characters-requires-clause-length
begin_at_characters-requires-clause-length g c =
    let offsets = c.self.inside.offsets in
    let bytes = c.self.inside.values.items in
    ap length (c.in-Ok.ensures.0 ∙ rest c.deref.result.now bytes offsets c.args.from c.start_of-start.result c.deref.ensures.value c.start_of-start.ensures.start) ∙ length-drop (get_or offsets c.args.from 0) bytes
    ∙ omega (arith, c.self.invariant.1, c.start_of-start.ensures.start)
