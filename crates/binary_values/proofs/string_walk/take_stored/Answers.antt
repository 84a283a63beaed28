use Rattle.std.proofs.Common.{◌≡◌, ◌∙◌, ◌++◌, ℕ, List, [], ap, arith, drop, inl, inr, length, map, refl, subst, sym, take, unwrap_or}
use Rattle.std.specs.Prelude.{sum_by}
use Rattle.std.proofs.Math.Seq.{drop-append_seam}
use Rattle.std.proofs.lemmas.Bool.{true≢false}
use Rattle.columns_core.specs.declared.error.Error.TheVariants as errors
use Rattle.parquet_encoding.specs.Places.{bytes_in}
use Rattle.page_decoding.specs.Bytes.{row_bytes}
use Rattle.page_decoding.specs.Outcome.{IsCausedBy, Outcome, causes_in}
use Rattle.binary_values.specs.ByteStrings.{AreJudged}
use Rattle.binary_values.proofs.StoredLemmas.{given_strings, judged-added, judged-all, judged-bytes, judged-given, none-wrong, not-judged, stored-at}
use Rattle.binary_values.proofs.string_walk.take_stored.Goals as goal

-- the strings behind those that were held
behind : (old new strings : List (List ℕ)) (held : ℕ) → new ≡ old ++ strings → held ≡ length old → drop held new ≡ strings
behind old new strings held is counted = ap (λ n. drop n new) counted ∙ ap (drop (length old)) is ∙ drop-append_seam old strings

pub returns-then-are_judged_from-clause-added : goal.returns-then-are_judged_from-clause-added
returns-then-are_judged_from-clause-added g c =
    let places = g.W.StringWalk.places c.args.walk c.args.bytes.now in
    let old = c.args.strings.now in
    let new = c.take_strings.new.strings in
    let strings = map (bytes_in c.args.bytes.now) (take c.args.count (unwrap_or places [])) in
    let is = c.in-Ok.ensures.added in
    let judged = subst (AreJudged c.args.is_text) (behind old new strings c.len-held.result is c.len-held.ensures) (c.are_judged_from.ensures.0 c.if-are_judged_from.true) in
    judged-added c.args.is_text old new strings is judged ∙ ap (λ rows. given_strings c.args.is_text old ++ rows) (sym (stored-at c.args.is_text c.args.bytes.now places c.args.count))

pub returns-then-are_judged_from-clause-judged : goal.returns-then-are_judged_from-clause-judged
returns-then-are_judged_from-clause-judged g c =
    let places = g.W.StringWalk.places c.args.walk c.args.bytes.now in
    let old = c.args.strings.now in
    let new = c.take_strings.new.strings in
    let strings = map (bytes_in c.args.bytes.now) (take c.args.count (unwrap_or places [])) in
    let is = c.in-Ok.ensures.added in
    let judged = subst (AreJudged c.args.is_text) (behind old new strings c.len-held.result is c.len-held.ensures) (c.are_judged_from.ensures.0 c.if-are_judged_from.true) in
    judged-all c.args.is_text old new strings is c.requires.judged judged

pub returns-else-are_judged_from-clause-cause : goal.returns-else-are_judged_from-clause-cause
returns-else-are_judged_from-clause-cause g c =
    let places = g.W.StringWalk.places c.args.walk c.args.bytes.now in
    let old = c.args.strings.now in
    let new = c.take_strings.new.strings in
    let strings = map (bytes_in c.args.bytes.now) (take c.args.count (unwrap_or places [])) in
    let P : List Outcome → Type 0 = λ rows. IsCausedBy rows (errors.OutOfSpec c.args.part) in
    let own = behind old new strings c.len-held.result c.in-Ok.ensures.added c.len-held.ensures in
    inl (
    subst P (sym (stored-at c.args.is_text c.args.bytes.now places c.args.count))
    (not-judged c.args.is_text strings (errors.OutOfSpec c.args.part) (λ judged. true≢false (sym (c.are_judged_from.ensures.1 (subst (AreJudged c.args.is_text) (sym own) judged)) ∙ c.if-are_judged_from.false)) refl))

pub returns-then-are_judged-clause-cause : goal.returns-then-are_judged-clause-cause
returns-then-are_judged-clause-cause g c =
    let places = g.W.StringWalk.places c.args.walk c.args.bytes.now in
    let strings = map (bytes_in c.args.bytes.now) (take c.args.count (unwrap_or places [])) in
    let judged = c.are_judged.ensures.0 c.if-are_judged.true in
    let sum = ap (sum_by row_bytes) (stored-at c.args.is_text c.args.bytes.now places c.args.count) ∙ judged-bytes c.args.is_text strings judged in
    inr (refl, elim c.in-Err-Overflow.ensures.err [ inl memory ↦ absurd (cc) | inr past ↦ omega (arith, past.1, sum) ])

pub returns-then-are_judged-clause-whole : goal.returns-then-are_judged-clause-whole
returns-then-are_judged-clause-whole g c = λ _.
    let places = g.W.StringWalk.places c.args.walk c.args.bytes.now in
    let strings = map (bytes_in c.args.bytes.now) (take c.args.count (unwrap_or places [])) in
    let judged = c.are_judged.ensures.0 c.if-are_judged.true in
    ap causes_in (stored-at c.args.is_text c.args.bytes.now places c.args.count ∙ judged-given c.args.is_text strings judged) ∙ none-wrong c.args.is_text strings

pub returns-else-are_judged-clause-cause : goal.returns-else-are_judged-clause-cause
returns-else-are_judged-clause-cause g c =
    let places = g.W.StringWalk.places c.args.walk c.args.bytes.now in
    let strings = map (bytes_in c.args.bytes.now) (take c.args.count (unwrap_or places [])) in
    let P : List Outcome → Type 0 = λ rows. IsCausedBy rows (errors.OutOfSpec c.args.part) in
    inl (
    subst P (sym (stored-at c.args.is_text c.args.bytes.now places c.args.count))
    (not-judged c.args.is_text strings (errors.OutOfSpec c.args.part) (λ judged. true≢false (sym (c.are_judged.ensures.1 judged) ∙ c.if-are_judged.false)) refl))
