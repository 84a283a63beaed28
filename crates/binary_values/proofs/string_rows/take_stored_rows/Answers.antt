use Rattle.std.proofs.Common.{◌≡◌, ◌∙◌, ◌++◌, ℕ, List, [], ap, arith, drop, inl, inr, length, map, refl, subst, sym, take, unwrap_or}
use Rattle.std.specs.Prelude.{sum_by}
use Rattle.std.proofs.Math.Seq.{drop-append_seam}
use Rattle.std.proofs.lemmas.Bool.{true≢false}
use Rattle.columns_core.specs.declared.error.Error.TheVariants as errors
use Rattle.columns_core.specs.declared.error.Part.TheVariants.{Values}
use Rattle.parquet_encoding.specs.Places.{bytes_in}
use Rattle.parquet_page.specs.Levels.{present_count}
use Rattle.parquet_page.specs.ValidityParts.{word_places}
use Rattle.page_decoding.specs.Bytes.{row_bytes}
use Rattle.page_decoding.specs.Outcome.{IsCausedBy, Outcome}
use Rattle.binary_values.specs.ByteStrings.{AreJudged}
use Rattle.binary_values.proofs.RowLemmas.{judged-rows, rows_of, rows-judged}
use Rattle.binary_values.proofs.StoredLemmas.{judged-all, judged-bytes, not-judged, stored-at}
use Rattle.binary_values.proofs.string_rows.take_stored_rows.Goals as goal

-- the strings behind those that were held
behind : (old new strings : List (List ℕ)) (held : ℕ) → new ≡ old ++ strings → held ≡ length old → drop held new ≡ strings
behind old new strings held is counted = ap (λ n. drop n new) counted ∙ ap (drop (length old)) is ∙ drop-append_seam old strings

pub returns-then-are_judged_from-clause-texts : goal.returns-then-are_judged_from-clause-texts
returns-then-are_judged_from-clause-texts g c =
    let left = unwrap_or (g.W.StringWalk.places c.args.walk c.args.bytes.now) [] in
    let places = word_places c.args.word in
    let f = bytes_in c.args.bytes.now in
    let own = behind c.args.strings.now c.take_rows.new.strings (rows_of f places left) c.len-held.result c.in-Ok.ensures.added c.len-held.ensures in
    rows-judged c.args.is_text f places left (subst (AreJudged c.args.is_text) own (c.are_judged_from.ensures.0 c.if-are_judged_from.true))

pub returns-then-are_judged_from-clause-judged : goal.returns-then-are_judged_from-clause-judged
returns-then-are_judged_from-clause-judged g c =
    let left = unwrap_or (g.W.StringWalk.places c.args.walk c.args.bytes.now) [] in
    let rows = rows_of (bytes_in c.args.bytes.now) (word_places c.args.word) left in
    let old = c.args.strings.now in
    let new = c.take_rows.new.strings in
    let is = c.in-Ok.ensures.added in
    judged-all c.args.is_text old new rows is c.requires.judged (subst (AreJudged c.args.is_text) (behind old new rows c.len-held.result is c.len-held.ensures) (c.are_judged_from.ensures.0 c.if-are_judged_from.true))

pub returns-else-are_judged_from-clause-cause : goal.returns-else-are_judged_from-clause-cause
returns-else-are_judged_from-clause-cause g c =
    let found = g.W.StringWalk.places c.args.walk c.args.bytes.now in
    let left = unwrap_or found [] in
    let places = word_places c.args.word in
    let count = present_count places in
    let f = bytes_in c.args.bytes.now in
    let error = errors.OutOfSpec Values in
    let P : List Outcome → Type 0 = λ rows. IsCausedBy rows error in
    let own = behind c.args.strings.now c.take_rows.new.strings (rows_of f places left) c.len-held.result c.in-Ok.ensures.added c.len-held.ensures in
    inl (
    subst P (sym (stored-at c.args.is_text c.args.bytes.now found count))
    (not-judged c.args.is_text (map f (take count left)) error
    (λ judged. true≢false (sym (c.are_judged_from.ensures.1 (subst (AreJudged c.args.is_text) (sym own) (judged-rows c.args.is_text f places left judged))) ∙ c.if-are_judged_from.false)) refl))

pub returns-then-are_judged-clause-cause : goal.returns-then-are_judged-clause-cause
returns-then-are_judged-clause-cause g c =
    let found = g.W.StringWalk.places c.args.walk c.args.bytes.now in
    let left = unwrap_or found [] in
    let count = present_count (word_places c.args.word) in
    let f = bytes_in c.args.bytes.now in
    let judged : AreJudged c.args.is_text (map f (take count left)) = subst (λ n. AreJudged c.args.is_text (map f (take n left))) c.present.ensures (c.are_judged.ensures.0 c.if-are_judged.true) in
    let sum = ap (sum_by row_bytes) (stored-at c.args.is_text c.args.bytes.now found count) ∙ judged-bytes c.args.is_text (map f (take count left)) judged in
    inr (refl, elim c.in-Err-Overflow.ensures.err [ inl memory ↦ absurd (cc) | inr past ↦ omega (arith, past.1, sum) ])

pub returns-else-are_judged-clause-cause : goal.returns-else-are_judged-clause-cause
returns-else-are_judged-clause-cause g c =
    let found = g.W.StringWalk.places c.args.walk c.args.bytes.now in
    let left = unwrap_or found [] in
    let count = present_count (word_places c.args.word) in
    let f = bytes_in c.args.bytes.now in
    let error = errors.OutOfSpec Values in
    let P : List Outcome → Type 0 = λ rows. IsCausedBy rows error in
    inl (
    subst P (sym (stored-at c.args.is_text c.args.bytes.now found count))
    (not-judged c.args.is_text (map f (take count left)) error
    (λ judged. true≢false (sym (c.are_judged.ensures.1 (subst (λ n. AreJudged c.args.is_text (map f (take n left))) (sym c.present.ensures) judged)) ∙ c.if-are_judged.false)) refl))
