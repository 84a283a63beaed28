-- What stored byte strings give.
use Rattle.std.proofs.Common.{◌≡◌, ℕ, Bool, true, false, List, [], ◌∷◌, ◌++◌, length, map, take, refl, sym, ap, ◌∙◌, subst, inl, inr, arith}
use Rattle.std.specs.Prelude.{All, IsUtf8, Some, sum_by, unwrap_or, Option, if◌then◌else◌}
use Rattle.std.specs.Str.{is_utf8}
use Rattle.std.proofs.lemmas.Bool.{cases_Bool}
use Rattle.std.proofs.lemmas.List.{map-append, take-map}
use Rattle.std.proofs.lemmas.List.Elements.{All-nil, All-cons, All-tail, All-append}
use Rattle.std.proofs.lemmas.List.Sums.{sum_by-cons}
use Rattle.std.proofs.lemmas.Simd.{map-map}
use Rattle.std.proofs.lemmas.Str.{IsUtf8-from_is_utf8, is_utf8-from_IsUtf8}
use Rattle.columns_core.specs.Causes.{Cause, IsOneOf, OutOfSpec, cause_of}
use Rattle.columns_core.specs.declared.cell.Cell.{Text}
use Rattle.columns_core.specs.declared.error.Error.{Error}
use Rattle.parquet_encoding.specs.Places.{bytes_in}
use Rattle.parquet_page.specs.Stored.{Octets}
use Rattle.page_decoding.specs.Bytes.{row_bytes}
use Rattle.page_decoding.specs.Outcome.{Outcome, Given, Refused, IsCausedBy, causes_in}
use Rattle.page_decoding.proofs.RowLemmas.{caused-left, caused-right}
use Rattle.flat_values.specs.Added.{Adds}
use Rattle.flat_values.specs.Conversion.{AsText}
use Rattle.flat_values.specs.Outcomes.{stored_outcome}
use Rattle.binary_values.specs.ByteStrings.{AreJudged, byte_cell, byte_rule, stored_outcomes}

abbrev pub given_strings : Bool → List (List ℕ) → List Outcome
given_strings is_text strings = map (λ string. Given (byte_cell is_text string)) strings

abbrev pub stored_strings : Bool → List (List ℕ) → List Outcome
stored_strings is_text strings = map (λ string. stored_outcome (byte_rule is_text) (Octets string)) strings

-- the strings at some places
pub stored-at : (is_text : Bool) (bytes : List ℕ) (places : Option (List (ℕ × ℕ))) (count : ℕ)
    → take count (stored_outcomes is_text bytes places) ≡ stored_strings is_text (map (bytes_in bytes) (take count (unwrap_or places [])))
stored-at is_text bytes places count =
    take-map (λ place. stored_outcome (byte_rule is_text) (Octets (bytes_in bytes place))) count (unwrap_or places [])
    ∙ sym (map-map (λ string. stored_outcome (byte_rule is_text) (Octets string)) (bytes_in bytes) (take count (unwrap_or places [])))

as-text : (string : List ℕ) (b : Bool) → is_utf8 string ≡ b → stored_outcome AsText (Octets string) ≡ (if b then Given (Text string) else Refused (OutOfSpec ∷ []))
as-text string true e = rw e refl
as-text string false e = rw e refl

first : (string : List ℕ) (strings : List (List ℕ)) → All IsUtf8 (string ∷ strings) → IsUtf8 string
first string strings all = all 0 [] (omega arith)

-- Judged strings are given as cells.
pub judged-given : (is_text : Bool) (strings : List (List ℕ)) → AreJudged is_text strings → stored_strings is_text strings ≡ given_strings is_text strings
judged-given false strings judged = refl
judged-given true [] judged = refl
judged-given true (string ∷ strings) judged =
    let all = judged refl in
    ap (λ o. o ∷ stored_strings true strings) (as-text string true (is_utf8-from_IsUtf8 string (first string strings all)))
    ∙ ap (λ rest. Given (Text string) ∷ rest) (judged-given true strings (λ _. All-tail IsUtf8 string strings all))

-- Of strings that are not all texts one is refused.
not-texts : (strings : List (List ℕ)) (error : Error) → (All IsUtf8 strings → ⊥) → cause_of error ≡ Some OutOfSpec → IsCausedBy (stored_strings true strings) error
not-texts [] error wrong told = absurd (wrong (All-nil IsUtf8))
not-texts (string ∷ strings) error wrong told =
    let own = stored_outcome AsText (Octets string) in
    let P : List Outcome → Type 0 = λ front. IsCausedBy front error in
    let Q : Option Cause → Type 0 = λ found. IsOneOf (OutOfSpec ∷ []) found in
    elim (cases_Bool (is_utf8 string)) [
      | inl utf8 ↦ caused-right (own ∷ []) (stored_strings true strings) error (not-texts strings error (λ all. wrong (All-cons IsUtf8 string strings (IsUtf8-from_is_utf8 string utf8) all)) told)
      | inr other ↦ caused-left (own ∷ []) (stored_strings true strings) error (subst P (ap (λ o. o ∷ []) (sym (as-text string false other))) (inr (subst Q (sym told) (0, omega arith, refl))))
    ]

pub not-judged : (is_text : Bool) (strings : List (List ℕ)) (error : Error) → (AreJudged is_text strings → ⊥) → cause_of error ≡ Some OutOfSpec → IsCausedBy (stored_strings is_text strings) error
not-judged true strings error wrong told = not-texts strings error (λ all. wrong (λ _. all)) told
not-judged false strings error wrong told = absurd (wrong (λ is. cc))

-- what is given is not wrong, and has the bytes of the strings
pub none-wrong : (is_text : Bool) (strings : List (List ℕ)) → causes_in (given_strings is_text strings) ≡ []
none-wrong is_text [] = refl
none-wrong is_text (string ∷ strings) = none-wrong is_text strings

row-given : (is_text : Bool) (string : List ℕ) → row_bytes (Given (byte_cell is_text string)) ≡ length string
row-given true string = refl
row-given false string = refl

pub bytes-given : (is_text : Bool) (strings : List (List ℕ)) → sum_by row_bytes (given_strings is_text strings) ≡ sum_by length strings
bytes-given is_text [] = refl
bytes-given is_text (string ∷ strings) =
    omega (arith, sum_by-cons row_bytes (Given (byte_cell is_text string)) (given_strings is_text strings), sum_by-cons length string strings, row-given is_text string, bytes-given is_text strings)

-- judged strings behind others
pub judged-added : (is_text : Bool) (old new strings : List (List ℕ)) → new ≡ old ++ strings → AreJudged is_text strings → Adds (byte_cell is_text) old new (stored_strings is_text strings)
judged-added is_text old new strings is judged =
    ap (given_strings is_text) is ∙ map-append (λ string. Given (byte_cell is_text string)) old strings
    ∙ ap (λ rows. given_strings is_text old ++ rows) (sym (judged-given is_text strings judged))

pub judged-all : (is_text : Bool) (old new strings : List (List ℕ)) → new ≡ old ++ strings → AreJudged is_text old → AreJudged is_text strings → AreJudged is_text new
judged-all is_text old new strings is held judged = λ text.
    let P : List (List ℕ) → Type 0 = All IsUtf8 in
    subst P (sym is) (All-append IsUtf8 old strings (held text) (judged text))

-- the bytes of judged strings
pub judged-bytes : (is_text : Bool) (strings : List (List ℕ)) → AreJudged is_text strings → sum_by row_bytes (stored_strings is_text strings) ≡ sum_by length strings
judged-bytes is_text strings judged = ap (sum_by row_bytes) (judged-given is_text strings judged) ∙ bytes-given is_text strings
