-- Entries that keys name, as byte strings and as texts.
use Rattle.std.proofs.Common.{◌≡◌, ℕ, zero, suc, ◌+◌, ◌<◌, ◌≤◌, Bool, true, false, List, [], ◌∷◌, ◌++◌, length, map, take, get_or, Option, Some, None, refl, sym, ap, ap₂, ◌∙◌, subst, inl, inr, arith}
use Rattle.std.specs.Prelude.{All, IsUtf8, IfSome, slice_get, sum_by, unwrap_or}
use Rattle.std.specs.Option.{option_map_or}
use Rattle.std.proofs.Math.ListN.{get_or-map}
use Rattle.std.proofs.lemmas.List.{map-append, take-map, length-map}
use Rattle.std.proofs.lemmas.List.Elements.{All-append, All-cons, All-nil}
use Rattle.std.proofs.lemmas.List.Sums.{sum_by-append, sum_by-cons, sum_by_more_le}
use Rattle.std.proofs.lemmas.Option.{slice_get_within, get_or_from_slice_get}
use Rattle.std.proofs.lemmas.Simd.{map-map}
use Rattle.columns_core.specs.Causes.{Cause, IsOneOf, OutOfSpec, cause_of}
use Rattle.columns_core.specs.declared.cell.Cell.{Cell, Text, Bytes}
use Rattle.columns_core.specs.declared.error.Error.{Error}
use Rattle.page_decoding.specs.Bytes.{row_bytes}
use Rattle.page_decoding.specs.Outcome.{Outcome, Given, Refused, causes_in}
use Rattle.flat_values.specs.Added.{Adds}
use Rattle.flat_values.specs.Outcomes.{entry_outcome}
use Rattle.flat_values.proofs.TakeLemmas.{Turn, given_cells}
use Rattle.binary_values.specs.ByteStrings.{AreJudged, IsCausedByBytes, byte_cell, byte_entries}
use Rattle.binary_values.proofs.StoredLemmas.{bytes-given}
use Rattle.binary_values.proofs.WalkLemmas.{sum-fewer}

named_or : {A B : Type 0} (f : A → B) (xs : List A) (k : ℕ) (g : B → Outcome) (h : Outcome) → option_map_or g (slice_get (map f xs) k) h ≡ option_map_or (λ x. g (f x)) (slice_get xs k) h
named_or f [] k g h = refl
named_or f (x ∷ xs) zero g h = refl
named_or f (x ∷ xs) (suc k) g h = named_or f xs k g h

-- what a key gives, by the entry that it names
pub keyed : (is_text : Bool) (dict : Option (List (List ℕ))) (key : ℕ)
    → entry_outcome (byte_entries is_text dict) key ≡ option_map_or (λ entry. Given (byte_cell is_text entry)) (slice_get (unwrap_or dict []) key) (Refused (OutOfSpec ∷ []))
keyed is_text None key = refl
keyed is_text (Some entries) key = named_or (byte_cell is_text) entries key Given (Refused (OutOfSpec ∷ []))

pub named-entry : (dict : Option (List (List ℕ))) (key : ℕ) (entry : List ℕ) → Some entry ≡ slice_get (unwrap_or dict []) key → Given (Bytes entry) ≡ entry_outcome (byte_entries false dict) key
named-entry dict key entry e = ap (λ o. option_map_or (λ entry. Given (Bytes entry)) o (Refused (OutOfSpec ∷ []))) e ∙ sym (keyed false dict key)

pub named-none : (dict : Option (List (List ℕ))) (key : ℕ) → None ≡ slice_get (unwrap_or dict []) key → entry_outcome (byte_entries false dict) key ≡ Refused (OutOfSpec ∷ [])
named-none dict key e = keyed false dict key ∙ sym (ap (λ o. option_map_or (λ entry. Given (Bytes entry)) o (Refused (OutOfSpec ∷ []))) e)

-- an entry of texts is a text
pub named-text : (dict : Option (List (List ℕ))) (key : ℕ) (entry : List ℕ) → Some entry ≡ slice_get (unwrap_or dict []) key → IfSome dict (All IsUtf8) → IsUtf8 entry
named-text None key entry e texts = cc
named-text (Some entries) key entry e texts =
    subst IsUtf8 (get_or_from_slice_get entries key entry entry (sym e)) (texts key entry (slice_get_within entries key entry (sym e)))

pub text-behind : (now new : List (List ℕ)) (entry : List ℕ) → new ≡ now ++ entry ∷ [] → All IsUtf8 now → IsUtf8 entry → All IsUtf8 new
text-behind now new entry is texts text =
    let P : List (List ℕ) → Type 0 = All IsUtf8 in
    subst P (sym is) (All-append IsUtf8 now (entry ∷ []) texts (All-cons IsUtf8 entry [] text (All-nil IsUtf8)))

-- ---- bytes

held-bytes : (strings : List (List ℕ)) (rows : List Outcome) → sum_by row_bytes (given_cells Bytes strings ++ rows) ≡ sum_by length strings + sum_by row_bytes rows
held-bytes strings rows = omega (arith, sum_by-append row_bytes (given_cells Bytes strings) rows, bytes-given false strings)

-- an entry that is one too many
pub named-past : (f : ℕ → Outcome) (old now : List (List ℕ)) (keys : List ℕ) (i most : ℕ) (entry : List ℕ) → Adds Bytes old now (map f (take i keys)) → i < length keys → Given (Bytes entry) ≡ f (get_or keys i 0)
    → most < sum_by length now + length entry → most < sum_by length old + sum_by row_bytes (map f keys)
named-past f old now keys i most entry added within own past =
    let held = sym (bytes-given false now) ∙ ap (sum_by row_bytes) added ∙ held-bytes old (map f (take i keys)) in
    let inside : i < length (map f keys) = omega (arith, within, length-map keys f) in
    let more = sum_by_more_le row_bytes (map f keys) i (f 0) inside in
    omega (arith, past, held, more, ap (sum_by row_bytes) (take-map f i keys), ap row_bytes (get_or-map f keys i 0), ap row_bytes own)

-- so are those of a later turn
pub turn-past : (f : ℕ → Outcome) (old mid : List (List ℕ)) (count left found most : ℕ) (whole now own : List ℕ) → Turn Bytes f old mid count left whole now → found ≤ left → own ≡ take found now
    → most < sum_by length mid + sum_by row_bytes (map f own) → most < sum_by length old + sum_by row_bytes (take count (map f whole))
turn-past f old mid count left found most whole now own turn few is past =
    let all = sym (held-bytes mid (map f (take left now))) ∙ ap (sum_by row_bytes) turn.added ∙ held-bytes old (take count (map f whole)) in
    let fewer = sum-fewer row_bytes (map f now) found left few in
    omega (arith, past, all, fewer, ap (λ xs. sum_by row_bytes (map f xs)) is, ap (sum_by row_bytes) (take-map f found now), ap (sum_by row_bytes) (take-map f left now))

-- ---- byte strings as texts

abbrev text_of : Cell → Cell
text_of (Bytes bytes) = Text bytes
text_of cell = cell

abbrev retyped : Outcome → Outcome
retyped (Given cell) = Given (text_of cell)
retyped (Refused causes) = Refused causes

retyped-causes : (rows : List Outcome) → causes_in (map retyped rows) ≡ causes_in rows
retyped-causes [] = refl
retyped-causes (Given cell ∷ rows) = retyped-causes rows
retyped-causes (Refused causes ∷ rows) = ap (λ rest. causes ++ rest) (retyped-causes rows)

key-bytes : (dict : Option (List (List ℕ))) (key : ℕ) → row_bytes (entry_outcome (byte_entries true dict) key) ≡ row_bytes (entry_outcome (byte_entries false dict) key)
key-bytes dict key = ap row_bytes (keyed true dict key) ∙ same (slice_get (unwrap_or dict []) key) ∙ sym (ap row_bytes (keyed false dict key)) where
  same : (o : Option (List ℕ)) → row_bytes (option_map_or (λ entry. Given (Text entry)) o (Refused (OutOfSpec ∷ []))) ≡ row_bytes (option_map_or (λ entry. Given (Bytes entry)) o (Refused (OutOfSpec ∷ [])))
  same None = refl
  same (Some entry) = refl

keys-bytes : (dict : Option (List (List ℕ))) (keys : List ℕ) → sum_by row_bytes (map (entry_outcome (byte_entries true dict)) keys) ≡ sum_by row_bytes (map (entry_outcome (byte_entries false dict)) keys)
keys-bytes dict [] = refl
keys-bytes dict (key ∷ keys) =
    let f = entry_outcome (byte_entries true dict) in
    let g = entry_outcome (byte_entries false dict) in
    omega (arith, sum_by-cons row_bytes (f key) (map f keys), sum_by-cons row_bytes (g key) (map g keys), key-bytes dict key, keys-bytes dict keys)

retyped-key : (dict : Option (List (List ℕ))) (key : ℕ) → retyped (entry_outcome (byte_entries false dict) key) ≡ entry_outcome (byte_entries true dict) key
retyped-key dict key = ap retyped (keyed false dict key) ∙ same (slice_get (unwrap_or dict []) key) ∙ sym (keyed true dict key) where
  same : (o : Option (List ℕ)) → retyped (option_map_or (λ entry. Given (Bytes entry)) o (Refused (OutOfSpec ∷ []))) ≡ option_map_or (λ entry. Given (Text entry)) o (Refused (OutOfSpec ∷ []))
  same None = refl
  same (Some entry) = refl

retyped-keys : (dict : Option (List (List ℕ))) (keys : List ℕ) → map retyped (map (entry_outcome (byte_entries false dict)) keys) ≡ map (entry_outcome (byte_entries true dict)) keys
retyped-keys dict [] = refl
retyped-keys dict (key ∷ keys) = ap₂ (λ row rows. row ∷ rows) (retyped-key dict key) (retyped-keys dict keys)

retyped-rows : (dict : Option (List (List ℕ))) (keys : List ℕ) (count : ℕ) → map retyped (take count (map (entry_outcome (byte_entries false dict)) keys)) ≡ take count (map (entry_outcome (byte_entries true dict)) keys)
retyped-rows dict keys count = sym (take-map retyped count (map (entry_outcome (byte_entries false dict)) keys)) ∙ ap (take count) (retyped-keys dict keys)

pub named-added : (is_text : Bool) (dict : Option (List (List ℕ))) (keys : List ℕ) (count : ℕ) (old new : List (List ℕ)) → Adds Bytes old new (take count (map (entry_outcome (byte_entries false dict)) keys))
    → Adds (byte_cell is_text) old new (take count (map (entry_outcome (byte_entries is_text dict)) keys))
named-added false dict keys count old new added = added
named-added true dict keys count old new added =
    let rows = take count (map (entry_outcome (byte_entries false dict)) keys) in
    sym (map-map retyped (λ y. Given (Bytes y)) new) ∙ ap (map retyped) added ∙ map-append retyped (given_cells Bytes old) rows
    ∙ ap₂ (λ front behind. front ++ behind) (map-map retyped (λ y. Given (Bytes y)) old) (retyped-rows dict keys count)

pub named-caused : (is_text : Bool) (dict : Option (List (List ℕ))) (keys : List ℕ) (count most : ℕ) (old : List (List ℕ)) (error : Error) → IsCausedByBytes most old (take count (map (entry_outcome (byte_entries false dict)) keys)) error
    → IsCausedByBytes most old (take count (map (entry_outcome (byte_entries is_text dict)) keys)) error
named-caused false dict keys count most old error told = told
named-caused true dict keys count most old error (inl (inl memory)) = inl (inl memory)
named-caused true dict keys count most old error (inl (inr told)) =
    let P : List Cause → Type 0 = λ causes. IsOneOf causes (cause_of error) in
    inl (inr (subst P (sym (retyped-causes (take count (map (entry_outcome (byte_entries false dict)) keys))) ∙ ap causes_in (retyped-rows dict keys count)) told))
named-caused true dict keys count most old error (inr (is, past)) =
    let f = entry_outcome (byte_entries true dict) in
    let g = entry_outcome (byte_entries false dict) in
    inr (is, omega (arith, past, keys-bytes dict (take count keys), ap (sum_by row_bytes) (take-map f count keys), ap (sum_by row_bytes) (take-map g count keys)))

pub named-judged : (is_text : Bool) (dict : Option (List (List ℕ))) (old new : List (List ℕ)) → (All IsUtf8 old → IfSome dict (All IsUtf8) → All IsUtf8 new) → IfSome dict (AreJudged is_text) → AreJudged is_text old → AreJudged is_text new
named-judged is_text None old new texts own judged = λ text. texts (judged text) own
named-judged is_text (Some entries) old new texts own judged = λ text. texts (judged text) (own text)
