-- Short strings, joined in a block, and the lengths of the rows of a word.
use Rattle.std.proofs.Common.{◌≡◌, ℕ, ℤ, pos, ◌+◌, ◌-◌, ◌<◌, ◌≤◌, Bool, true, false, List, [], ◌∷◌, ◌++◌, length, get_or, take, drop, map, refl, sym, ap, ap₂, ◌∙◌, arith, append-nil, length-drop}
use Rattle.std.specs.Prelude.{nat_abs, sum_by, slice_set}
use Rattle.std.specs.List.{flat_map}
use Rattle.std.proofs.lemmas.List.{length-map, length-take-le, map-append, take_at, take_more, take_more_set}
use Rattle.std.proofs.lemmas.List.Sums.{sum_by-cons}
use Rattle.std.proofs.lemmas.List.Concat.{flat_map-append}
use Rattle.parquet_encoding.specs.Places.{bytes_in}
use Rattle.flat_values.specs.Decoded.{spread_over}
use Rattle.flat_values.proofs.SpreadLemmas.{length-spread}
use Rattle.binary_values.proofs.EndLemmas.{cut-strings, joined-bytes}
use Rattle.binary_values.proofs.JoinedLemmas.{same-sum}
use Rattle.parquet_page.specs.Levels.{present_count}
use Rattle.parquet_page.proofs.SpelledLemmas.{absent_same, present_suc}
use Rattle.binary_values.specs.JoinedStrings.{cut_into}

-- ---- the rows of a word

abbrev spread_lengths : List Bool → List ℤ → List ℤ
spread_lengths places lengths = spread_over (pos 0) places lengths

pub sum-spread_lengths : (places : List Bool) (lengths : List ℤ) → length lengths ≤ present_count places → sum_by nat_abs (spread_lengths places lengths) ≡ sum_by nat_abs lengths
sum-spread_lengths [] [] few = refl
sum-spread_lengths [] (long ∷ lengths) few = absurd (omega (arith, few))
sum-spread_lengths (false ∷ places) lengths few = omega (arith, sum_by-cons nat_abs (pos 0) (spread_lengths places lengths), sum-spread_lengths places lengths (omega (arith, few, absent_same places)))
sum-spread_lengths (true ∷ places) [] few = omega (arith, sum_by-cons nat_abs (pos 0) (spread_lengths places []), sum-spread_lengths places [] (omega arith))
sum-spread_lengths (true ∷ places) (long ∷ lengths) few =
    omega (arith, sum_by-cons nat_abs long (spread_lengths places lengths), sum_by-cons nat_abs long lengths, sum-spread_lengths places lengths (omega (arith, few, present_suc places)))

-- joined bytes, cut into the strings of the rows
pub cut-spread : (places : List Bool) (lengths : List ℤ) (joined : List ℕ) → cut_into (map nat_abs (spread_lengths places lengths)) joined ≡ spread_over [] places (cut_into (map nat_abs lengths) joined)
cut-spread [] lengths joined = refl
cut-spread (false ∷ places) lengths joined = ap (λ strings. [] ∷ strings) (cut-spread places lengths joined)
cut-spread (true ∷ places) [] joined = ap (λ strings. [] ∷ strings) (cut-spread places [] joined)
cut-spread (true ∷ places) (long ∷ lengths) joined = ap (λ strings. take (nat_abs long) joined ∷ strings) (cut-spread places lengths (drop (nat_abs long) joined))

-- ---- the block

module _ {A : Type 0} (f : A → List ℕ) (xs : List A) (i : ℕ) (x : A) (within : i < length xs) (own : get_or xs i x ≡ x) where
  pub one-taken : take (i + 1) xs ≡ take i xs ++ x ∷ []
  one-taken = take_more xs i x within ∙ ap (λ y. take i xs ++ y ∷ []) own

  pub joined-more : flat_map f (take i xs) ++ f x ≡ flat_map f (take (i + 1) xs)
  joined-more = ap (λ ys. flat_map f (take i xs) ++ ys) (sym (append-nil (f x))) ∙ sym (ap (flat_map f) one-taken ∙ flat_map-append f (take i xs) (x ∷ []))

  pub lengths-more : (lengths : List ℤ) (long : ℕ) → i < length lengths → map nat_abs (take i lengths) ≡ map (λ y. length (f y)) (take i xs) → length (f x) ≡ long
      → map nat_abs (take (i + 1) (slice_set lengths i (pos long))) ≡ map (λ y. length (f y)) (take (i + 1) xs)
  lengths-more lengths long room before is =
      ap (map nat_abs) (take_more_set lengths i (pos long) room) ∙ map-append nat_abs (take i lengths) (pos long ∷ [])
      ∙ ap₂ (λ front n. front ++ n ∷ []) before (sym is)
      ∙ sym (ap (map (λ y. length (f y))) one-taken ∙ map-append (λ y. length (f y)) (take i xs) (x ∷ []))

pub length-of_bytes : (bytes : List ℕ) (start long : ℕ) → start + long ≤ length bytes → length (bytes_in bytes (start, long)) ≡ long
length-of_bytes bytes start long within =
    let own : start + long - start ≡ long = omega arith in
    ap (λ n. length (take n (drop start bytes))) own ∙ length-take-le long (drop start bytes) (omega (arith, within, length-drop start bytes))

-- ---- the lengths of the rows

number-lengths : {A : Type 0} (f : A → List ℕ) (items : List A) → map nat_abs (map (λ item. pos (length (f item))) items) ≡ map (λ item. length (f item)) items
number-lengths f [] = refl
number-lengths f (item ∷ items) = ap (λ ns. length (f item) ∷ ns) (number-lengths f items)

-- what the rows of a word are, by short strings
pub word-rows : {A : Type 0} (f : A → List ℕ) (places : List Bool) (items : List A) (joined : List ℕ) (rows : ℕ) (lengths behind : List ℤ) → length places ≡ rows → length items ≤ present_count places
    → lengths ≡ spread_lengths places (map (λ item. pos (length (f item))) items) → joined ≡ flat_map f items
    → (sum_by nat_abs (take rows (lengths ++ behind)) ≡ length joined) × (cut_into (map nat_abs (take rows (lengths ++ behind))) joined ≡ spread_over [] places (map f items)) × (length joined ≡ sum_by length (map f items))
word-rows f places items joined rows lengths behind long few is joins =
    let short = map (λ item. pos (length (f item))) items in
    let own = number-lengths f items in
    let front : take rows (lengths ++ behind) ≡ spread_lengths places short = take_at lengths behind rows (ap length is ∙ length-spread (pos 0) places short ∙ long) ∙ is in
    let bytes : length joined ≡ sum_by length (map f items) = ap length joins ∙ joined-bytes f items in (
      ap (sum_by nat_abs) front ∙ sum-spread_lengths places short (omega (arith, few, length-map items (λ item. pos (length (f item))))) ∙ same-sum f short items own ∙ sym bytes,
      ap (λ ls. cut_into (map nat_abs ls) joined) front ∙ cut-spread places short joined ∙ ap (spread_over [] places) (ap₂ cut_into own joins ∙ cut-strings f items),
      bytes,
    )
