-- Keys below a limit, and keys past one.
use Rattle.std.proofs.Common.{◌≡◌, ℕ, ℤ, ◌<◌, ◌≤◌, true, false, List, [], ◌∷◌, ◌++◌, length, map, get_or, Some, refl, ap, sym, subst, ◌∙◌, arith}
use Rattle.std.specs.Prelude.{MatchResult, OnOk, Option, Result, pos, ◌||◌, nat_le, min}
use Rattle.std.specs.Fn.{Called, Mut}
use Rattle.std.specs.Iterator.{AlwaysYields, Drains, Yields}
use Rattle.std.specs.Iterator.Adapters.{map_callee, map_source}
use Rattle.std.specs.List.{range_with_len}
use Rattle.std.specs.declared.iter.Map.{Map}
use Rattle.std.proofs.lemmas.Bool.{leb-false, lt-leb, or_parts}
use Rattle.std.proofs.lemmas.Iterator.{YieldsList, maps}
use Rattle.std.proofs.lemmas.List.FromFn.{get_or-range_with_len, length-map-range_with_len, length-range_with_len}
use Rattle.std.proofs.lemmas.Simd.{map-map}
use Rattle.columns_core.specs.Causes.{OutOfSpec, cause_of}
use Rattle.columns_core.specs.declared.cell.Cell.{Int}
use Rattle.columns_core.specs.declared.error.Error.{Error}
use Rattle.parquet_page.specs.Values.{has_key_past}
use Rattle.page_decoding.specs.Outcome.{Given, IsCausedBy}
use Rattle.flat_values.specs.Added.{Adds}
use Rattle.flat_values.specs.Conversion.{Item, Value}
use Rattle.flat_values.specs.Outcomes.{entry_outcome}
use Rattle.flat_values.proofs.AddedLemmas.{chain_adds}
use Rattle.flat_values.proofs.ExtendLemmas.{shown_from_extend}
use Rattle.flat_values.proofs.KeyLemmas.{named, past_refused}
use Rattle.dictionary_values.specs.KeysGiven.{numbers_below}

pub length-numbers : (limit : ℕ) → length (numbers_below limit) ≡ limit
length-numbers limit = length-map-range_with_len (λ (key : ℕ). Int (pos key)) 0 limit

-- a key below the limit is given
pub below-given : (limit key : ℕ) → key < limit → entry_outcome (Some (numbers_below limit)) key ≡ Given (Int (pos key))
below-given limit key below =
    let keys = range_with_len 0 limit in
    let is : key ≡ get_or keys key key = omega (arith, get_or-range_with_len 0 limit key key below) in
    sym (named (λ (n : ℕ). Int (pos n)) keys key key (omega (arith, below, length-range_with_len 0 limit)) is)

-- ---- whether some key is past

pub first-below : (most key : ℕ) (keys : List ℕ) → has_key_past most (key ∷ keys) ≡ false → key < most
first-below most key keys none = leb-false most key (or_parts (nat_le most key) (has_key_past most keys) none).0

pub others-below : (most key : ℕ) (keys : List ℕ) → has_key_past most (key ∷ keys) ≡ false → has_key_past most keys ≡ false
others-below most key keys none = (or_parts (nat_le most key) (has_key_past most keys) none).1

-- what is not past the lesser is not past the greater
pub below-more : (few many : ℕ) (keys : List ℕ) → few ≤ many → has_key_past few keys ≡ false → has_key_past many keys ≡ false
below-more few many [] le none = refl
below-more few many (key ∷ keys) le none =
    let first = lt-leb many key (omega (arith, le, first-below few key keys none)) in
    ap (λ past. past || has_key_past many keys) first ∙ below-more few many keys le (others-below few key keys none)

pub below-both : (one other : ℕ) (keys : List ℕ) → has_key_past one keys ≡ false → has_key_past other keys ≡ false → has_key_past (min one other) keys ≡ false
below-both one other [] a b = refl
below-both one other (key ∷ keys) a b =
    let first = lt-leb (min one other) key (omega (arith, first-below one key keys a, first-below other key keys b)) in
    ap (λ past. past || has_key_past (min one other) keys) first ∙ below-both one other keys (others-below one key keys a) (others-below other key keys b)

-- ---- keys of numbers

-- numbers of which one is past the limit are refused
pub past_numbers_refused : (limit : ℕ) (numbers : List ℕ) (error : Error) → cause_of error ≡ Some OutOfSpec → has_key_past limit numbers ≡ true → IsCausedBy (map (entry_outcome (Some (numbers_below limit))) numbers) error
past_numbers_refused limit numbers error told past =
    past_refused (λ (key : ℕ). Int (pos key)) (range_with_len 0 limit) numbers error told (ap (λ count. has_key_past count numbers) (length-range_with_len 0 limit) ∙ past)

-- others are given as they are
numbers_given : (limit : ℕ) (numbers : List ℕ) → has_key_past limit numbers ≡ false → map (λ (key : ℕ). Given (Int (pos key))) numbers ≡ map (entry_outcome (Some (numbers_below limit))) numbers
numbers_given limit [] none = refl
numbers_given limit (key ∷ keys) none =
    ap (λ given. given ∷ map (λ (key : ℕ). Given (Int (pos key))) keys) (sym (below-given limit key (first-below limit key keys none)))
    ∙ ap (λ others. entry_outcome (Some (numbers_below limit)) key ∷ others) (numbers_given limit keys (others-below limit key keys none))

-- keys that were added, each of its number
pub keys_added : {K : Type 0} (number : K → ℤ) (old new more : List K) (limit : ℕ) (numbers : List ℕ) → new ≡ old ++ more → map number more ≡ map (λ (key : ℕ). pos key) numbers → has_key_past limit numbers ≡ false
    → Adds (λ key. Int (number key)) old new (map (entry_outcome (Some (numbers_below limit))) numbers)
keys_added {K} number old new more limit numbers is same none =
    let value : ℤ → Item = λ n. Value (Int n) in
    let key_of : ℕ → ℤ = λ key. pos key in
    let items : map (λ key. value (number key)) more ≡ map (λ key. value (key_of key)) numbers = sym (map-map value number more) ∙ ap (map value) same ∙ map-map value key_of numbers in
    chain_adds (λ key. Int (number key)) (λ key. value (key_of key)) old new more numbers is items
    ∙ ap (λ outcomes. map (λ key. Given (Int (number key))) old ++ outcomes) (numbers_given limit numbers none)

-- what a chain gives of numbers of which none is past the limit, by what it gives of each that is below
module _ {S A F R C : Type 0} (steps : S → Option A → S → Type 0) (v : A → ℕ) (g : Mut F (A × Unit {0}) R) (w : R → C) (h : ℕ → C) (f : F) (limit : ℕ) (gives : (x : A) (r : R) (q : F) → v x < limit → Called g f (x, tt) r q → (q ≡ f) × (w r ≡ h (v x))) where
  maps_below : (numbers : List ℕ) (s : Map S F) → has_key_past limit numbers ≡ false → map_callee s ≡ f → AlwaysYields steps v (map_source s) numbers → AlwaysYields (maps steps g) w s (map h numbers)
  maps_below [] s none own from = λ y j p. from p.0 (map_source j) p.1
  maps_below (number ∷ numbers) s none own from = (
    (λ j p. from.0 (map_source j) p.0),
    λ y j p.
        let next = from.1 p.0 (map_source j) p.1 in
        let one = gives p.0 y (map_callee j) (subst (λ n. n < limit) (sym next.0) (first-below limit number numbers none)) (subst (λ c. Called g c (p.0, tt) y (map_callee j)) own p.2) in
        (one.1 ∙ ap h next.0, maps_below numbers j (others-below limit number numbers none) one.0 next.1),
  )

-- what follows of a list that such a chain has extended
pub extended_below : {S A F R C E Q : Type 0} {steps : S → Option A → S → Type 0} {v : A → ℕ} {g : Mut F (A × Unit {0}) R} {s : Map S F} {numbers : List ℕ} {f : F} {P : List R → Type 0} (w : R → C) (h : ℕ → C) (limit : ℕ) (r : Result (Unit {0}) E)
    → ((it : Map S F) × (xs : List R) × (it ≡ s) × P xs × MatchResult r (λ _. Drains (maps steps g) it xs) (λ _. (t : Map S F) × Yields (maps steps g) it xs t))
    → YieldsList steps v (map_source s) numbers → map_callee s ≡ f → has_key_past limit numbers ≡ false
    → ((x : A) (result : R) (q : F) → v x < limit → Called g f (x, tt) result q → (q ≡ f) × (w result ≡ h (v x)))
    → ((xs : List R) → map w xs ≡ map h numbers → P xs → Q) → OnOk r Q
extended_below {steps} {v} {g} {s} {numbers} {f} w h limit r ran from own none gives says =
    let road : YieldsList (maps steps g) w s (map h numbers) = record { runs = maps_below steps v g w h f limit gives numbers s none own from.runs } in
    shown_from_extend w r ran road says
