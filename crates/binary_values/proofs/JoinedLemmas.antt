-- Strings that are joined behind their lengths, some at a time.
use Rattle.std.proofs.Common.{◌≡◌, ℕ, ℤ, pos, ◌+◌, ◌-◌, ◌<◌, ◌≤◌, leb, List, [], ◌∷◌, ◌++◌, length, take, drop, map, min, Option, Some, None, refl, sym, ap, ap₂, ◌∙◌, subst, arith, append_assoc}
use Rattle.std.specs.Prelude.{IsSome, nat_abs, option_map, sum_by}
use Rattle.std.specs.List.{flat_map}
use Rattle.std.proofs.lemmas.Bool.{leb-true}
use Rattle.std.proofs.lemmas.List.{drop-drop, length-drop, length-map, length-take, length-take-le, map-append, take-map, take_at}
use Rattle.std.proofs.lemmas.List.Sums.{sum_by-append, sum_by-cons}
use Rattle.parquet_base.specs.Reading.{◌>>=◌, given}
use Rattle.parquet_encoding.specs.DeltaLeft.{delta_left}
use Rattle.parquet_encoding.specs.DeltaLength.{length_of, strings_of}
use Rattle.parquet_encoding.specs.JoinedLeft.{joined_left, joined_values}
use Rattle.parquet_encoding.specs.Places.{bytes_from, bytes_in, places_of}
use Rattle.parquet_encoding.specs.declared.delta_length.DeltaLength.{DeltaLength}
use Rattle.parquet_encoding.proofs.StepLemmas.{bind_some, given_some, some_is}
use Rattle.parquet_encoding.proofs.WalkLemmas.{passes_none}
use Rattle.page_decoding.proofs.RowLemmas.{take-split}
use Rattle.binary_values.specs.JoinedStrings.{cut_into}
use Rattle.binary_values.proofs.EndLemmas.{cut-strings, joined-bytes}

-- ---- each lies in the bytes

pieces-fit : (numbers : List ℤ) (rest : List ℕ) (pieces : List (List ℕ)) → strings_of numbers rest ≡ Some pieces → sum_by length pieces ≤ length rest
unfolding strings_of
pieces-fit [] rest pieces e = omega (arith, ap (λ (ps : List (List ℕ)). sum_by length ps) (some_is [] pieces e))
pieces-fit (number ∷ numbers) rest pieces e =
    let long = bind_some (length_of number) (λ long. given (leb long (length rest)) (take long rest) >>= λ own. strings_of numbers (drop long rest) >>= λ others. Some (own ∷ others)) pieces e in
    let own = bind_some (given (leb long.0 (length rest)) (take long.0 rest)) (λ own. strings_of numbers (drop long.0 rest) >>= λ others. Some (own ∷ others)) pieces long.2 in
    let others = bind_some (strings_of numbers (drop long.0 rest)) (λ others. Some (own.0 ∷ others)) pieces own.2 in
    let fits = given_some (leb long.0 (length rest)) (take long.0 rest) own.0 own.1 in
    let enough : long.0 ≤ length rest = leb-true _ _ fits.0 in
    let size : length own.0 ≡ long.0 = ap length (sym fits.1) ∙ length-take-le long.0 rest enough in
    omega (arith, ap (λ (ps : List (List ℕ)). sum_by length ps) (some_is (own.0 ∷ others.0) pieces others.2), sum_by-cons length own.0 others.0, pieces-fit numbers (drop long.0 rest) others.0 others.1, size, enough, length-drop long.0 rest)

placed-lengths : (bytes : List ℕ) (from : ℕ) (pieces : List (List ℕ)) → from + sum_by length pieces ≤ length bytes → map (λ place. length (bytes_in bytes place)) (places_of 0 from pieces) ≡ map (λ place. place.1) (places_of 0 from pieces)
unfolding places_of
placed-lengths bytes from [] fits = refl
placed-lengths bytes from (piece ∷ pieces) fits =
    let all = sum_by-cons length piece pieces in
    let start = from + 0 in
    let same : start + length piece - start ≡ length piece = omega arith in
    let own : length (bytes_in bytes (start, length piece)) ≡ length piece =
    ap (λ n. length (take n (drop start bytes))) same ∙ length-take-le (length piece) (drop start bytes) (omega (arith, fits, all, length-drop start bytes)) in
    ap₂ (λ n ns. n ∷ ns) own (placed-lengths bytes (from + 0 + length piece) pieces (omega (arith, fits, all)))

-- the strings have the lengths of their places
pub joined-lengths : (walk : DeltaLength) (bytes : List ℕ) → IsSome (joined_left walk bytes) → map (λ place. length (bytes_in bytes place)) (joined_values walk bytes) ≡ map (λ place. place.1) (joined_values walk bytes)
unfolding joined_left
joined-lengths walk bytes spelled =
    let all = joined_values walk bytes in
    let e : joined_left walk bytes ≡ Some all = passes_none (joined_left walk bytes) spelled in
    let numbers = bind_some (delta_left walk.lengths bytes) (λ lengths. bytes_from walk.next bytes >>= λ rest. option_map (places_of 0 walk.next) (strings_of lengths rest)) all e in
    let rest = bind_some (bytes_from walk.next bytes) (λ rest. option_map (places_of 0 walk.next) (strings_of numbers.0 rest)) all numbers.2 in
    let there = given_some (leb walk.next (length bytes)) (drop walk.next bytes) rest.0 rest.1 in
    let found = mapped walk.next all (strings_of numbers.0 rest.0) rest.2 in
    let fits = pieces-fit numbers.0 rest.0 found.0 found.1 in
    let P : List (ℕ × ℕ) → Type 0 = λ ps. map (λ place. length (bytes_in bytes place)) ps ≡ map (λ place. place.1) ps in
    subst P found.2 (placed-lengths bytes walk.next found.0 (omega (arith, leb-true _ _ there.0, fits, ap length there.1, length-drop walk.next bytes)))
  where
    mapped : (next : ℕ) (all : List (ℕ × ℕ)) (o : Option (List (List ℕ))) → option_map (places_of 0 next) o ≡ Some all → (strings : List (List ℕ)) × (o ≡ Some strings) × (places_of 0 next strings ≡ all)
    mapped next all None e = absurd cc
    mapped next all (Some strings) e = (strings, refl, some_is _ _ e)

-- ---- some at a time

-- of `count` wanted strings so many are left, and the others were appended
pub record StringsLeft {A : Type 0} (f : A → List ℕ) (old now : List (List ℕ)) (count left : ℕ) (whole rest : List A) : Type 0 where
  pub added : now ++ map f (take left rest) ≡ old ++ map f (take count whole)
  pub behind : drop left rest ≡ drop count whole

module _ {A : Type 0} (f : A → List ℕ) (old now : List (List ℕ)) (count left found : ℕ) (whole rest : List A) (strings : StringsLeft f old now count left whole rest) (few : found ≤ left) where
  split : map f (take left rest) ≡ map f (take found rest) ++ map f (take (left - found) (drop found rest))
  split = ap (map f) (take-split found left rest few) ∙ map-append f (take found rest) (take (left - found) (drop found rest))

  pub strings-more : (new : List (List ℕ)) → new ≡ now ++ map f (take found rest) → StringsLeft f old new count (left - found) whole (drop found rest)
  strings-more new is = record {
    added = ap (λ all. all ++ map f (take (left - found) (drop found rest))) is ∙ append_assoc now (map f (take found rest)) (map f (take (left - found) (drop found rest)))
        ∙ ap (λ own. now ++ own) (sym split) ∙ strings.added;
    behind = drop-drop (left - found) found rest ∙ ap (λ n. drop n rest) (omega (arith, few)) ∙ strings.behind;
  }

  pub strings-past : (most : ℕ) → most < sum_by length now + sum_by length (map f (take found rest)) → most < sum_by length old + sum_by length (map f (take count whole))
  strings-past most past =
      let all = sym (sum_by-append length now (map f (take left rest))) ∙ ap (sum_by length) strings.added ∙ sum_by-append length old (map f (take count whole)) in
      let own = ap (sum_by length) split ∙ sum_by-append length (map f (take found rest)) (map f (take (left - found) (drop found rest))) in
      omega (arith, past, all, own)

-- ---- lengths that were written, and joined bytes

pub same-sum : {A : Type 0} (f : A → List ℕ) (numbers : List ℤ) (items : List A) → map nat_abs numbers ≡ map (λ item. length (f item)) items → sum_by nat_abs numbers ≡ sum_by length (map f items)
same-sum f [] [] e = refl
same-sum f [] (item ∷ items) e = absurd cc
same-sum f (number ∷ numbers) [] e = absurd cc
same-sum f (number ∷ numbers) (item ∷ items) e =
    let first : nat_abs number ≡ length (f item) = cc in
    let rest : map nat_abs numbers ≡ map (λ item. length (f item)) items = cc in
    omega (arith, sum_by-cons nat_abs number numbers, sum_by-cons length (f item) (map f items), first, same-sum f numbers items rest)

whole-lengths : (places : List (ℕ × ℕ)) → map nat_abs (map (λ place. pos place.1) places) ≡ map (λ place. place.1) places
whole-lengths [] = refl
whole-lengths (place ∷ places) = ap (λ ns. place.1 ∷ ns) (whole-lengths places)

-- joined bytes and the lengths of the strings in them
pub record Cut {A : Type 0} (f : A → List ℕ) (items : List A) (lengths : List ℤ) (joined : List ℕ) : Type 0 where
  pub sum : sum_by nat_abs lengths ≡ length joined
  pub strings : cut_into (map nat_abs lengths) joined ≡ map f items
  pub bytes : length joined ≡ sum_by length (map f items)

-- strings that have these lengths, joined
pub cut-of : {A : Type 0} (f : A → List ℕ) (items : List A) (lengths : List ℤ) (joined : List ℕ) → map nat_abs lengths ≡ map (λ item. length (f item)) items → joined ≡ flat_map f items → Cut f items lengths joined
cut-of f items lengths joined own is =
    let all = joined-bytes f items in
    record {
      sum = same-sum f lengths items own ∙ sym all ∙ ap length (sym is);
      strings = ap₂ cut_into own is ∙ cut-strings f items;
      bytes = ap length is ∙ all;
    }

pub chunk-cut : (walk : DeltaLength) (bytes : List ℕ) (found many : ℕ) (new old : List ℤ) (joined : List ℕ) → IsSome (joined_left walk bytes) → found ≡ min many (length (joined_values walk bytes))
    → new ≡ map (λ place. pos place.1) (take found (joined_values walk bytes)) ++ drop found old → joined ≡ flat_map (bytes_in bytes) (take found (joined_values walk bytes))
    → Cut (bytes_in bytes) (take found (joined_values walk bytes)) (take found new) joined
chunk-cut walk bytes found many new old joined spelled counted written is =
    let values = joined_values walk bytes in
    let number : ℕ × ℕ → ℤ = λ place. pos place.1 in
    let long : ℕ × ℕ → ℕ = λ place. length (bytes_in bytes place) in
    let size : length (map number (take found values)) ≡ found = omega (arith, length-map (take found values) number, length-take found values, counted) in
    let own : take found new ≡ map number (take found values) = ap (take found) written ∙ take_at (map number (take found values)) (drop found old) found size in
    cut-of (bytes_in bytes) (take found values) (take found new) joined
    (ap (map nat_abs) own ∙ whole-lengths (take found values) ∙ sym (take-map (λ place. place.1) found values) ∙ ap (take found) (sym (joined-lengths walk bytes spelled)) ∙ take-map long found values) is
