-- Places in joined items.
use Rattle.std.proofs.Common.{◌≡◌, ◌⊎◌, inl, inr, ℕ, ℤ, zero, suc, ◌+◌, ◌-◌, ◌<◌, ◌≤◌, List, [], ◌∷◌, ◌++◌, length, get_or, map, refl, sym, subst, ap, ◌∙◌, arith, length-append, append_assoc, append-nil}
use Rattle.std.specs.Prelude.{nat_abs, slice_get, slice_range, sum_by, Some}
use Rattle.std.proofs.lemmas.List.Sums.{sum_by-cons}
use Rattle.std.proofs.lemmas.Bool.{cases_lt}
use Rattle.std.proofs.Math.ListN.{get_or-append}
use Rattle.std.proofs.lemmas.List.{get_or-append_right}
use Rattle.columns_core.specs.Offsets.{AreOffsets, ends_behind, last, parts}

first-some : (offsets : List ℕ) → slice_get offsets 0 ≡ Some 0 → 0 < length offsets
first-some [] h = absurd (grind arith)
first-some (place ∷ offsets) h = omega arith

pub some-offset : (offsets : List ℕ) → AreOffsets offsets → 0 < length offsets
some-offset offsets shape = first-some offsets shape.begins

begins-more : (offsets : List ℕ) (place : ℕ) → slice_get offsets 0 ≡ Some 0 → slice_get (offsets ++ place ∷ []) 0 ≡ Some 0
begins-more [] place h = absurd (grind arith)
begins-more (first ∷ offsets) place h = h

at-end : (offsets : List ℕ) (place i : ℕ) → i ≡ length offsets → get_or (offsets ++ place ∷ []) i 0 ≡ place
at-end offsets place i is = let none : i - i ≡ 0 = omega arith in get_or-append_right offsets (place ∷ []) i i 0 (sym is) (omega arith) ∙ ap (λ k. get_or (place ∷ []) k 0) none

rises : (offsets : List ℕ) (place i : ℕ) → AreOffsets offsets → last offsets ≤ place → suc i < length (offsets ++ place ∷ []) → (suc i < length offsets) ⊎ (length offsets ≤ suc i)
    → get_or (offsets ++ place ∷ []) i 0 ≤ get_or (offsets ++ place ∷ []) (suc i) 0
rises offsets place i were behind within (inl inside) =
    omega (arith, were.rise i inside, get_or-append offsets (place ∷ []) 0 i (omega arith), get_or-append offsets (place ∷ []) 0 (suc i) inside)
rises offsets place i were behind within (inr past) =
    let whole = length-append offsets (place ∷ []) in
    let here : i ≡ length offsets - 1 = omega (arith, whole) in
    let there : suc i ≡ length offsets = omega (arith, whole) in
    omega (arith, behind, ap (λ k. get_or offsets k 0) here, get_or-append offsets (place ∷ []) 0 i (omega arith), at-end offsets place (suc i) there)

-- one place more
pub more_offsets : (offsets : List ℕ) (place : ℕ) → AreOffsets offsets → last offsets ≤ place → AreOffsets (offsets ++ place ∷ [])
more_offsets offsets place were behind = record { begins = begins-more offsets place were.begins; rise = λ i within. rises offsets place i were behind within (cases_lt (suc i) (length offsets)) }

pub last-pushed : (offsets : List ℕ) (place : ℕ) → last (offsets ++ place ∷ []) ≡ place
last-pushed offsets place = at-end offsets place (length (offsets ++ place ∷ []) - 1) (omega (arith, length-append offsets (place ∷ [])))

-- from any place on to any later one
pub risen : (offsets : List ℕ) (i more : ℕ) → AreOffsets offsets → i + more < length offsets → get_or offsets i 0 ≤ get_or offsets (i + more) 0
risen offsets i zero shape within = let e : i + 0 ≡ i = omega arith in omega (arith, ap (λ k. get_or offsets k 0) e)
risen offsets i (suc more) shape within =
    let e : i + suc more ≡ suc (i + more) = omega arith in
    omega (arith, ap (λ k. get_or offsets k 0) e, risen offsets i more shape (omega arith), shape.rise (i + more) (omega arith))

-- ---- the items between them

pub length-parts : {X : Type 0} (offsets : List ℕ) (joined : List X) → length (parts offsets joined) ≡ length offsets - 1
length-parts [] joined = refl
length-parts (start ∷ []) joined = refl
length-parts (start ∷ end ∷ offsets) joined = let rest = length-parts (end ∷ offsets) joined in omega (arith, rest)

pub get-parts : {X : Type 0} (offsets : List ℕ) (joined : List X) (i : ℕ) → i < length offsets - 1
    → slice_get (parts offsets joined) i ≡ Some (slice_range joined (get_or offsets i 0) (get_or offsets (suc i) 0))
get-parts [] joined i h = absurd (omega arith)
get-parts (start ∷ []) joined i h = absurd (omega arith)
get-parts (start ∷ end ∷ offsets) joined zero h = refl
get-parts (start ∷ end ∷ offsets) joined (suc i) h = get-parts (end ∷ offsets) joined i (omega arith)

-- ---- items of some lengths more

-- What is there and the ends of the lengths that are left are the ends of all.
pub record EndsLeft (base : List ℕ) (start : ℕ) (whole : List ℤ) (now : List ℕ) (end : ℕ) (left : List ℤ) : Type 0 where
  pub added : now ++ ends_behind end (map nat_abs left) ≡ base ++ ends_behind start (map nat_abs whole)
  pub sum : end + sum_by nat_abs left ≡ start + sum_by nat_abs whole

pub more_ends : (offsets : List ℕ) (lengths : List ℤ) → AreOffsets offsets
    → AreOffsets (offsets ++ ends_behind (last offsets) (map nat_abs lengths)) × (last (offsets ++ ends_behind (last offsets) (map nat_abs lengths)) ≡ last offsets + sum_by nat_abs lengths)
more_ends offsets [] were = let none = sym (append-nil offsets) in (subst AreOffsets none were, omega (arith, ap last none))
more_ends offsets (long ∷ lengths) were =
    let end = last offsets + nat_abs long in
    let more = offsets ++ end ∷ [] in
    let at : last more ≡ end = last-pushed offsets end in
    let rest = more_ends more lengths (more_offsets offsets end were (omega arith)) in
    let whole : more ++ ends_behind (last more) (map nat_abs lengths) ≡ offsets ++ ends_behind (last offsets) (map nat_abs (long ∷ lengths)) =
    ap (λ n. more ++ ends_behind n (map nat_abs lengths)) at ∙ append_assoc offsets (end ∷ []) (ends_behind end (map nat_abs lengths)) in
    (subst AreOffsets whole rest.0, omega (arith, rest.1, at, ap last whole, sum_by-cons nat_abs long lengths))
