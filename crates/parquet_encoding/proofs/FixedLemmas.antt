-- Pieces of one size.
use Rattle.std.proofs.Common.{◌≡◌, ℕ, zero, suc, ◌+◌, ◌-◌, ◌*◌, ◌<◌, ◌≤◌, min, leb, false, List, [], ◌∷◌, length, take, drop, map, Option, Some, None, refl, sym, ap, ◌∙◌, arith, inl, inr}
use Rattle.std.specs.Prelude.{IsSome, unwrap_or, slice_get, option_map, ◌==◌}
use Rattle.std.specs.Simd.{first_chunks}
use Rattle.std.proofs.lemmas.Bool.{eq-eqb, le-leb, leb-true}
use Rattle.std.proofs.lemmas.Bool.Decides.{eqb_tells}
use Rattle.std.proofs.lemmas.List.{length-drop, length-take-le, drop-drop, take-take, drop-take, drop_min, take_min}
use Rattle.parquet_base.specs.Reading.{◌>>=◌, given}
use Rattle.parquet_encoding.specs.Places.{bytes_in, bytes_from, places_of}
use Rattle.parquet_encoding.specs.Plain.{plain_fixed}
use Rattle.parquet_encoding.proofs.StepLemmas.{bind_some, given_some, is_something}

-- places of one size, one behind the other
unfoldable pub steps : ℕ → ℕ → ℕ → List (ℕ × ℕ)
steps from size zero = []
steps from size (suc count) = (from, size) ∷ steps (from + size) size count

pub length-steps : (from size count : ℕ) → length (steps from size count) ≡ count
unfolding steps
length-steps from size zero = refl
length-steps from size (suc count) = ap suc (length-steps (from + size) size count)

drop-steps : (n from size count : ℕ) → drop n (steps from size count) ≡ steps (from + n * size) size (count - n)
unfolding steps
drop-steps zero from size count = let a : count - 0 ≡ count = omega arith in let b : from + 0 * size ≡ from = omega arith in rw (a, b) refl
drop-steps (suc n) from size zero = let a : 0 - suc n ≡ 0 = omega arith in rw a refl
drop-steps (suc n) from size (suc count) =
    let a : count - n ≡ suc count - suc n = omega arith in
    let b : from + size + n * size ≡ from + suc n * size = omega arith in
    drop-steps n (from + size) size count ∙ ap (λ p. steps p size (count - n)) b ∙ ap (steps (from + suc n * size) size) a

take-steps : (n from size count : ℕ) → n ≤ count → take n (steps from size count) ≡ steps from size n
unfolding steps
take-steps zero from size count few = refl
take-steps (suc n) from size zero few = absurd (omega arith)
take-steps (suc n) from size (suc count) few = ap (λ rest. (from, size) ∷ rest) (take-steps n (from + size) size count (omega arith))

-- the pieces of one size stand there
pub places-chunks : (size count : ℕ) (bytes : List ℕ) (from : ℕ) → length bytes ≡ count * size → places_of 0 from (first_chunks size count bytes) ≡ steps from size count
unfolding steps places_of
places-chunks size zero bytes from long = refl
places-chunks size (suc count) bytes from long =
    let whole : suc count * size ≡ size + count * size = omega arith in
    let own : length (take size bytes) ≡ size = length-take-le size bytes (omega arith) in
    let here : from + 0 ≡ from = omega arith in
    let rest : length (drop size bytes) ≡ count * size = length-drop size bytes ∙ omega arith in
    rw (own, here) (ap (λ others. (from, size) ∷ others) (places-chunks size count (drop size bytes) (from + size) rest))

-- what stands there are the pieces
pub chunks_in : (size count : ℕ) (bytes : List ℕ) (from : ℕ) → first_chunks size count (take (count * size) (drop from bytes)) ≡ map (bytes_in bytes) (steps from size count)
unfolding steps
chunks_in size zero bytes from = refl
chunks_in size (suc count) bytes from =
    let whole : suc count * size ≡ size + count * size = omega arith in
    let long : size ≡ from + size - from = omega arith in
    let first : take size (take (suc count * size) (drop from bytes)) ≡ take (from + size - from) (drop from bytes) =
    take-take size (suc count * size) (drop from bytes) (omega arith) ∙ ap (λ n. take n (drop from bytes)) long in
    let rest : drop size (take (suc count * size) (drop from bytes)) ≡ take (count * size) (drop (from + size) bytes) =
    ap (λ n. drop size (take n (drop from bytes))) whole ∙ drop-take size (count * size) (drop from bytes) ∙ ap (take (count * size)) (drop-drop size from bytes) in
    rw (first, rest) (ap (λ others. take (from + size - from) (drop from bytes) ∷ others) (chunks_in size count bytes (from + size)))

-- ---- from a place on

abbrev pub fixed_from : ℕ → ℕ → ℕ → List ℕ → Option (List (ℕ × ℕ))
fixed_from size next left bytes = bytes_from next bytes >>= λ rest. option_map (places_of 0 next) (plain_fixed size rest left)

pub fixed_is : (size next left : ℕ) (bytes : List ℕ) → next + left * size ≡ length bytes → fixed_from size next left bytes ≡ Some (steps next size left)
unfolding plain_fixed
fixed_is size next left bytes end =
    let long : length (drop next bytes) ≡ left * size = length-drop next bytes ∙ omega arith in
    let within : next ≤ length bytes = omega arith in
    rw (le-leb next (length bytes) within, eq-eqb _ _ long) (ap Some (places-chunks size left (drop next bytes) next long))

-- they are there exactly where the bytes end with them
pub fixed_ends : (size next left : ℕ) (bytes : List ℕ) → IsSome (fixed_from size next left bytes) → next + left * size ≡ length bytes
unfolding plain_fixed
fixed_ends size next left bytes h =
    let some = is_something _ h in
    let rest = bind_some (bytes_from next bytes) (λ rest. option_map (places_of 0 next) (plain_fixed size rest left)) some.0 some.1 in
    let within = given_some (leb next (length bytes)) (drop next bytes) rest.0 rest.1 in
    let long : length rest.0 ≡ left * size = ends (length rest.0) (left * size) _ some.0 rest.2 in
    omega (arith, leb-true _ _ within.0, ap length within.1, length-drop next bytes)
  where
    ends : (m n : ℕ) (pieces : List (List ℕ)) (places : List (ℕ × ℕ)) → option_map (places_of 0 next) (given (m == n) pieces) ≡ Some places → m ≡ n
    ends m n pieces places e = elim (eqb_tells m n) [ inl same ↦ same.1 | inr other ↦ absurd (none (rw other.0 at e)) ]
      where
        none : option_map (places_of 0 next) (given false pieces) ≡ Some places → ⊥
        none e = cc

-- ---- the beginning

pub not_exact : (size count : ℕ) (bytes : List ℕ) → (length bytes ≡ count * size → ⊥) → plain_fixed size bytes count ≡ None
unfolding plain_fixed
not_exact size count bytes differs = elim (eqb_tells (length bytes) (count * size)) [ inl same ↦ absurd (differs same.1) | inr other ↦ rw other.0 refl ]

pub is_exact : (size count : ℕ) (bytes : List ℕ) → length bytes ≡ count * size → plain_fixed size bytes count ≡ Some (first_chunks size count bytes)
unfolding plain_fixed
is_exact size count bytes e = rw (eq-eqb _ _ e) refl

-- from the first place on all of them stand
pub begins_fixed : (size count : ℕ) (bytes : List ℕ) → fixed_from size 0 count bytes ≡ option_map (places_of 0 0) (plain_fixed size bytes count)
begins_fixed size count bytes = let within : 0 ≤ length bytes = omega arith in rw (le-leb 0 (length bytes) within) refl

-- ---- as places move

-- n pieces are passed over
pub fixed_without : (size next left : ℕ) (bytes : List ℕ) (n : ℕ) → n ≤ left → IsSome (fixed_from size next left bytes)
    → fixed_from size (next + n * size) (left - n) bytes ≡ Some (drop n (unwrap_or (fixed_from size next left bytes) []))
fixed_without size next left bytes n few h =
    let end = fixed_ends size next left bytes h in
    let whole : left - n + n ≡ left = omega arith in
    let moved : next + n * size + (left - n) * size ≡ length bytes = omega (arith, ap (λ k. k * size) whole) in
    fixed_is size (next + n * size) (left - n) bytes moved
    ∙ ap Some (sym (drop-steps n next size left) ∙ ap (λ o. drop n (unwrap_or o [])) (sym (fixed_is size next left bytes end)))

fixed_known : (size next left : ℕ) (bytes : List ℕ) → IsSome (fixed_from size next left bytes) → unwrap_or (fixed_from size next left bytes) [] ≡ steps next size left
fixed_known size next left bytes h = ap (λ o. unwrap_or o []) (fixed_is size next left bytes (fixed_ends size next left bytes h))

pub length-fixed : (size next left : ℕ) (bytes : List ℕ) → IsSome (fixed_from size next left bytes) → length (unwrap_or (fixed_from size next left bytes) []) ≡ left
length-fixed size next left bytes h = ap length (fixed_known size next left bytes h) ∙ length-steps next size left

-- more than there are is all that there are
pub fixed_capped : (size next left : ℕ) (bytes : List ℕ) (n count : ℕ) → count ≡ min n left → IsSome (fixed_from size next left bytes)
    → drop count (unwrap_or (fixed_from size next left bytes) []) ≡ drop n (unwrap_or (fixed_from size next left bytes) [])
fixed_capped size next left bytes n count is h =
    let values = unwrap_or (fixed_from size next left bytes) [] in
    ap (λ k. drop k values) (is ∙ ap (min n) (sym (length-fixed size next left bytes h))) ∙ drop_min n values

pub first_fixed : (size next left : ℕ) (bytes : List ℕ) → 0 < left → IsSome (fixed_from size next left bytes) → Some (next, size) ≡ slice_get (unwrap_or (fixed_from size next left bytes) []) 0
unfolding steps
first_fixed size next zero bytes positive h = absurd (omega arith)
first_fixed size next (suc left) bytes positive h = rw (fixed_known size next (suc left) bytes h) refl

pub no_fixed : (size next left : ℕ) (bytes : List ℕ) → left ≡ 0 → IsSome (fixed_from size next left bytes) → fixed_from size next left bytes ≡ Some []
unfolding steps
no_fixed size next left bytes none h = fixed_is size next left bytes (fixed_ends size next left bytes h) ∙ rw none refl

-- the bytes of the next pieces
pub part_fixed : (size next left : ℕ) (bytes : List ℕ) (n count long : ℕ) → count ≡ min n left → long ≡ count * size → IsSome (fixed_from size next left bytes)
    → first_chunks size (min n (length (unwrap_or (fixed_from size next left bytes) []))) (take long (drop next bytes)) ≡ map (bytes_in bytes) (take n (unwrap_or (fixed_from size next left bytes) []))
part_fixed size next left bytes n count long is whole h =
    let values = unwrap_or (fixed_from size next left bytes) [] in
    let many : min n (length values) ≡ count = ap (min n) (length-fixed size next left bytes h) ∙ sym is in
    let same : take n values ≡ steps next size count =
    sym (take_min n values) ∙ ap (λ k. take k values) many ∙ ap (take count) (fixed_known size next left bytes h) ∙ take-steps count next size left (omega arith) in
    rw (many, whole, same) (chunks_in size count bytes next)
