-- Truth values, one bit each.
use Rattle.std.proofs.Common.{◌≡◌, ℕ, zero, suc, ◌+◌, ◌-◌, ◌*◌, ◌/◌, ◌%◌, ◌<◌, ◌≤◌, min, leb, Bool, List, [], length, take, drop, map, Option, Some, None, refl, sym, ap, ◌∙◌, arith}
use Rattle.std.specs.Prelude.{IsSome, IfSome, unwrap_or, slice_get}
use Rattle.std.proofs.lemmas.Bool.{le-leb, lt-leb, leb-true}
use Rattle.std.proofs.lemmas.List.{length-map, drop-map, take-map, drop_min, take_min}
use Rattle.parquet_base.specs.Reading.{given}
use Rattle.parquet_encoding.specs.Bits.{bits_at, packed}
use Rattle.parquet_encoding.specs.Plain.{plain_bits, truth}
use Rattle.parquet_encoding.proofs.BitsLemmas.{length-packed, drop-packed, take-packed}
use Rattle.parquet_encoding.proofs.StepLemmas.{given_some, is_something, if_some}

abbrev pub bits_from : ℕ → ℕ → List ℕ → Option (List Bool)
bits_from next left bytes = given (leb (next + left) (8 * length bytes)) (map truth (packed bytes 1 next left))

pub bits_within : (next left : ℕ) (bytes : List ℕ) → IsSome (bits_from next left bytes) → next + left ≤ 8 * length bytes
bits_within next left bytes h =
    let some = is_something _ h in
    leb-true _ _ (given_some (leb (next + left) (8 * length bytes)) (map truth (packed bytes 1 next left)) some.0 some.1).0

bits_are : (next left : ℕ) (bytes : List ℕ) → next + left ≤ 8 * length bytes → bits_from next left bytes ≡ Some (map truth (packed bytes 1 next left))
bits_are next left bytes within = rw (le-leb _ _ within) refl

bits_known : (next left : ℕ) (bytes : List ℕ) → IsSome (bits_from next left bytes) → unwrap_or (bits_from next left bytes) [] ≡ map truth (packed bytes 1 next left)
bits_known next left bytes h = ap (λ o. unwrap_or o []) (bits_are next left bytes (bits_within next left bytes h))

pub length-bits : (next left : ℕ) (bytes : List ℕ) → IsSome (bits_from next left bytes) → length (unwrap_or (bits_from next left bytes) []) ≡ left
length-bits next left bytes h = ap length (bits_known next left bytes h) ∙ length-map (packed bytes 1 next left) truth ∙ length-packed bytes 1 next left

pub length-bits_left : (next left : ℕ) (bytes : List ℕ) → IfSome (bits_from next left bytes) (λ values. left ≡ length values)
length-bits_left next left bytes = if_some (bits_from next left bytes) _ (λ values e. sym (ap (λ o. length (unwrap_or o [])) (sym e) ∙ length-bits next left bytes (rw e refl)))

-- some of them are passed over
pub bits_without : (next left : ℕ) (bytes : List ℕ) (n count : ℕ) → count ≡ min n left → IsSome (bits_from next left bytes)
    → bits_from (next + count) (left - count) bytes ≡ Some (drop n (unwrap_or (bits_from next left bytes) []))
bits_without next left bytes n count is h =
    let within = bits_within next left bytes h in
    let inside : next + count + (left - count) ≤ 8 * length bytes = omega arith in
    let values = unwrap_or (bits_from next left bytes) [] in
    let place : next + count ≡ next + count * 1 = omega arith in
    let capped : drop count values ≡ drop n values = ap (λ k. drop k values) (is ∙ ap (min n) (sym (length-bits next left bytes h))) ∙ drop_min n values in
    bits_are (next + count) (left - count) bytes inside
    ∙ ap Some (ap (λ p. map truth (packed bytes 1 p (left - count))) place
    ∙ ap (map truth) (sym (drop-packed count bytes 1 next left))
    ∙ sym (drop-map truth count (packed bytes 1 next left))
    ∙ ap (drop count) (sym (bits_known next left bytes h)) ∙ capped)

-- the bits of the first of them
pub bits_taken : (next left : ℕ) (bytes : List ℕ) (n count place : ℕ) → count ≡ min n left → place ≡ next → IsSome (bits_from next left bytes)
    → map truth (packed bytes 1 place count) ≡ take n (unwrap_or (bits_from next left bytes) [])
bits_taken next left bytes n count place is there h =
    let values = unwrap_or (bits_from next left bytes) [] in
    let capped : take count values ≡ take n values = ap (λ k. take k values) (is ∙ ap (min n) (sym (length-bits next left bytes h))) ∙ take_min n values in
    ap (λ p. map truth (packed bytes 1 p count)) there
    ∙ ap (map truth) (sym (take-packed count bytes 1 next left (omega arith)))
    ∙ sym (take-map truth count (packed bytes 1 next left))
    ∙ ap (take count) (sym (bits_known next left bytes h)) ∙ capped

pub no_bit : (next left : ℕ) (bytes : List ℕ) → left ≡ 0 → IsSome (bits_from next left bytes) → bits_from next left bytes ≡ Some []
unfolding packed
no_bit next left bytes none h = bits_are next left bytes (bits_within next left bytes h) ∙ rw none refl

pub first_bit : (next left : ℕ) (bytes : List ℕ) (place bit : ℕ) → 0 < left → place ≡ next → bit ≡ bits_at bytes place 1 → IsSome (bits_from next left bytes)
    → Some (truth bit) ≡ slice_get (unwrap_or (bits_from next left bytes) []) 0
unfolding packed
first_bit next zero bytes place bit positive there is h = absurd (omega arith)
first_bit next (suc left) bytes place bit positive there is h = rw (bits_known next (suc left) bytes h, is, there) refl

-- ---- the beginning

pub enough_bytes : (bytes : List ℕ) (count need : ℕ) → need ≡ count / 8 + min 1 (count % 8) → need ≤ length bytes → plain_bits bytes count ≡ Some (map truth (packed bytes 1 0 count))
unfolding plain_bits
enough_bytes bytes count need is enough =
    let there : (count + 7) / 8 ≤ length bytes = omega arith in
    rw (le-leb _ _ there) refl

pub too_few_bytes : (bytes : List ℕ) (count need : ℕ) → need ≡ count / 8 + min 1 (count % 8) → length bytes < need → plain_bits bytes count ≡ None
unfolding plain_bits
too_few_bytes bytes count need is few =
    let missing : length bytes < (count + 7) / 8 = omega arith in
    rw (lt-leb _ _ missing) refl

pub begins_bits : (bytes : List ℕ) (count need : ℕ) → need ≡ count / 8 + min 1 (count % 8) → need ≤ length bytes → bits_from 0 count bytes ≡ Some (map truth (packed bytes 1 0 count))
begins_bits bytes count need is enough = bits_are 0 count bytes (omega arith)
