-- Plain values that are taken or passed over.
use Rattle.std.proofs.Common.{◌≡◌, ℕ, zero, suc, ◌+◌, ◌-◌, List, [], ◌∷◌, length, map, take, drop, refl, sym, ap, ◌∙◌, arith}
use Rattle.std.specs.Prelude.{min}
use Rattle.std.proofs.Math.Seq.{take-nil, drop-nil}
use Rattle.std.proofs.lemmas.List.{drop-drop, drop-map, length-drop, length-map, take-map}
use Rattle.std.proofs.lemmas.Simd.{map-map}
use Rattle.page_decoding.specs.Outcome.{Outcome}
use Rattle.parquet_page.specs.Stored.{Stored}

drop-to : {A : Type 0} (end k n : ℕ) (xs : List A) → n ≡ length xs → end ≡ min k n → drop end xs ≡ drop k xs
drop-to {A = A} end k n [] long is = drop-nil {A = A} end ∙ sym (drop-nil {A = A} k)
drop-to zero zero n (x ∷ xs) long is = refl
drop-to zero (suc k) n (x ∷ xs) long is = absurd (omega (arith, long, is))
drop-to (suc end) zero n (x ∷ xs) long is = absurd (omega (arith, is))
drop-to (suc end) (suc k) zero (x ∷ xs) long is = absurd (omega (arith, long))
drop-to (suc end) (suc k) (suc n) (x ∷ xs) long is = drop-to end k n xs (omega (arith, long)) (omega (arith, is))

take-to : {A : Type 0} (end k n : ℕ) (xs : List A) → n ≡ length xs → end ≡ min k n → take end xs ≡ take k xs
take-to {A = A} end k n [] long is = take-nil {A = A} end ∙ sym (take-nil {A = A} k)
take-to zero zero n (x ∷ xs) long is = refl
take-to zero (suc k) n (x ∷ xs) long is = absurd (omega (arith, long, is))
take-to (suc end) zero n (x ∷ xs) long is = absurd (omega (arith, is))
take-to (suc end) (suc k) zero (x ∷ xs) long is = absurd (omega (arith, long))
take-to (suc end) (suc k) (suc n) (x ∷ xs) long is = ap (λ rest. x ∷ rest) (take-to end k n xs (omega (arith, long)) (omega (arith, is)))

-- what stands behind the next `count` of them
pub behind_place : {A : Type 0} (xs : List A) (next count n end : ℕ) → n ≡ length xs → end ≡ min next n + min count (n - min next n) → drop end xs ≡ drop count (drop next xs)
behind_place xs next count n end long is = drop-to end (next + count) n xs long (omega (arith, is)) ∙ sym (drop-drop count next xs)

-- what they give
pub taken_pieces : {B : Type 0} (so : Stored → Outcome) (plain : B → Stored) (pieces : List B) (whole : List Stored) (next count n start end : ℕ) → map plain pieces ≡ whole → n ≡ length pieces → start ≡ min next n → end ≡ start + min count (n - start)
    → map (λ piece. so (plain piece)) (take (end - start) (drop start pieces)) ≡ take count (map so (drop next whole))
taken_pieces so plain pieces whole next count n start end all long begins ends =
    let many : n ≡ length whole = omega (arith, ap length all, length-map pieces plain, long) in
    let own = take (end - start) (drop start pieces) in
    sym (map-map so plain own)
    ∙ ap (map so) (sym (take-map plain (end - start) (drop start pieces)) ∙ ap (take (end - start)) (sym (drop-map plain start pieces) ∙ ap (drop start) all ∙ drop-to start next n whole many begins)
    ∙ take-to (end - start) count (n - start) (drop next whole) (omega (arith, length-drop next whole, many, begins)) (omega (arith, ends)))
    ∙ sym (take-map so count (drop next whole))
