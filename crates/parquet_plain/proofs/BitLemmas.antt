-- Truth values as numbers, eight a byte.
use Rattle.std.proofs.Common.{◌≡◌, ℕ, suc, ◌+◌, ◌*◌, ◌/◌, ◌%◌, ◌^◌, ◌<◌, ◌≤◌, ◌⊎◌, inl, inr, Bool, true, false, List, [], ◌∷◌, ◌++◌, refl, ap, ◌∙◌, arith, length, length-append, append-nil, mul_comm, mul_assoc}
use Rattle.std.proofs.Math.Nat.{pow-suc, pow-le-pow_right}
use Rattle.parquet_plain.proofs.BodyLemmas.{bits-few}
use Rattle.parquet_plain.specs.Bodies.{number_bytes, bit, number_of_bits, groups_of_bits, bits_bytes}

pub bit_small : (b : Bool) → bit b ≤ 1
bit_small true = omega arith
bit_small false = omega arith

eight_few : (bs : List Bool) → length bs ≤ 8 → number_of_bits bs < 256
eight_few bs few =
    let most : 2 ^ length bs ≤ 2 ^ 8 = pow-le-pow_right {n = 2} (omega arith) few in
    omega (arith, most, bits-few bs)

bits_append : (xs ys : List Bool) → number_of_bits (xs ++ ys) ≡ number_of_bits xs + 2 ^ length xs * number_of_bits ys
unfolding number_of_bits
bits_append [] ys = omega arith
bits_append (b ∷ xs) ys =
    let power : 2 ^ suc (length xs) ≡ 2 ^ length xs * 2 = pow-suc 2 (length xs) in
    let times : 2 ^ length xs * 2 * number_of_bits ys ≡ 2 * (2 ^ length xs * number_of_bits ys) = ring (2 ^ length xs) (number_of_bits ys) in
    rw (bits_append xs ys, power, times) (omega arith)
  where
    ring : (p n : ℕ) → p * 2 * n ≡ 2 * (p * n)
    ring p n = ap (λ (k : ℕ). k * n) (mul_comm p 2) ∙ mul_assoc 2 p n

-- eight levels, or the last ones, are a byte
pub bits_split : (front rest : List Bool) → 0 < length front → length front ≤ 8 → (length front ≡ 8) ⊎ (rest ≡ []) → bits_bytes (front ++ rest) ≡ number_of_bits front ∷ bits_bytes rest
unfolding bits_bytes number_bytes
bits_split front rest some few (inl eight) =
    let long : groups_of_bits (length (front ++ rest)) ≡ suc (groups_of_bits (length rest)) = omega (arith, length-append front rest, eight) in
    let whole : number_of_bits (front ++ rest) ≡ number_of_bits front + 256 * number_of_bits rest = bits_append front rest ∙ ap (λ (k : ℕ). number_of_bits front + 2 ^ k * number_of_bits rest) eight in
    let small = eight_few front few in
    let low : (number_of_bits front + 256 * number_of_bits rest) % 256 ≡ number_of_bits front = omega (arith, small) in
    let high : (number_of_bits front + 256 * number_of_bits rest) / 256 ≡ number_of_bits rest = omega (arith, small) in
    rw (long, whole, low, high) refl
bits_split front rest some few (inr none) =
    let long : groups_of_bits (length front) ≡ 1 = omega (arith, some, few) in
    let small = eight_few front few in
    let low : number_of_bits front % 256 ≡ number_of_bits front = omega (arith, small) in
    rw (none, append-nil front, long, low) refl
