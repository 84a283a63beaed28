-- Bytes as a number.
use Rattle.std.proofs.Common.{◌≡◌, ℕ, zero, suc, ◌+◌, ◌*◌, ◌/◌, ◌%◌, ◌^◌, ◌<◌, List, [], ◌∷◌, ◌++◌, length, take, drop, get_or, set, replicate, refl, sym, ap, ◌∙◌, arith}
use Rattle.std.specs.Int.{w32, w64, from_le_bytes}
use Rattle.std.proofs.Math.Nat.{zero-div}
use Rattle.std.proofs.lemmas.List.{get_or-drop, drop_all}
use Rattle.std.proofs.lemmas.Nat.{shr-shr, pow-add, pow_pos, mod_low}
use Rattle.parquet_base.specs.Bytes.{little_endian}

-- each byte is below 256
abbrev pub AreBytes : List ℕ → Type 0
AreBytes bytes = (i : ℕ) → get_or bytes i 0 < 256

AreBytes-tail : (byte : ℕ) (bytes : List ℕ) → AreBytes (byte ∷ bytes) → AreBytes bytes
AreBytes-tail byte bytes fits i = fits (suc i)

pub AreBytes-drop : (n : ℕ) (bytes : List ℕ) → AreBytes bytes → AreBytes (drop n bytes)
AreBytes-drop n bytes fits i = rw get_or-drop (fits (n + i))

-- without its first byte a number is shifted down by eight bits
little_endian-tail : (byte : ℕ) (bytes : List ℕ) → byte < 256 → little_endian bytes ≡ little_endian (byte ∷ bytes) / 2 ^ 8
unfolding little_endian
little_endian-tail byte bytes lt = omega arith

pub little_endian-drop : (n : ℕ) (bytes : List ℕ) → AreBytes bytes → little_endian (drop n bytes) ≡ little_endian bytes / 2 ^ (8 * n)
unfolding little_endian
little_endian-drop zero bytes fits = omega arith
little_endian-drop (suc n) [] fits = sym (zero-div (2 ^ (8 * suc n)))
little_endian-drop (suc n) (byte ∷ bytes) fits =
    let k : 8 + 8 * n ≡ 8 * suc n = omega arith in
    let whole = little_endian (byte ∷ bytes) in
    little_endian-drop n bytes (AreBytes-tail byte bytes fits) ∙ ap (λ m. m / 2 ^ (8 * n)) (little_endian-tail byte bytes (fits 0)) ∙ shr-shr whole 8 (8 * n) ∙ ap (λ m. whole / 2 ^ m) k

-- the byte at a place, and those behind it
pub little_endian-step : (bytes : List ℕ) (n : ℕ) → little_endian (drop n bytes) ≡ get_or bytes n 0 + 256 * little_endian (drop (suc n) bytes)
unfolding little_endian
little_endian-step [] zero = refl
little_endian-step [] (suc n) = refl
little_endian-step (byte ∷ bytes) zero = refl
little_endian-step (byte ∷ bytes) (suc n) = little_endian-step bytes n

-- bytes, and others behind them
pub little_endian-append : (xs ys : List ℕ) → little_endian (xs ++ ys) ≡ little_endian xs + 2 ^ (8 * length xs) * little_endian ys
unfolding little_endian
little_endian-append [] ys = omega arith
little_endian-append (x ∷ xs) ys =
    let k : 8 * suc (length xs) ≡ 8 + 8 * length xs = omega arith in
    let high : 2 ^ (8 * suc (length xs)) ≡ 256 * 2 ^ (8 * length xs) = ap (λ m. 2 ^ m) k ∙ pow-add 2 8 (8 * length xs) in
    let rest = little_endian-append xs ys in
    rw high (omega (arith, rest))

-- the bytes before a place, and those from it on
pub little_endian-split : (n : ℕ) (bytes : List ℕ) → little_endian bytes ≡ little_endian (take n bytes) + 2 ^ (8 * n) * little_endian (drop n bytes)
unfolding little_endian
little_endian-split zero bytes = omega arith
little_endian-split (suc n) [] = omega arith
little_endian-split (suc n) (byte ∷ bytes) =
    let k : 8 * suc n ≡ 8 + 8 * n = omega arith in
    let high : 2 ^ (8 * suc n) ≡ 256 * 2 ^ (8 * n) = ap (λ m. 2 ^ m) k ∙ pow-add 2 8 (8 * n) in
    let rest = little_endian-split n bytes in
    rw high (omega (arith, rest))

-- another byte at a place
pub little_endian-set : (bytes : List ℕ) (at byte : ℕ) → at < length bytes → little_endian (set bytes at byte) + 2 ^ (8 * at) * get_or bytes at 0 ≡ little_endian bytes + 2 ^ (8 * at) * byte
unfolding little_endian
little_endian-set [] at byte h = absurd (omega arith)
little_endian-set (first ∷ bytes) zero byte h = omega arith
little_endian-set (first ∷ bytes) (suc at) byte h =
    let k : 8 * suc at ≡ 8 + 8 * at = omega arith in
    let high : 2 ^ (8 * suc at) ≡ 256 * 2 ^ (8 * at) = ap (λ m. 2 ^ m) k ∙ pow-add 2 8 (8 * at) in
    let rest = little_endian-set bytes at byte (omega arith) in
    rw high (omega (arith, rest))

little_endian-small : (n : ℕ) (bytes : List ℕ) → AreBytes bytes → little_endian (take n bytes) < 2 ^ (8 * n)
unfolding little_endian
little_endian-small zero bytes fits = omega arith
little_endian-small (suc n) [] fits = pow_pos (8 * suc n)
little_endian-small (suc n) (byte ∷ bytes) fits =
    let k : 8 * suc n ≡ 8 + 8 * n = omega arith in
    let high : 2 ^ (8 * suc n) ≡ 256 * 2 ^ (8 * n) = ap (λ m. 2 ^ m) k ∙ pow-add 2 8 (8 * n) in
    let low = little_endian-small n bytes (AreBytes-tail byte bytes fits) in
    let first : byte < 256 = fits 0 in
    rw high (omega (arith, low))

-- the first bytes are the low bits
pub little_endian-take : (n : ℕ) (bytes : List ℕ) → AreBytes bytes → little_endian (take n bytes) ≡ little_endian bytes % 2 ^ (8 * n)
little_endian-take n bytes fits =
    let low = little_endian-small n bytes fits in
    let turned : little_endian bytes ≡ little_endian (drop n bytes) * 2 ^ (8 * n) + little_endian (take n bytes) = omega (arith, little_endian-split n bytes) in
    sym (ap (λ m. m % 2 ^ (8 * n)) turned ∙ mod_low (little_endian (drop n bytes)) (8 * n) (little_endian (take n bytes)) low)

-- ---- bytes of one kind

-- bytes of ones, and one more
pub little_endian-ones : (n : ℕ) → little_endian (replicate n 255) + 1 ≡ 2 ^ (8 * n)
unfolding little_endian
little_endian-ones zero = refl
little_endian-ones (suc n) =
    let k : 8 * suc n ≡ 8 + 8 * n = omega arith in
    let high : 2 ^ (8 * suc n) ≡ 256 * 2 ^ (8 * n) = ap (λ m. 2 ^ m) k ∙ pow-add 2 8 (8 * n) in
    let rest = little_endian-ones n in
    rw high (omega (arith, rest))

pub little_endian-zeros : (n : ℕ) → little_endian (replicate n 0) ≡ 0
unfolding little_endian
little_endian-zeros zero = refl
little_endian-zeros (suc n) = let rest = little_endian-zeros n in omega (arith, rest)

pub little_endian-none : little_endian [] ≡ 0
unfolding little_endian
little_endian-none = refl

-- ---- numbers as the machine reads them

pub four_bytes : (bytes : List ℕ) → length bytes ≡ 4 → from_le_bytes w32 bytes ≡ little_endian bytes
four_bytes bytes long =
    let s : (n : ℕ) → little_endian (drop n bytes) ≡ get_or bytes n 0 + 256 * little_endian (drop (suc n) bytes) = little_endian-step bytes in
    let rest : little_endian (drop 4 bytes) ≡ 0 = ap little_endian (drop_all 4 bytes (omega arith)) ∙ little_endian-none in
    omega (arith, s 0, s 1, s 2, s 3)

pub eight_bytes : (bytes : List ℕ) → length bytes ≡ 8 → from_le_bytes w64 bytes ≡ little_endian bytes
eight_bytes bytes long =
    let s : (n : ℕ) → little_endian (drop n bytes) ≡ get_or bytes n 0 + 256 * little_endian (drop (suc n) bytes) = little_endian-step bytes in
    let rest : little_endian (drop 8 bytes) ≡ 0 = ap little_endian (drop_all 8 bytes (omega arith)) ∙ little_endian-none in
    omega (arith, s 0, s 1, s 2, s 3, s 4, s 5, s 6, s 7)
