-- Bytes as numbers.
use Rattle.std.proofs.Common.{◌≡◌, ℕ, zero, suc, ◌+◌, ◌-◌, ◌*◌, ◌^◌, ◌<◌, pos, neg_ℤ, Bool, true, false, List, [], ◌∷◌, ◌++◌, length, take, drop, reverse, get_or, refl, sym, ap, ◌∙◌, arith, pow-suc, subst}
use Rattle.std.specs.Prelude.{nat_lt, if◌then◌else◌}
use Rattle.std.specs.Int.{w32, from_le_bytes}
use Rattle.std.proofs.lemmas.List.{get_or-take, get_or-drop, reverse-append}
use Rattle.std.proofs.Math.Seq.{take-suc}
use Rattle.std.proofs.lemmas.Nat.{pow-add}
use Rattle.std.proofs.lemmas.Bool.{ltb-false}
use Rattle.parquet_base.specs.Bytes.{little_endian}
use Rattle.parquet_base.proofs.BytesLemmas.{little_endian-step}
use Rattle.flat_values.specs.Conversion.{with_sign}

-- nothing stands behind the last of so many bytes
nothing_behind : (n : ℕ) (bytes : List ℕ) → little_endian (drop n (take n bytes)) ≡ 0
unfolding little_endian
nothing_behind zero bytes = refl
nothing_behind (suc n) [] = refl
nothing_behind (suc n) (byte ∷ bytes) = nothing_behind n bytes

-- four bytes at a place
pub four : (bytes : List ℕ) (place : ℕ) →
    from_le_bytes w32 (get_or bytes place 0 ∷ get_or bytes (place + 1) 0 ∷ get_or bytes (place + 2) 0 ∷ get_or bytes (place + 3) 0 ∷ []) ≡ little_endian (take 4 (drop place bytes))
four bytes place =
    let part : List ℕ = take 4 (drop place bytes) in
    let s : (n : ℕ) → little_endian (drop n part) ≡ get_or part n 0 + 256 * little_endian (drop (suc n) part) = little_endian-step part in
    let t : (i : ℕ) → i < 4 → get_or part i 0 ≡ get_or bytes (place + i) 0 = λ i lt. get_or-take 4 (drop place bytes) i 0 lt ∙ get_or-drop place bytes i 0 in
    let e : get_or bytes (place + 0) 0 ≡ get_or bytes place 0 = ap (λ n. get_or bytes n 0) (omega arith) in
    omega (arith, s 0, s 1, s 2, s 3, nothing_behind 4 (drop place bytes), t 0 (omega arith), t 1 (omega arith), t 2 (omega arith), t 3 (omega arith), e)

-- ---- numbers with a sign

pub doubled : (bits : ℕ) → 0 < bits → 2 ^ (bits - 1) * 2 ≡ 2 ^ bits
doubled bits p = let e : suc (bits - 1) ≡ bits = omega (arith, p) in sym (pow-suc 2 (bits - 1)) ∙ ap (λ k. 2 ^ k) e

low_half : (b : Bool) (h whole pattern : ℕ) → nat_lt pattern h ≡ b → pattern < h → pos pattern ≡ (if b then pos pattern else neg_ℤ (pos (whole - pattern)))
low_half true h whole pattern e lt = refl
low_half false h whole pattern e lt = absurd (omega (arith, ltb-false pattern h e, lt))

pub not_negative : (bits pattern : ℕ) → pattern < 2 ^ (bits - 1) → pos pattern ≡ with_sign bits pattern
not_negative bits pattern lt = low_half (nat_lt pattern (2 ^ (bits - 1))) (2 ^ (bits - 1)) (2 ^ bits) pattern refl lt

-- ---- bytes from the highest on

-- one more byte behind bytes that are read from the highest
pub next_byte : (bytes : List ℕ) (i : ℕ) → i < length bytes → little_endian (reverse (take i bytes)) * 256 + get_or bytes i 0 ≡ little_endian (reverse (take (i + 1) bytes))
unfolding little_endian
next_byte bytes i lt =
    let one_more : i + 1 ≡ suc i = omega arith in
    let e : take (i + 1) bytes ≡ take i bytes ++ get_or bytes i 0 ∷ [] = ap (λ n. take n bytes) one_more ∙ take-suc bytes i 0 lt in
    let turned : reverse (take (i + 1) bytes) ≡ get_or bytes i 0 ∷ reverse (take i bytes) = ap reverse e ∙ reverse-append (take i bytes) (get_or bytes i 0 ∷ []) in
    let sum : little_endian (get_or bytes i 0 ∷ reverse (take i bytes)) ≡ get_or bytes i 0 + 256 * little_endian (reverse (take i bytes)) = refl in
    let order : little_endian (reverse (take i bytes)) * 256 + get_or bytes i 0 ≡ get_or bytes i 0 + 256 * little_endian (reverse (take i bytes)) = omega arith in
    order ∙ sym sum ∙ ap little_endian (sym turned)

pub grown : (pattern byte i : ℕ) → pattern < 2 ^ (8 * i) → byte < 256 → pattern * 256 + byte < 2 ^ (8 * (i + 1))
grown pattern byte i lt b =
    let e : 2 ^ (8 * i + 8) ≡ 2 ^ (8 * i) * 2 ^ 8 = pow-add 2 (8 * i) 8 in
    let k : 8 * (i + 1) ≡ 8 * i + 8 = omega arith in
    subst (λ m. pattern * 256 + byte < 2 ^ m) (sym k) (omega (arith, lt, b, e))
