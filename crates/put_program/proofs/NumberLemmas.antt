-- Numbers as bytes.
use Rattle.std.proofs.Common.{◌≡◌, ℕ, zero, suc, ◌*◌, ◌/◌, ◌%◌, ◌^◌, ℤ, List, [], ◌∷◌, ◌++◌, refl, sym, ap, ◌∙◌, arith, FitsSigned}
use Rattle.std.specs.Prelude.{reverse}
use Rattle.std.specs.Int.{byte_at, bytes_high_first, cast_signed, cast_unsigned, w128}
use Rattle.std.proofs.lemmas.List.{reverse-append, reverse-reverse}
use Rattle.std.proofs.Math.Facts.{Fits-lt-pow, Fits-of_z}
use Rattle.std.proofs.Math.Nat.{div-div-eq-div-mul, pow-suc}
use Rattle.parquet_base.specs.Bytes.{little_endian}
use Rattle.parquet_plain.specs.Bodies.{number_bytes}
use Rattle.parquet_plain.proofs.BodyLemmas.{number-back}
use Rattle.put_program.specs.Orders.{decimal_of}
use Rattle.put_program.specs.Stored.{decimal_bytes}

-- ---- the highest byte first

byte-behind : (k n : ℕ) → byte_at k (n / 256) ≡ byte_at (suc k) n
byte-behind zero n = refl
byte-behind (suc k) n =
    let step : 256 * 256 ^ suc k ≡ 256 ^ suc (suc k) = omega (arith, pow-suc 256 (suc k)) in
    ap (λ (q : ℕ). q % 256) (div-div-eq-div-mul n 256 (256 ^ suc k) ∙ ap (λ (d : ℕ). n / d) step)

last-byte : (k n : ℕ) → number_bytes (suc k) n ≡ number_bytes k n ++ byte_at k n ∷ []
unfolding number_bytes
last-byte zero n = refl
last-byte (suc k) n = ap (λ (bs : List ℕ). n % 256 ∷ bs) (last-byte k (n / 256) ∙ ap (λ (b : ℕ). number_bytes k (n / 256) ++ b ∷ []) (byte-behind k n))

pub high-first : (k n : ℕ) → bytes_high_first k n ≡ reverse (number_bytes k n)
unfolding number_bytes
high-first zero n = refl
high-first (suc k) n =
    ap (λ (bs : List ℕ). byte_at k n ∷ bs) (high-first k n) ∙ sym (reverse-append (number_bytes k n) (byte_at k n ∷ [])) ∙ ap reverse (sym (last-byte k n))

-- a decimal comes back
pub decimal-back : (n : ℤ) → FitsSigned w128 n → decimal_of (decimal_bytes n) ≡ cast_signed w128 (cast_unsigned w128 n)
decimal-back n fits =
    ap (λ (bs : List ℕ). cast_signed w128 (little_endian bs)) (reverse-reverse (number_bytes 16 (cast_unsigned w128 n)))
    ∙ ap (cast_signed w128) (number-back 16 (cast_unsigned w128 n) (Fits-lt-pow {w = w128} (Fits-of_z {w = w128} fits)))

-- ---- 32 bits of a length

pub low-four : (n : ℕ) → number_bytes 4 (n % 4294967296) ≡ number_bytes 4 n
unfolding number_bytes
low-four n =
    let a : n % 4294967296 % 256 ≡ n % 256 = omega arith in
    let b : n % 4294967296 / 256 % 256 ≡ n / 256 % 256 = omega arith in
    let c : n % 4294967296 / 256 / 256 % 256 ≡ n / 256 / 256 % 256 = omega arith in
    let d : n % 4294967296 / 256 / 256 / 256 % 256 ≡ n / 256 / 256 / 256 % 256 = omega arith in
    rw (a, b, c, d) refl
