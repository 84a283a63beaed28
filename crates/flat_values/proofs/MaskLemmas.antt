-- The rows of a word in a mask.
use Rattle.std.proofs.Common.{◌≡◌, ℕ, ◌/◌, ◌%◌, ◌^◌, ◌<◌, ◌≤◌, Bool, true, List, [], ◌∷◌, ◌++◌, length, replicate, refl, ap, ◌∙◌, arith}
use Rattle.std.proofs.Math.Pow.{pow_mono}
use Rattle.parquet_base.specs.Bytes.{little_endian}
use Rattle.columns_core.specs.Bits.{bits_of, low_bits}
use Rattle.flat_values.specs.Decoded.{with_places}

-- the bits of a number in its four bytes
pub bits_in_bytes : (bits rows : ℕ) (bytes : List ℕ) → rows ≤ 32 → bits < 2 ^ rows → bytes ≡ bits % 256 ∷ bits / 256 % 256 ∷ bits / 65536 % 256 ∷ bits / 16777216 % 256 ∷ [] → bits_of bytes 0 rows ≡ low_bits bits rows
unfolding little_endian
bits_in_bytes bits rows bytes few within is =
    let low : bits < 2 ^ 32 = omega (arith, pow_mono few) in
    let whole : little_endian (bits % 256 ∷ bits / 256 % 256 ∷ bits / 65536 % 256 ∷ bits / 16777216 % 256 ∷ []) / 2 ^ 0 ≡ bits = omega (arith, low) in
    ap (λ found. bits_of found 0 rows) is ∙ ap (λ n. low_bits n rows) whole

pub places-first : (held : ℕ) (mask front own places : List Bool) → length mask ≡ 0 → front ≡ mask ++ replicate held true → own ≡ places → front ++ own ≡ with_places held places mask
places-first held [] front own places none is same = ap (λ xs. xs ++ own) is ∙ ap (λ xs. replicate held true ++ xs) same
places-first held (set ∷ mask) front own places none is same = absurd (omega (arith, none))

pub places-more : (held : ℕ) (mask front own places : List Bool) → (length mask ≡ 0 → ⊥) → front ≡ mask → own ≡ places → front ++ own ≡ with_places held places mask
places-more held [] front own places some is same = absurd (some refl)
places-more held (set ∷ mask) front own places some is same = ap (λ xs. xs ++ own) is ∙ ap (λ xs. (set ∷ mask) ++ xs) same
