-- Bodies that are written spell their items.
use Rattle.std.proofs.Common.{◌≡◌, ℕ, zero, suc, ◌+◌, ◌-◌, ◌*◌, ◌/◌, ◌%◌, ◌^◌, ◌<◌, ◌≤◌, Bool, true, false, List, [], ◌∷◌, Some, refl, sym, ap, ◌∙◌, arith, length, drop, map, length-append, append-nil}
use Rattle.std.specs.Prelude.{min}
use Rattle.std.specs.Int.{w32, w64, to_le_bytes}
use Rattle.std.proofs.lemmas.List.{length-map}
use Rattle.std.proofs.lemmas.Grind.{pow_more}
use Rattle.std.proofs.lemmas.Nat.{div_below, pow-add}
use Rattle.std.proofs.Math.Nat.{pow-suc, div-one, div-div-eq-div-mul, pow-le-pow_right}
use Rattle.parquet_base.specs.Bytes.{little_endian}
use Rattle.compact_write.specs.Written.{varint_bytes}
use Rattle.compact_write.proofs.WrittenLemmas.{varint-written}
use Rattle.parquet_encoding.specs.Bits.{packed}
use Rattle.parquet_encoding.specs.Hybrid.{Groups, run_of, first_run, runs, hybrid}
use Rattle.parquet_plain.specs.Bodies.{number_bytes, bit, number_of_bits, groups_of_bits, bits_bytes, level_bytes}

-- ---- numbers

pub length-number : (count n : ℕ) → length (number_bytes count n) ≡ count
unfolding number_bytes
length-number zero n = refl
length-number (suc count) n = ap suc (length-number count (n / 256))

pub number-back : (count n : ℕ) → n < 256 ^ count → little_endian (number_bytes count n) ≡ n
unfolding little_endian number_bytes
number-back zero n lt = omega arith
number-back (suc count) n lt =
    let power : 256 ^ suc count ≡ 256 ^ count * 256 = pow-suc 256 count in
    let below : n / 256 < 256 ^ count = div_below n 256 (256 ^ count) (omega arith) (rw (← power) lt) in
    omega (arith, number-back count (n / 256) below)

pub four-bytes : (n : ℕ) → number_bytes 4 n ≡ to_le_bytes w32 n
unfolding number_bytes
four-bytes n = rw (div-div-eq-div-mul n 256 256, div-div-eq-div-mul n 65536 256) refl

pub eight-bytes : (n : ℕ) → number_bytes 8 n ≡ to_le_bytes w64 n
unfolding number_bytes
eight-bytes n =
    rw (div-div-eq-div-mul n 256 256, div-div-eq-div-mul n 65536 256, div-div-eq-div-mul n 16777216 256, div-div-eq-div-mul n 4294967296 256, div-div-eq-div-mul n 1099511627776 256, div-div-eq-div-mul n 281474976710656 256) refl

-- ---- bits

pub bits-few : (bs : List Bool) → number_of_bits bs < 2 ^ length bs
unfolding number_of_bits
bits-few [] = omega arith
bits-few (true ∷ bs) = omega (arith, bits-few bs, pow-suc 2 (length bs))
bits-few (false ∷ bs) = omega (arith, bits-few bs, pow-suc 2 (length bs))

-- bits of a number, from one on
packed-bits : (bytes : List ℕ) (place : ℕ) (bs : List Bool) → little_endian bytes / 2 ^ place ≡ number_of_bits bs → packed bytes 1 place (length bs) ≡ map bit bs
unfolding packed number_of_bits
packed-bits bytes place [] e = refl
packed-bits bytes place (b ∷ bs) e =
    let own : little_endian bytes / 2 ^ place % 2 ≡ bit b = rw e (low b (number_of_bits bs)) in
    let behind : little_endian bytes / 2 ^ (place + 1) ≡ number_of_bits bs =
    ap (λ (d : ℕ). little_endian bytes / d) (sum_pow place) ∙ sym (div-div-eq-div-mul (little_endian bytes) (2 ^ place) 2) ∙ rw e (high b (number_of_bits bs)) in
    rw (own, packed-bits bytes (place + 1) bs behind) refl
  where
    low : (c : Bool) (n : ℕ) → (bit c + 2 * n) % 2 ≡ bit c
    low true n = omega arith
    low false n = omega arith

    high : (c : Bool) (n : ℕ) → (bit c + 2 * n) / 2 ≡ n
    high true n = omega arith
    high false n = omega arith

    sum_pow : (k : ℕ) → 2 ^ (k + 1) ≡ 2 ^ k * 2
    sum_pow k = pow_more 2 k

256-is : (k : ℕ) → 256 ^ k ≡ 2 ^ (8 * k)
256-is zero = refl
256-is (suc k) =
    let eight : 8 * suc k ≡ 8 * k + 8 = omega arith in
    rw (eight, pow-suc 256 k, pow-add 2 (8 * k) 8, 256-is k) refl

pub bits-back : (bs : List Bool) → packed (bits_bytes bs) 1 0 (length bs) ≡ map bit bs
unfolding bits_bytes
bits-back bs = packed-bits (bits_bytes bs) 0 bs whole
  where
    whole : little_endian (number_bytes (groups_of_bits (length bs)) (number_of_bits bs)) / 2 ^ 0 ≡ number_of_bits bs
    whole =
        let room : length bs ≤ 8 * groups_of_bits (length bs) = omega arith in
        let grow : 2 ^ length bs ≤ 2 ^ (8 * groups_of_bits (length bs)) = pow-le-pow_right (omega arith) room in
        let some : number_of_bits bs < 256 ^ groups_of_bits (length bs) = rw (256-is (groups_of_bits (length bs))) (omega (arith, bits-few bs, grow)) in
        div-one (little_endian (number_bytes (groups_of_bits (length bs)) (number_of_bits bs))) ∙ number-back (groups_of_bits (length bs)) (number_of_bits bs) some

-- ---- levels

run-of : (bs : List Bool) → run_of (2 * groups_of_bits (length bs) + 1) ≡ Groups (groups_of_bits (length bs))
run-of bs =
    let odd : (2 * groups_of_bits (length bs) + 1) % 2 ≡ 1 = omega arith in
    let half : (2 * groups_of_bits (length bs) + 1) / 2 ≡ groups_of_bits (length bs) = omega arith in
    rw (odd, half) refl

pub length-bits : (bs : List Bool) → length (bits_bytes bs) ≡ groups_of_bits (length bs)
unfolding bits_bytes
length-bits bs = length-number (groups_of_bits (length bs)) (number_of_bits bs)

-- all of the bits in one run
one_run : (bs : List Bool) → length bs < 2 ^ 62 → first_run 1 (length bs) (level_bytes bs) ≡ Some (map bit bs, drop (groups_of_bits (length bs) * 1) (bits_bytes bs))
unfolding first_run level_bytes
one_run bs few =
    let fits : 2 * groups_of_bits (length bs) + 1 < 2 ^ 64 = omega arith in
    let width : 8 * groups_of_bits (length bs) / 1 ≡ 8 * groups_of_bits (length bs) = div-one (8 * groups_of_bits (length bs)) in
    let all : min (min (8 * groups_of_bits (length bs)) (8 * groups_of_bits (length bs))) (length bs) ≡ length bs = omega arith in
    rw (varint-written (2 * groups_of_bits (length bs) + 1) (bits_bytes bs) fits, run-of bs, length-bits bs, width, all, bits-back bs) refl

some-length : (bs : List Bool) → 0 < length bs → 0 < length (level_bytes bs)
unfolding level_bytes
some-length bs some = omega (arith, length-append (varint_bytes (2 * groups_of_bits (length bs) + 1)) (bits_bytes bs), length-bits bs)

pub hybrid-written : (bs : List Bool) → 0 < length bs → length bs < 2 ^ 62 → hybrid 1 (level_bytes bs) (length bs) ≡ Some (map bit bs)
unfolding hybrid runs
hybrid-written bs some few = go (length (level_bytes bs)) (length bs) (some-length bs some) some refl
  where
    go : (limit count : ℕ) → 0 < limit → 0 < count → count ≡ length bs → runs limit 1 (level_bytes bs) count ≡ Some (map bit bs)
    go zero count l c e = absurd (omega arith)
    go (suc limit) zero l c e = absurd (omega arith)
    go (suc limit) (suc count) l c e =
        let none : suc count - length (map bit bs) ≡ 0 = omega (arith, length-map bs bit) in
        rw (e, one_run bs few) (rw (← e, none) (ap (λ (ns : List ℕ). Some ns) (append-nil (map bit bs))))
