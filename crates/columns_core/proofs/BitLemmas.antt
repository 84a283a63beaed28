-- Truth values packed in bytes.
use Rattle.std.proofs.Common.{◌≡◌, ℕ, zero, suc, ◌+◌, ◌-◌, ◌*◌, ◌/◌, ◌%◌, ◌^◌, ◌<◌, Bool, true, false, List, [], ◌∷◌, ◌++◌, length, take, drop, get_or, replicate, refl, sym, ap, ◌∙◌, arith}
use Rattle.std.specs.Prelude.{slice_get, Some, ◌==◌, not, cond, if◌then◌else◌, bit_and, bit_or}
use Rattle.std.specs.List.{count_by}
use Rattle.std.specs.Int.{w64, from_le_bytes}
use Rattle.std.specs.Int.Count.{ones}
use Rattle.std.proofs.lemmas.List.{get_or-take}
use Rattle.std.proofs.lemmas.List.Sums.{sum_by-cons}
use Rattle.std.proofs.Math.Pow.{mod-mod-pow}
use Rattle.std.proofs.lemmas.Nat.{shr-shr, field_of, mod_low, shr_high, pow-add, pow_pos, ones_cat, and_mask, or_shifted, mul-add-lt}
use Rattle.parquet_base.specs.Bytes.{little_endian}
use Rattle.columns_core.specs.Bits.{low_bits, bits_of}
use Rattle.parquet_base.proofs.BytesLemmas.{AreBytes, little_endian-drop, little_endian-step}

pub length-low_bits : (n count : ℕ) → length (low_bits n count) ≡ count
unfolding low_bits
length-low_bits n zero = refl
length-low_bits n (suc count) = ap suc (length-low_bits (n / 2) count)

-- the bit at a place
pub get-low_bits : (n count i : ℕ) → i < count → slice_get (low_bits n count) i ≡ Some (n / 2 ^ i % 2 == 1)
unfolding low_bits
get-low_bits n zero i h = absurd (omega arith)
get-low_bits n (suc count) zero h = let e : n / 2 ^ 0 ≡ n = omega arith in rw e refl
get-low_bits n (suc count) (suc i) h =
    let e : n / 2 / 2 ^ i ≡ n / 2 ^ suc i = shr-shr n 1 i ∙ ap (λ k. n / 2 ^ k) (omega arith) in
    get-low_bits (n / 2) count i (omega arith) ∙ ap (λ m. Some (m % 2 == 1)) e

-- the bits of one byte
bit_of_byte : (n r : ℕ) → r < 8 → n % 256 / 2 ^ r % 2 ≡ n / 2 ^ r % 2
bit_of_byte n r h =
    let k : 8 ≡ 8 - r - 1 + 1 + r = omega arith in
    ap (λ t. n % 2 ^ t / 2 ^ r % 2) k ∙ ap (λ t. t % 2) (field_of n (8 - r - 1 + 1) r) ∙ mod-mod-pow (n / 2 ^ r) (8 - r - 1) 1

pub bit_in_byte : (bytes : List ℕ) (i : ℕ) → AreBytes bytes → get_or bytes (i / 8) 0 / 2 ^ (i % 8) % 2 ≡ little_endian bytes / 2 ^ i % 2
bit_in_byte bytes i fits =
    let whole : 8 * (i / 8) + i % 8 ≡ i = omega arith in
    let rest = little_endian (drop (i / 8) bytes) in
    let low : get_or bytes (i / 8) 0 ≡ rest % 256 = omega (arith, little_endian-step bytes (i / 8), fits (i / 8)) in
    ap (λ t. t / 2 ^ (i % 8) % 2) low ∙ bit_of_byte rest (i % 8) (omega arith)
    ∙ ap (λ t. t / 2 ^ (i % 8) % 2) (little_endian-drop (i / 8) bytes fits)
    ∙ ap (λ t. t % 2) (shr-shr (little_endian bytes) (8 * (i / 8)) (i % 8)) ∙ ap (λ t. little_endian bytes / 2 ^ t % 2) whole

-- the bit in the byte that has it
pub bit_of_bytes : (bytes : List ℕ) (place byte : ℕ) → AreBytes bytes → byte ≡ get_or bytes (place / 8) 0
    → (bit_and (byte / 2 ^ (place % 8)) 1 == 1) ≡ (little_endian bytes / 2 ^ place % 2 == 1)
bit_of_bytes bytes place byte fits is =
    ap (λ t. t == 1) (and_mask (byte / 2 ^ (place % 8)) 1 ∙ ap (λ t. t / 2 ^ (place % 8) % 2) is ∙ bit_in_byte bytes place fits)

-- the eight bits behind a place, in the byte that has the first of them and the next
pub byte_of_bytes : (bytes : List ℕ) (place low high : ℕ) → AreBytes bytes → low ≡ get_or bytes (place / 8) 0 → high ≡ get_or bytes (suc (place / 8)) 0
    → bit_and (bit_or (high * 256 % 65536) low / 2 ^ (place % 8)) 255 ≡ little_endian bytes / 2 ^ place % 256
byte_of_bytes bytes place low high fits is next =
    let at = place / 8 in
    let r = place % 8 in
    let rest = little_endian (drop at bytes) in
    let whole : 8 * at + r ≡ place = omega arith in
    let k : 16 ≡ 8 - r + 8 + r = omega arith in
    let small : high * 256 % 65536 ≡ high * 2 ^ 8 = omega (arith, next, fits (suc at)) in
    let word : high * 2 ^ 8 + low ≡ rest % 2 ^ 16 = omega (arith, is, next, fits at, fits (suc at), little_endian-step bytes at, little_endian-step bytes (suc at)) in
    and_mask (bit_or (high * 256 % 65536) low / 2 ^ r) 8
    ∙ ap (λ t. bit_or t low / 2 ^ r % 2 ^ 8) small ∙ ap (λ t. t / 2 ^ r % 2 ^ 8) (or_shifted high 8 low (omega (arith, is, fits at)) ∙ word)
    ∙ ap (λ t. rest % 2 ^ t / 2 ^ r % 2 ^ 8) k ∙ ap (λ t. t % 2 ^ 8) (field_of rest (8 - r + 8) r) ∙ mod-mod-pow (rest / 2 ^ r) (8 - r) 8
    ∙ ap (λ t. t / 2 ^ r % 2 ^ 8) (little_endian-drop at bytes fits)
    ∙ ap (λ t. t % 2 ^ 8) (shr-shr (little_endian bytes) (8 * at) r) ∙ ap (λ t. little_endian bytes / 2 ^ t % 2 ^ 8) whole

-- ---- how many are set

bit_or_not : (bit : ℕ) → bit < 2 → cond (not (bit == 1)) 1 0 + ones bit ≡ 1
unfolding ones
bit_or_not zero h = refl
bit_or_not (suc zero) h = refl
bit_or_not (suc (suc bit)) h = absurd (omega arith)

-- those that are not set, and the ones of the number
pub unset_and_ones : (n count : ℕ) → n < 2 ^ count → count_by not (low_bits n count) + ones n ≡ count
unfolding low_bits ones
unset_and_ones n zero h = let e : n ≡ 0 = omega arith in let f : ones n ≡ 0 = ap ones e in omega (arith, f)
unset_and_ones n (suc count) h =
    let e : n ≡ n / 2 * 2 ^ 1 + n % 2 = omega arith in
    let half = unset_and_ones (n / 2) count (omega arith) in
    let split : ones n ≡ ones (n / 2) + ones (n % 2) = ap ones e ∙ ones_cat 1 (n / 2) (n % 2) (omega arith) in
    let bit : cond (not (n % 2 == 1)) 1 0 + ones (n % 2) ≡ 1 = bit_or_not (n % 2) (omega arith) in
    let counted : count_by not (low_bits n (suc count)) ≡ cond (not (n % 2 == 1)) 1 0 + count_by not (low_bits (n / 2) count) = sum_by-cons (λ bit. cond (not bit) 1 0) (n % 2 == 1) (low_bits (n / 2) count) in
    omega (arith, half, split, bit, counted)

-- the ones of a byte, and of the bytes behind it
pub ones-step : (bytes : List ℕ) (i : ℕ) → AreBytes bytes → ones (little_endian (drop i bytes)) ≡ ones (get_or bytes i 0) + ones (little_endian (drop (suc i) bytes))
ones-step bytes i fits =
    let rest = little_endian (drop (suc i) bytes) in
    let turned : little_endian (drop i bytes) ≡ rest * 2 ^ 8 + get_or bytes i 0 = omega (arith, little_endian-step bytes i) in
    let split = ones_cat 8 rest (get_or bytes i 0) (fits i) in
    omega (arith, ap ones turned, split)

-- the ones of eight bytes as the machine reads them, and of the bytes behind them
pub ones-word : (bytes : List ℕ) → AreBytes bytes → ones (little_endian bytes) ≡ ones (from_le_bytes w64 (take 8 bytes)) + ones (little_endian (drop 8 bytes))
ones-word bytes fits =
    let s : (n : ℕ) → little_endian (drop n bytes) ≡ get_or bytes n 0 + 256 * little_endian (drop (suc n) bytes) = little_endian-step bytes in
    let t : (i : ℕ) → i < 8 → get_or (take 8 bytes) i 0 ≡ get_or bytes i 0 = λ i lt. get_or-take 8 bytes i 0 lt in
    let word : from_le_bytes w64 (take 8 bytes) ≡ from_le_bytes w64 bytes =
    omega (arith, t 0 (omega arith), t 1 (omega arith), t 2 (omega arith), t 3 (omega arith), t 4 (omega arith), t 5 (omega arith), t 6 (omega arith), t 7 (omega arith)) in
    let small : from_le_bytes w64 bytes < 2 ^ 64 = omega (arith, fits 0, fits 1, fits 2, fits 3, fits 4, fits 5, fits 6, fits 7) in
    let whole : little_endian bytes ≡ little_endian (drop 8 bytes) * 2 ^ 64 + from_le_bytes w64 bytes = omega (arith, s 0, s 1, s 2, s 3, s 4, s 5, s 6, s 7) in
    let split = ones_cat 64 (little_endian (drop 8 bytes)) (from_le_bytes w64 bytes) small in
    omega (arith, ap ones whole, split, ap ones word)

pub no_ones : ones (little_endian []) ≡ 0
unfolding little_endian ones
no_ones = refl

-- ---- more and fewer of them

-- the bits of a number are those of its remainder
pub low_bits-mod : (n count : ℕ) → low_bits (n % 2 ^ count) count ≡ low_bits n count
unfolding low_bits
low_bits-mod n zero = refl
low_bits-mod n (suc count) =
    let k : suc count ≡ count + 1 = omega arith in
    let first : n % 2 ^ suc count % 2 ≡ n % 2 = ap (λ t. n % 2 ^ t % 2) k ∙ mod-mod-pow n count 1 in
    let rest : n % 2 ^ suc count / 2 ≡ n / 2 % 2 ^ count = ap (λ t. n % 2 ^ t / 2) k ∙ field_of n count 1 in
    rw (first, rest) (ap (λ bits. (n % 2 == 1) ∷ bits) (low_bits-mod (n / 2) count))

pub low_bits-add : (n first count : ℕ) → low_bits n (first + count) ≡ low_bits n first ++ low_bits (n / 2 ^ first) count
unfolding low_bits
low_bits-add n zero count = let e : n / 2 ^ 0 ≡ n = omega arith in let f : 0 + count ≡ count = omega arith in rw (e, f) refl
low_bits-add n (suc first) count =
    let k : suc first + count ≡ suc (first + count) = omega arith in
    let e : n / 2 / 2 ^ first ≡ n / 2 ^ suc first = shr-shr n 1 first ∙ ap (λ t. n / 2 ^ t) (omega arith) in
    ap (low_bits n) k ∙ ap (λ bits. (n % 2 == 1) ∷ bits) (low_bits-add (n / 2) first count ∙ ap (λ m. low_bits (n / 2) first ++ low_bits m count) e)

-- the bits of a number, and those of another above them
pub appended : (n m first count whole : ℕ) → whole ≡ n + 2 ^ first * m → n < 2 ^ first → low_bits whole (first + count) ≡ low_bits n first ++ low_bits m count
appended n m first count whole is h =
    let turned : whole ≡ m * 2 ^ first + n = omega (arith, is) in
    let low : low_bits whole first ≡ low_bits n first = sym (low_bits-mod whole first) ∙ ap (λ t. low_bits t first) (ap (λ t. t % 2 ^ first) turned ∙ mod_low m first n h) in
    let high : whole / 2 ^ first ≡ m = ap (λ t. t / 2 ^ first) turned ∙ shr_high m first n h in
    low_bits-add whole first count ∙ ap (λ bits. bits ++ low_bits (whole / 2 ^ first) count) low ∙ ap (λ t. low_bits n first ++ low_bits t count) high

pub below_appended : (n m first count whole : ℕ) → whole ≡ n + 2 ^ first * m → n < 2 ^ first → m < 2 ^ count → whole < 2 ^ (first + count)
below_appended n m first count whole is h k =
    let turned : whole ≡ m * 2 ^ first + n = omega (arith, is) in
    let room = mul-add-lt m (2 ^ first) n (2 ^ count) k h in
    let split = pow-add 2 first count in
    omega (arith, turned, room, split)

-- ---- from both ends

-- a number behind whole bytes
pub behind_bytes : (bytes : List ℕ) (place n : ℕ) → AreBytes bytes → little_endian (drop (place / 8) bytes) / 2 ^ (place % 8 + n) ≡ little_endian bytes / 2 ^ (place + n)
behind_bytes bytes place n fits =
    let whole : 8 * (place / 8) + (place % 8 + n) ≡ place + n = omega arith in
    ap (λ m. m / 2 ^ (place % 8 + n)) (little_endian-drop (place / 8) bytes fits)
    ∙ shr-shr (little_endian bytes) (8 * (place / 8)) (place % 8 + n) ∙ ap (λ t. little_endian bytes / 2 ^ t) whole

-- the same bits, elsewhere
pub bits_of-same : (bytes others : List ℕ) (place other count : ℕ) → little_endian others / 2 ^ (other + 0) ≡ little_endian bytes / 2 ^ (place + 0) → bits_of others other count ≡ bits_of bytes place count
bits_of-same bytes others place other count same =
    let e : other + 0 ≡ other = omega arith in
    let f : place + 0 ≡ place = omega arith in
    ap (λ m. low_bits m count) (ap (λ t. little_endian others / 2 ^ t) (sym e) ∙ same ∙ ap (λ t. little_endian bytes / 2 ^ t) f)

-- the first bit, and those behind it
pub bits_of-first : (bytes : List ℕ) (place left rest : ℕ) → left ≡ suc rest → bits_of bytes place left ≡ (little_endian bytes / 2 ^ place % 2 == 1) ∷ bits_of bytes (place + 1) rest
unfolding low_bits
bits_of-first bytes place left rest is =
    ap (bits_of bytes place) is ∙ ap (λ m. (little_endian bytes / 2 ^ place % 2 == 1) ∷ low_bits m rest) (shr-shr (little_endian bytes) place 1)

-- the bits before the last, and the last
pub bits_of-last : (bytes : List ℕ) (place left rest : ℕ) → left ≡ rest + 1 → bits_of bytes place left ≡ bits_of bytes place rest ++ (little_endian bytes / 2 ^ (place + rest) % 2 == 1) ∷ []
unfolding low_bits
bits_of-last bytes place left rest is =
    ap (bits_of bytes place) is ∙ low_bits-add (little_endian bytes / 2 ^ place) rest 1
    ∙ ap (λ m. bits_of bytes place rest ++ (m % 2 == 1) ∷ []) (shr-shr (little_endian bytes) place rest)

pub no_bits : (n : ℕ) → low_bits n 0 ≡ []
unfolding low_bits
no_bits n = refl

-- ---- bits of one kind

pub zeros : (count : ℕ) → low_bits 0 count ≡ replicate count false
unfolding low_bits
zeros zero = refl
zeros (suc count) = ap (λ bits. false ∷ bits) (zeros count)

pub all_ones : (count : ℕ) → low_bits (2 ^ count - 1) count ≡ replicate count true
unfolding low_bits
all_ones zero = refl
all_ones (suc count) =
    let some = pow_pos count in
    let k : suc count ≡ 1 + count = omega arith in
    let twice : 2 ^ suc count ≡ 2 * 2 ^ count = ap (λ t. 2 ^ t) k ∙ pow-add 2 1 count in
    let half : (2 ^ suc count - 1) / 2 ≡ 2 ^ count - 1 = omega (arith, twice, some) in
    let odd : (2 ^ suc count - 1) % 2 ≡ 1 = omega (arith, twice, some) in
    rw (half, odd) (ap (λ bits. true ∷ bits) (all_ones count))

pub constant : (count : ℕ) (value : Bool) → low_bits (if value then 2 ^ count - 1 else 0) count ≡ replicate count value
constant count true = all_ones count
constant count false = zeros count

pub one_bit : (value : Bool) → low_bits (if value then 1 else 0) 1 ≡ value ∷ []
unfolding low_bits
one_bit true = refl
one_bit false = refl
