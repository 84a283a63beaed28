-- Numbers in the bits of bytes.
use Rattle.std.proofs.Common.{◌≡◌, ℕ, zero, suc, ◌+◌, ◌-◌, ◌*◌, ◌/◌, ◌%◌, ◌^◌, ◌<◌, ◌≤◌, List, [], ◌∷◌, ◌++◌, length, take, drop, get_or, replicate, refl, sym, ap, ◌∙◌, arith}
use Rattle.std.specs.Int.{w64, from_le_bytes}
use Rattle.std.specs.Prelude.{slice_get, Some}
use Rattle.std.proofs.Math.Pow.{mod-mod-pow}
use Rattle.std.proofs.lemmas.List.{get_or-take, get_or-drop, drop_all}
use Rattle.std.proofs.lemmas.Nat.{shr-shr, field_of, mod_low}
use Rattle.parquet_base.specs.Bytes.{little_endian}
use Rattle.parquet_base.proofs.BytesLemmas.{AreBytes, little_endian-drop, little_endian-step, little_endian-none}
use Rattle.parquet_encoding.specs.Bits.{bits_at, packed}

-- the number in some bits behind whole bytes
pub bits_at-drop : (bytes : List ℕ) (n place width : ℕ) → AreBytes bytes → bits_at (drop n bytes) place width ≡ bits_at bytes (8 * n + place) width
bits_at-drop bytes n place width fits = ap (λ m. m / 2 ^ place % 2 ^ width) (little_endian-drop n bytes fits) ∙ ap (λ m. m % 2 ^ width) (shr-shr (little_endian bytes) (8 * n) place)

-- the low bits of a word that is shifted down
pub bits_of_word : (n place shift width : ℕ) → shift + width ≤ 64 → n / 2 ^ place % 2 ^ 64 / 2 ^ shift % 2 ^ width ≡ n / 2 ^ (place + shift) % 2 ^ width
bits_of_word n place shift width h =
    let k : 64 ≡ 64 - shift + shift = omega arith in
    let j : 64 - shift ≡ 64 - shift - width + width = omega arith in
    let m = n / 2 ^ place in
    ap (λ t. m % 2 ^ t / 2 ^ shift % 2 ^ width) k ∙ ap (λ t. t % 2 ^ width) (field_of m (64 - shift) shift) ∙ ap (λ t. m / 2 ^ shift % 2 ^ t % 2 ^ width) j
    ∙ mod-mod-pow (m / 2 ^ shift) (64 - shift - width) width ∙ ap (λ t. t % 2 ^ width) (shr-shr n place shift)

-- eight bytes, and those behind them
little_endian-word : (bytes : List ℕ) → little_endian bytes ≡ from_le_bytes w64 bytes + 2 ^ 64 * little_endian (drop 8 bytes)
little_endian-word bytes =
    let s : (n : ℕ) → little_endian (drop n bytes) ≡ get_or bytes n 0 + 256 * little_endian (drop (suc n) bytes) = little_endian-step bytes in
    omega (arith, s 0, s 1, s 2, s 3, s 4, s 5, s 6, s 7)

from_le_bytes-take : (bytes : List ℕ) → from_le_bytes w64 (take 8 bytes) ≡ from_le_bytes w64 bytes
from_le_bytes-take bytes =
    let t : (i : ℕ) → i < 8 → get_or (take 8 bytes) i 0 ≡ get_or bytes i 0 = λ i lt. get_or-take 8 bytes i 0 lt in
    omega (arith, t 0 (omega arith), t 1 (omega arith), t 2 (omega arith), t 3 (omega arith), t 4 (omega arith), t 5 (omega arith), t 6 (omega arith), t 7 (omega arith))

word_below : (bytes : List ℕ) → AreBytes bytes → from_le_bytes w64 bytes < 2 ^ 64
word_below bytes fits = omega (arith, fits 0, fits 1, fits 2, fits 3, fits 4, fits 5, fits 6, fits 7)

-- eight bytes as the machine reads them
pub word_is : (bytes : List ℕ) → AreBytes bytes → from_le_bytes w64 (take 8 bytes) ≡ little_endian bytes % 2 ^ 64
word_is bytes fits =
    let low : from_le_bytes w64 bytes < 2 ^ 64 = word_below bytes fits in
    let turned : little_endian bytes ≡ little_endian (drop 8 bytes) * 2 ^ 64 + from_le_bytes w64 bytes = omega (arith, little_endian-word bytes) in
    from_le_bytes-take bytes ∙ sym (ap (λ n. n % 2 ^ 64) turned ∙ mod_low (little_endian (drop 8 bytes)) 64 (from_le_bytes w64 bytes) low)

-- a list of fewer than eight bytes, with zeros behind it
get_or-append-zeros : (xs zs : List ℕ) → ((i : ℕ) → get_or zs i 0 ≡ 0) → (i : ℕ) → get_or (xs ++ zs) i 0 ≡ get_or xs i 0
get_or-append-zeros [] zs zeros i = zeros i
get_or-append-zeros (x ∷ xs) zs zeros zero = refl
get_or-append-zeros (x ∷ xs) zs zeros (suc i) = get_or-append-zeros xs zs zeros i

get_or-zeros : (n i : ℕ) → get_or {A = ℕ} (replicate n 0) i 0 ≡ 0
get_or-zeros zero i = refl
get_or-zeros (suc n) zero = refl
get_or-zeros (suc n) (suc i) = get_or-zeros n i

pub short_word_is : (bytes : List ℕ) (n : ℕ) → length bytes < 8 → from_le_bytes w64 (bytes ++ drop n (0 ∷ 0 ∷ 0 ∷ 0 ∷ 0 ∷ 0 ∷ 0 ∷ 0 ∷ [])) ≡ little_endian bytes
short_word_is bytes n short =
    let zeros : List ℕ = drop n (0 ∷ 0 ∷ 0 ∷ 0 ∷ 0 ∷ 0 ∷ 0 ∷ 0 ∷ []) in
    let none : (i : ℕ) → get_or zeros i 0 ≡ 0 = λ i. get_or-drop n (0 ∷ 0 ∷ 0 ∷ 0 ∷ 0 ∷ 0 ∷ 0 ∷ 0 ∷ []) i 0 ∙ get_or-zeros 8 (n + i) in
    let t : (i : ℕ) → get_or (bytes ++ zeros) i 0 ≡ get_or bytes i 0 = get_or-append-zeros bytes zeros none in
    let rest : little_endian (drop 8 bytes) ≡ 0 = ap little_endian (drop_all 8 bytes (omega arith)) ∙ little_endian-none in
    let whole = little_endian-word bytes in
    omega (arith, t 0, t 1, t 2, t 3, t 4, t 5, t 6, t 7)

-- a number that lies in the word from a place on
pub field_of_word : (bytes : List ℕ) (start shift width word : ℕ) → AreBytes bytes → word ≡ little_endian (drop start bytes) % 2 ^ 64 → shift + width ≤ 64 → word / 2 ^ shift % 2 ^ width ≡ bits_at bytes (8 * start + shift) width
field_of_word bytes start shift width word fits is inside =
    ap (λ n. n / 2 ^ shift % 2 ^ width) (is ∙ ap (λ n. n % 2 ^ 64) (little_endian-drop start bytes fits)) ∙ bits_of_word (little_endian bytes) (8 * start) shift width inside

pub eight_packed : (bytes : List ℕ) (width place bit : ℕ) → packed bytes width (place + bit) 8
    ≡ bits_at bytes (place + bit) width ∷ bits_at bytes (place + (bit + width)) width ∷ bits_at bytes (place + (bit + 2 * width)) width ∷ bits_at bytes (place + (bit + 3 * width)) width
    ∷ bits_at bytes (place + (bit + 4 * width)) width ∷ bits_at bytes (place + (bit + 5 * width)) width ∷ bits_at bytes (place + (bit + 6 * width)) width ∷ bits_at bytes (place + (bit + 7 * width)) width ∷ []
unfolding packed
eight_packed bytes width place bit =
    let at : (p q : ℕ) → p ≡ q → bits_at bytes p width ≡ bits_at bytes q width = λ p q e. ap (λ n. bits_at bytes n width) e in
    let n = place + bit in
    let e1 = at (n + width) (place + (bit + width)) (omega arith) in
    let e2 = at (n + width + width) (place + (bit + 2 * width)) (omega arith) in
    let e3 = at (n + width + width + width) (place + (bit + 3 * width)) (omega arith) in
    let e4 = at (n + width + width + width + width) (place + (bit + 4 * width)) (omega arith) in
    let e5 = at (n + width + width + width + width + width) (place + (bit + 5 * width)) (omega arith) in
    let e6 = at (n + width + width + width + width + width + width) (place + (bit + 6 * width)) (omega arith) in
    let e7 = at (n + width + width + width + width + width + width + width) (place + (bit + 7 * width)) (omega arith) in
    cc

-- the bits of a number behind a place, wherever its first byte is
pub value_in_word : (bytes : List ℕ) (place bit width word : ℕ) → AreBytes bytes → width ≤ 32 → word ≡ little_endian (drop (place + bit / 8) bytes) % 2 ^ 64
    → word / 2 ^ (bit % 8) % 2 ^ width ≡ bits_at bytes (8 * place + bit) width
value_in_word bytes place bit width word fits narrow is =
    let whole : 8 * (place + bit / 8) + bit % 8 ≡ 8 * place + bit = omega arith in
    field_of_word bytes (place + bit / 8) (bit % 8) width word fits is (omega arith) ∙ ap (λ n. bits_at bytes n width) whole

-- eight numbers fill as many bytes as each has bits
pub whole_groups : (count width : ℕ) → 8 * (count / 8 * width) + count % 8 * width ≡ count * width
whole_groups count width =
    let split : 8 * (count / 8) + count % 8 ≡ count = omega arith in
    let bits = ap (λ n. n * width) split in
    omega (arith, bits)

-- ---- lists of numbers side by side

pub length-packed : (bytes : List ℕ) (width place count : ℕ) → length (packed bytes width place count) ≡ count
unfolding packed
length-packed bytes width place zero = refl
length-packed bytes width place (suc count) = ap suc (length-packed bytes width (place + width) count)

-- behind whole bytes
pub packed-drop : (bytes : List ℕ) (n width place count : ℕ) → AreBytes bytes → packed (drop n bytes) width place count ≡ packed bytes width (8 * n + place) count
unfolding packed
packed-drop bytes n width place zero fits = refl
packed-drop bytes n width place (suc count) fits =
    let k : 8 * n + (place + width) ≡ 8 * n + place + width = omega arith in
    rw (bits_at-drop bytes n place width fits, packed-drop bytes n width (place + width) count fits, k) refl

pub drop-packed : (n : ℕ) (bytes : List ℕ) (width place count : ℕ) → drop n (packed bytes width place count) ≡ packed bytes width (place + n * width) (count - n)
unfolding packed
drop-packed zero bytes width place count = let a : place + 0 * width ≡ place = omega arith in let b : count - 0 ≡ count = omega arith in rw (a, b) refl
drop-packed (suc n) bytes width place zero = let b : 0 - suc n ≡ 0 = omega arith in rw b refl
drop-packed (suc n) bytes width place (suc count) =
    let a : place + width + n * width ≡ place + suc n * width = omega arith in
    let b : count - n ≡ suc count - suc n = omega arith in
    drop-packed n bytes width (place + width) count ∙ ap (λ p. packed bytes width p (count - n)) a ∙ ap (packed bytes width (place + suc n * width)) b

pub take-packed : (n : ℕ) (bytes : List ℕ) (width place count : ℕ) → n ≤ count → take n (packed bytes width place count) ≡ packed bytes width place n
unfolding packed
take-packed zero bytes width place count few = refl
take-packed (suc n) bytes width place zero few = absurd (omega arith)
take-packed (suc n) bytes width place (suc count) few = ap (λ rest. bits_at bytes place width ∷ rest) (take-packed n bytes width (place + width) count (omega arith))

-- some numbers, and those behind them
pub packed-add : (bytes : List ℕ) (width place m n : ℕ) → packed bytes width place (m + n) ≡ packed bytes width place m ++ packed bytes width (place + m * width) n
unfolding packed
packed-add bytes width place zero n = let a : place + 0 * width ≡ place = omega arith in let b : 0 + n ≡ n = omega arith in rw (a, b) refl
packed-add bytes width place (suc m) n =
    let a : place + width + m * width ≡ place + suc m * width = omega arith in
    let b : suc m + n ≡ suc (m + n) = omega arith in
    ap (packed bytes width place) b
    ∙ ap (λ rest. bits_at bytes place width ∷ rest) (packed-add bytes width (place + width) m n ∙ ap (λ p. packed bytes width (place + width) m ++ packed bytes width p n) a)

pub first_packed : (bytes : List ℕ) (width place count : ℕ) → 0 < count → slice_get (packed bytes width place count) 0 ≡ Some (bits_at bytes place width)
unfolding packed
first_packed bytes width place zero positive = absurd (omega arith)
first_packed bytes width place (suc count) positive = refl
