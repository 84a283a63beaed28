-- Numbers of up to 64 bits, which may reach into a ninth byte.
use Rattle.std.proofs.Common.{◌≡◌, ℕ, ◌+◌, ◌-◌, ◌*◌, ◌/◌, ◌%◌, ◌^◌, ◌<◌, ◌≤◌, List, drop, get_or, sym, ap, ◌∙◌, arith}
use Rattle.std.specs.Prelude.{bit_or}
use Rattle.std.proofs.Math.Pow.{mod-mod-pow}
use Rattle.std.proofs.Math.Nat.{mul-mod_left}
use Rattle.std.proofs.lemmas.Nat.{shr-shr, field_of, mod-pow-add, shl-shr, or_comm, or_shifted, shr_below, mod_below, pow_pos}
use Rattle.parquet_base.specs.Bytes.{little_endian}
use Rattle.parquet_encoding.specs.Bits.{bits_at}
use Rattle.parquet_base.proofs.BytesLemmas.{AreBytes, little_endian-step, little_endian-drop}
use Rattle.parquet_encoding.proofs.BitsLemmas.{bits_of_word}

-- the byte at a place, of all bytes as one number
byte_is : (bytes : List ℕ) (n : ℕ) → AreBytes bytes → get_or bytes n 0 ≡ little_endian bytes / 2 ^ (8 * n) % 2 ^ 8
byte_is bytes n fits =
    let step = little_endian-step bytes n in
    let low : get_or bytes n 0 ≡ little_endian (drop n bytes) % 2 ^ 8 = omega (arith, fits n) in
    low ∙ ap (λ m. m % 2 ^ 8) (little_endian-drop n bytes fits)

-- the low bits of a byte, moved to the top of a word
top_of_word : (byte shift k : ℕ) → shift + k ≡ 64 → byte * 2 ^ k % 2 ^ 64 ≡ byte % 2 ^ shift * 2 ^ k
top_of_word byte shift k whole =
    ap (λ n. byte * 2 ^ k % 2 ^ n) (sym whole) ∙ mod-pow-add (byte * 2 ^ k) shift k
    ∙ omega (arith, ap (λ n. n % 2 ^ shift * 2 ^ k) (shl-shr byte k), mul-mod_left byte (2 ^ k))

-- a word and the byte behind it
two_words : (n shift k : ℕ) → shift + k ≡ 64 → shift ≤ 8 → bit_or (n % 2 ^ 64 / 2 ^ shift) (n / 2 ^ 64 % 2 ^ 8 * 2 ^ k % 2 ^ 64) ≡ n / 2 ^ shift % 2 ^ 64
two_words n shift k whole few =
    let low = n % 2 ^ 64 / 2 ^ shift in
    let byte = n / 2 ^ 64 % 2 ^ 8 in
    let turned : k + shift ≡ 64 = omega arith in
    let eight : 8 - shift + shift ≡ 8 = omega arith in
    let small : n % 2 ^ 64 < 2 ^ (k + shift) = ap_below n k shift turned in
    let below : low < 2 ^ k = shr_below (n % 2 ^ 64) k shift small in
    let low-is : low ≡ n / 2 ^ shift % 2 ^ k = ap (λ m. n % 2 ^ m / 2 ^ shift) (sym turned) ∙ field_of n k shift in
    let high-is : byte % 2 ^ shift ≡ n / 2 ^ shift / 2 ^ k % 2 ^ shift =
    ap (λ m. n / 2 ^ 64 % 2 ^ m % 2 ^ shift) (sym eight) ∙ mod-mod-pow (n / 2 ^ 64) (8 - shift) shift
    ∙ ap (λ m. n / 2 ^ m % 2 ^ shift) (sym whole) ∙ ap (λ m. m % 2 ^ shift) (sym (shr-shr n shift k)) in
    ap (bit_or low) (top_of_word byte shift k whole)
    ∙ or_comm low (byte % 2 ^ shift * 2 ^ k) ∙ or_shifted (byte % 2 ^ shift) k low below
    ∙ ap (λ m. m * 2 ^ k + low) high-is ∙ ap (λ m. n / 2 ^ shift / 2 ^ k % 2 ^ shift * 2 ^ k + m) low-is
    ∙ sym (ap (λ m. n / 2 ^ shift % 2 ^ m) (sym whole) ∙ mod-pow-add (n / 2 ^ shift) shift k)
  where
    ap_below : (n k shift : ℕ) → k + shift ≡ 64 → n % 2 ^ 64 < 2 ^ (k + shift)
    ap_below n k shift turned = rw turned (mod_below n (2 ^ 64) (pow_pos 64))

-- the bits of a number that lies in one word
pub in_one_word : (bytes : List ℕ) (place bit width word : ℕ) → AreBytes bytes → bit % 8 + width ≤ 64 → word ≡ little_endian (drop (place + bit / 8) bytes) % 2 ^ 64
    → word / 2 ^ (bit % 8) % 2 ^ width ≡ bits_at bytes (8 * place + bit) width
in_one_word bytes place bit width word fits inside is =
    let start = place + bit / 8 in
    let whole : 8 * start + bit % 8 ≡ 8 * place + bit = omega arith in
    ap (λ n. n / 2 ^ (bit % 8) % 2 ^ width) (is ∙ ap (λ n. n % 2 ^ 64) (little_endian-drop start bytes fits))
    ∙ bits_of_word (little_endian bytes) (8 * start) (bit % 8) width inside ∙ ap (λ n. bits_at bytes n width) whole

-- the bits of a number that reaches into the byte behind a word
pub in_two_words : (bytes : List ℕ) (place bit width word byte k : ℕ) → AreBytes bytes → width ≤ 64 → word ≡ little_endian (drop (place + bit / 8) bytes) % 2 ^ 64
    → byte ≡ get_or bytes (place + bit / 8 + 8) 0 → bit % 8 + k ≡ 64 → bit_or (word / 2 ^ (bit % 8)) (byte * 2 ^ k % 2 ^ 64) % 2 ^ width ≡ bits_at bytes (8 * place + bit) width
in_two_words bytes place bit width word byte k fits narrow is is-byte turned =
    let start = place + bit / 8 in
    let shift = bit % 8 in
    let n = little_endian bytes / 2 ^ (8 * start) in
    let whole : 8 * start + shift ≡ 8 * place + bit = omega arith in
    let word-is : word ≡ n % 2 ^ 64 = is ∙ ap (λ m. m % 2 ^ 64) (little_endian-drop start bytes fits) in
    let behind : 8 * (start + 8) ≡ 8 * start + 64 = omega arith in
    let byte-is : byte ≡ n / 2 ^ 64 % 2 ^ 8 =
    is-byte ∙ byte_is bytes (start + 8) fits ∙ ap (λ m. little_endian bytes / 2 ^ m % 2 ^ 8) behind ∙ ap (λ m. m % 2 ^ 8) (sym (shr-shr (little_endian bytes) (8 * start) 64)) in
    let few : shift ≤ 8 = omega arith in
    let wide : 64 - width + width ≡ 64 = omega arith in
    ap (λ w. bit_or (w / 2 ^ shift) (byte * 2 ^ k % 2 ^ 64) % 2 ^ width) word-is
    ∙ ap (λ b. bit_or (n % 2 ^ 64 / 2 ^ shift) (b * 2 ^ k % 2 ^ 64) % 2 ^ width) byte-is
    ∙ ap (λ m. m % 2 ^ width) (two_words n shift k turned few)
    ∙ ap (λ m. n / 2 ^ shift % 2 ^ m % 2 ^ width) (sym wide) ∙ mod-mod-pow (n / 2 ^ shift) (64 - width) width
    ∙ ap (λ m. m % 2 ^ width) (shr-shr (little_endian bytes) (8 * start) shift) ∙ ap (λ m. bits_at bytes m width) whole
