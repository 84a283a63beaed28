-- Bits appended to bytes.
use Rattle.std.proofs.Common.{◌≡◌, ℕ, zero, suc, ◌+◌, ◌-◌, ◌*◌, ◌/◌, ◌%◌, ◌^◌, ◌<◌, ◌≤◌, List, [], ◌∷◌, ◌++◌, length, take, drop, get_or, set, replicate, min, refl, sym, subst, ap, ◌∙◌, arith}
use Rattle.std.specs.Prelude.{bit_and, bit_or, Bool, true, false, if◌then◌else◌}
use Rattle.std.proofs.Math.Pow.{mod-mod-pow}
use Rattle.std.proofs.lemmas.Nat.{shr-shr, pow-add, pow_pos, mod_low, shr_high, mod-pow-add, and_mask, or_shifted, or_comm, shl_below, shr_below, le-div}
use native.Mathlib.Nat.{mul-add}
use Rattle.std.proofs.Math.Nat.{mul_assoc, mul_comm}
use Rattle.std.proofs.lemmas.List.{take_all, length-drop, length-take, take-append-le, get_or-take, length-append, length-replicate, get_or-append_right, get_or-replicate}
use Rattle.parquet_base.specs.Bytes.{little_endian}
use Rattle.columns_core.specs.Bits.{low_bits, IsPacked}
use Rattle.columns_core.proofs.BitLemmas.{appended, below_appended}
use Rattle.parquet_base.proofs.BytesLemmas.{AreBytes, little_endian-append, little_endian-set, little_endian-drop, little_endian-take, little_endian-split, little_endian-step, little_endian-ones, little_endian-zeros}

-- ---- one byte more

little_endian-one : (byte : ℕ) → little_endian (byte ∷ []) ≡ byte
unfolding little_endian
little_endian-one byte = omega arith

pub little_endian-push : (bytes : List ℕ) (byte : ℕ) → little_endian (bytes ++ byte ∷ []) ≡ little_endian bytes + 2 ^ (8 * length bytes) * byte
little_endian-push bytes byte = little_endian-append bytes (byte ∷ []) ∙ ap (λ m. little_endian bytes + 2 ^ (8 * length bytes) * m) (little_endian-one byte)

-- a number shifted twice
shifted_twice : (a b n : ℕ) → 2 ^ (a + b) * n ≡ 2 ^ a * (n * 2 ^ b)
shifted_twice a b n = ap (λ m. m * n) (pow-add 2 a b) ∙ mul_assoc (2 ^ a) (2 ^ b) n ∙ ap (λ m. 2 ^ a * m) (mul_comm (2 ^ b) n)

-- bits set above those that a byte has
pub set_above : (bytes : List ℕ) (at shift bits old : ℕ) → at < length bytes → old ≡ get_or bytes at 0 → old < 2 ^ shift → bits * 2 ^ shift < 256
    → little_endian (set bytes at (bit_or old (bits * 2 ^ shift % 256))) ≡ little_endian bytes + 2 ^ (8 * at + shift) * bits
set_above bytes at shift bits old h is free fits =
    let small : bits * 2 ^ shift % 256 ≡ bits * 2 ^ shift = omega arith in
    let joined : bit_or old (bits * 2 ^ shift % 256) ≡ bits * 2 ^ shift + old = ap (bit_or old) small ∙ or_comm old (bits * 2 ^ shift) ∙ or_shifted bits shift old free in
    let placed = little_endian-set bytes at (bits * 2 ^ shift + old) h in
    let there = ap (λ m. 2 ^ (8 * at) * m) is in
    let moved : little_endian (set bytes at (bits * 2 ^ shift + old)) ≡ little_endian bytes + 2 ^ (8 * at + shift) * bits =
    omega (arith, placed, there, mul-add (2 ^ (8 * at)) (bits * 2 ^ shift) old, shifted_twice (8 * at) shift bits) in
    ap (λ byte. little_endian (set bytes at byte)) joined ∙ moved

-- some bits of a number behind others, and more of them
pub more_bits : (n len number done more bits now grown : ℕ) → now ≡ n + 2 ^ (8 * len) * (number % 2 ^ done) → grown ≡ now + 2 ^ (8 * len + done) * bits → bits ≡ number / 2 ^ done % 2 ^ more
    → grown ≡ n + 2 ^ (8 * len) * (number % 2 ^ (done + more))
more_bits n len number done more bits now grown is next these =
    let turned : done + more ≡ more + done = omega arith in
    let split : number % 2 ^ (done + more) ≡ bits * 2 ^ done + number % 2 ^ done =
    ap (λ t. number % 2 ^ t) turned ∙ mod-pow-add number more done ∙ ap (λ m. m * 2 ^ done + number % 2 ^ done) (sym these) in
    let parts = ap (λ m. 2 ^ (8 * len) * m) split ∙ mul-add (2 ^ (8 * len)) (bits * 2 ^ done) (number % 2 ^ done) in
    omega (arith, is, next, parts, shifted_twice (8 * len) done bits)

-- the eight bits behind whole bytes
pub bits_behind : (bytes : List ℕ) (at place : ℕ) → AreBytes bytes → little_endian (drop at bytes) / 2 ^ place ≡ little_endian bytes / 2 ^ place / 2 ^ (8 * at)
bits_behind bytes at place fits =
    let turned : 8 * at + place ≡ place + 8 * at = omega arith in
    ap (λ m. m / 2 ^ place) (little_endian-drop at bytes fits) ∙ shr-shr (little_endian bytes) (8 * at) place ∙ ap (λ t. little_endian bytes / 2 ^ t) turned ∙ sym (shr-shr (little_endian bytes) place (8 * at))

-- the low bits of the byte at a place go behind the bits that were read before it
pub pushed_bits : (start out bytes : List ℕ) (at place more byte : ℕ) → AreBytes bytes → length out ≡ length start + at
    → little_endian out ≡ little_endian start + 2 ^ (8 * length start) * (little_endian bytes / 2 ^ place % 2 ^ (8 * at))
    → byte ≡ little_endian (take (length bytes - at) (drop at bytes)) / 2 ^ place % 2 ^ more
    → little_endian (out ++ byte ∷ []) ≡ little_endian start + 2 ^ (8 * length start) * (little_endian bytes / 2 ^ place % 2 ^ (8 * at + more))
pushed_bits start out bytes at place more byte fits long read is =
    let whole : take (length bytes - at) (drop at bytes) ≡ drop at bytes = take_all (length bytes - at) (drop at bytes) (omega (arith, length-drop at bytes)) in
    let these : byte ≡ little_endian bytes / 2 ^ place / 2 ^ (8 * at) % 2 ^ more =
    is ∙ ap (λ list. little_endian list / 2 ^ place % 2 ^ more) whole ∙ ap (λ n. n % 2 ^ more) (bits_behind bytes at place fits) in
    let far : 8 * length out ≡ 8 * length start + 8 * at = omega (arith, long) in
    let next = little_endian-push out byte ∙ ap (λ k. little_endian out + 2 ^ k * byte) far in
    more_bits (little_endian start) (length start) (little_endian bytes / 2 ^ place) (8 * at) more byte (little_endian out) (little_endian (out ++ byte ∷ [])) read next these

-- whole bytes at a byte's border
pub pushed_bytes : (start bytes : List ℕ) (count place : ℕ) → AreBytes bytes → place ≡ 0
    → little_endian (start ++ take count bytes) ≡ little_endian start + 2 ^ (8 * length start) * (little_endian bytes / 2 ^ place % 2 ^ (8 * count))
pushed_bytes start bytes count place fits is =
    let none : little_endian bytes / 2 ^ place ≡ little_endian bytes = ap (λ k. little_endian bytes / 2 ^ k) is ∙ omega arith in
    little_endian-append start (take count bytes)
    ∙ ap (λ n. little_endian start + 2 ^ (8 * length start) * n) (little_endian-take count bytes fits ∙ ap (λ n. n % 2 ^ (8 * count)) (sym none))

-- the low bits of eight
pub masked_bits : (n more byte ones : ℕ) → more < 8 → byte ≡ n % 256 → ones ≡ 2 ^ more - 1 → bit_and byte ones ≡ n % 2 ^ more
masked_bits n more byte ones few is mask =
    let k : 8 ≡ 8 - more + more = omega arith in
    ap (bit_and byte) mask ∙ and_mask byte more ∙ ap (λ m. m % 2 ^ more) is ∙ ap (λ t. n % 2 ^ t % 2 ^ more) k ∙ mod-mod-pow n (8 - more) more

take_short : (start out : List ℕ) → take (length start) out ≡ start → length start ≤ length out
take_short start out kept = omega (arith, ap length kept, length-take (length start) out)

-- what stood there first still does
pub kept_behind : (start out : List ℕ) (byte : ℕ) → take (length start) out ≡ start → take (length start) (out ++ byte ∷ []) ≡ start
kept_behind start out byte kept = let long : length start ≤ length out = take_short start out kept in take-append-le (length start) out (byte ∷ []) long ∙ kept

-- ---- the bits that fill up the last byte, and those behind it

-- bits behind the last byte stand at the place where the bits of the last byte end, or there are none
same_border : (count before len head left number : ℕ) → before ≡ (count + 7) / 8 → head ≡ min ((8 - count % 8) % 8) len → left ≡ len - head
    → 2 ^ (8 * before) * (number % 2 ^ left) ≡ 2 ^ (count + head) * (number % 2 ^ left)
same_border count before len head zero number is least rest = let none : number % 2 ^ 0 ≡ 0 = omega arith in rw none (omega arith)
same_border count before len head (suc left) number is least rest = let border : 8 * before ≡ count + head = omega (arith, is, least, rest) in ap (λ k. 2 ^ k * (number % 2 ^ suc left)) border

pub joined_bits : (n number count before len head bits now grown : ℕ) → before ≡ (count + 7) / 8 → head ≡ min ((8 - count % 8) % 8) len
    → now ≡ n + 2 ^ (8 * before) * (number / 2 ^ head % 2 ^ (len - head)) → grown ≡ now + 2 ^ count * bits → bits ≡ number % 2 ^ head → grown ≡ n + 2 ^ count * (number % 2 ^ len)
joined_bits n number count before len head bits now grown is least read set these =
    let high = number / 2 ^ head % 2 ^ (len - head) in
    let all : len ≡ len - head + head = omega (arith, least) in
    let split : number % 2 ^ len ≡ high * 2 ^ head + number % 2 ^ head = ap (λ k. number % 2 ^ k) all ∙ mod-pow-add number (len - head) head in
    let parts = ap (λ m. 2 ^ count * m) split ∙ mul-add (2 ^ count) (high * 2 ^ head) (number % 2 ^ head) in
    let low = ap (λ m. 2 ^ count * m) these in
    omega (arith, read, set, parts, low, shifted_twice count head high, same_border count before len head (len - head) (number / 2 ^ head) is least refl)

-- what is left of the number behind two parts of the bytes
pub number_behind : (bytes first rest : List ℕ) (offset start place head : ℕ)
    → ((n : ℕ) → little_endian first / 2 ^ (start + n) ≡ little_endian bytes / 2 ^ (offset + n))
    → ((n : ℕ) → little_endian rest / 2 ^ (place + n) ≡ little_endian first / 2 ^ (start + head + n))
    → little_endian rest / 2 ^ place ≡ little_endian bytes / 2 ^ offset / 2 ^ head
number_behind bytes first rest offset start place head one two =
    let a : place ≡ place + 0 = omega arith in
    let b : start + head + 0 ≡ start + head = omega arith in
    ap (λ k. little_endian rest / 2 ^ k) a ∙ two 0 ∙ ap (λ k. little_endian first / 2 ^ k) b ∙ one head ∙ sym (shr-shr (little_endian bytes) offset head)

pub packed_again : (old new : List ℕ) (count len number : ℕ) → IsPacked old count → length new ≡ (count + len + 7) / 8 → number < 2 ^ len
    → little_endian new ≡ little_endian old + 2 ^ count * number → IsPacked new (count + len)
packed_again old new count len number was long small is = record { needed = long; below = below_appended (little_endian old) number count len (little_endian new) is was.below small }

-- the bits of the last byte end where those of the list do
pub last_byte : (old now : List ℕ) (count at : ℕ) → IsPacked old count → take (length old) now ≡ old → at ≡ length old - 1 → 0 < count → 0 < count % 8 → get_or now at 0 < 2 ^ (count % 8)
last_byte old now count at was kept is some over =
    let there : at < length old = omega (arith, is, was.needed) in
    let same : get_or now at 0 ≡ get_or old at 0 = sym (get_or-take (length old) now at 0 there) ∙ ap (λ list. get_or list at 0) kept in
    let whole : count ≡ count % 8 + 8 * at = omega (arith, is, was.needed) in
    let small : little_endian old < 2 ^ (count % 8 + 8 * at) = subst (λ k. little_endian old < 2 ^ k) whole was.below in
    let behind : little_endian (drop at old) * 2 ^ (8 * at) ≤ little_endian old = omega (arith, little_endian-split at old, mul_comm (2 ^ (8 * at)) (little_endian (drop at old))) in
    let first = little_endian-step old at in
    omega (arith, same, first, le-div (little_endian (drop at old)) (little_endian old) (2 ^ (8 * at)) (pow_pos (8 * at)) behind, shr_below (little_endian old) (count % 8) (8 * at) small)

less_bits : (bits more head : ℕ) → bits < 2 ^ head → bits < 2 ^ (more + head)
less_bits bits zero head below = let k : 0 + head ≡ head = omega arith in rw k below
less_bits bits (suc more) head below =
    let k : suc more + head ≡ suc (more + head) = omega arith in
    let rest = less_bits bits more head below in
    rw k (omega (arith, rest))

pub shifted_fits : (bits head used : ℕ) → bits < 2 ^ head → head + used ≤ 8 → bits * 2 ^ used < 256
shifted_fits bits head used below few =
    let k : 8 - used - head + head ≡ 8 - used = omega arith in
    let room : bits < 2 ^ (8 - used) = subst (λ t. bits < 2 ^ t) k (less_bits bits (8 - used - head) head below) in
    let whole : 8 - used + used ≡ 8 = omega arith in
    subst (λ t. bits * 2 ^ used < 2 ^ t) whole (shl_below bits (8 - used) used room)

-- ---- bits that are 1

less_one : (q n : ℕ) → 0 < n → q * (n - 1) + q ≡ q * n
less_one q n some = let e : n ≡ n - 1 + 1 = omega arith in let parts = ap (λ m. q * m) e ∙ mul-add q (n - 1) 1 in omega (arith, parts)

-- bytes of ones behind others
pub ones_behind : (start out : List ℕ) (count places : ℕ) → out ≡ start ++ replicate places 255 → 8 * places ≡ count → little_endian out ≡ little_endian start + 2 ^ (8 * length start) * (2 ^ count - 1)
ones_behind start out count places is whole =
    let exact : little_endian (replicate places 255) ≡ 2 ^ count - 1 = omega (arith, little_endian-ones places, ap (λ k. 2 ^ k) whole) in
    ap little_endian is ∙ little_endian-append start (replicate places 255) ∙ ap (λ n. little_endian start + 2 ^ (8 * length start) * n) exact

-- of which the last has only its low bits
pub ones_cut : (start out : List ℕ) (count places last byte : ℕ) → out ≡ start ++ replicate places 255 → count ≡ 8 * (places - 1) + count % 8 → 0 < places → last ≡ length start + (places - 1) → byte ≡ 2 ^ (count % 8) - 1
    → little_endian (set out last byte) ≡ little_endian start + 2 ^ (8 * length start) * (2 ^ count - 1)
ones_cut start out count places last byte is split some there mask =
    let q = 2 ^ (8 * length start) in
    let j = 2 ^ (8 * (places - 1)) in
    let r = 2 ^ (count % 8) in
    let long : length out ≡ length start + places = ap length is ∙ length-append start (replicate places 255) ∙ ap (λ n. length start + n) (length-replicate places 255) in
    let inside : last < length out = omega (arith, there, long, some) in
    let back : length start + (places - 1) - length start ≡ places - 1 = omega arith in
    let was : get_or out last 0 ≡ 255 = ap (λ list. get_or list last 0) is ∙ ap (λ i. get_or (start ++ replicate places 255) i 0) there ∙ get_or-append_right start (replicate places 255) (length start) (length start + (places - 1)) 0 refl (omega arith) ∙ ap (λ i. get_or (replicate places 255) i 0) back ∙ get_or-replicate places (places - 1) 255 0 (omega arith) in
    let whole : 8 * places ≡ 8 * (places - 1) + 8 = omega arith in
    let all : little_endian out + q ≡ little_endian start + q * (j * 256) =
    omega (arith, ap little_endian is, little_endian-append start (replicate places 255), ap (λ n. q * n) (little_endian-ones places ∙ ap (λ k. 2 ^ k) whole ∙ pow-add 2 (8 * (places - 1)) 8), mul-add q (little_endian (replicate places 255)) 1) in
    let far : 2 ^ (8 * last) ≡ q * j = ap (λ k. 2 ^ k) (omega (arith, there)) ∙ pow-add 2 (8 * length start) (8 * (places - 1)) in
    let placed : little_endian (set out last byte) + q * j * 255 ≡ little_endian out + q * j * (r - 1) =
    omega (arith, little_endian-set out last byte inside, ap (λ n. n * get_or out last 0) far, ap (λ n. q * j * n) was, ap (λ n. n * byte) far, ap (λ n. q * j * n) mask) in
    let low = less_one (q * j) r (pow_pos (count % 8)) in
    let power : 2 ^ count ≡ j * r = ap (λ k. 2 ^ k) split ∙ pow-add 2 (8 * (places - 1)) (count % 8) in
    let high = less_one q (2 ^ count) (pow_pos count) in
    let product : q * 2 ^ count ≡ q * j * r = ap (λ n. q * n) power ∙ sym (mul_assoc q j r) in
    let product2 : q * (j * 256) ≡ q * j * 256 = sym (mul_assoc q j 256) in
    omega (arith, all, placed, low, high, product, product2)

-- ones above ones
split_ones : (a b : ℕ) → 2 ^ (a + b) - 1 ≡ (2 ^ a - 1) * 2 ^ b + (2 ^ b - 1)
split_ones a b =
    let turned = less_one (2 ^ b) (2 ^ a) (pow_pos a) in
    omega (arith, turned, pow-add 2 a b, pow_pos b, mul_comm (2 ^ b) (2 ^ a), mul_comm (2 ^ b) (2 ^ a - 1))

pub high_ones : (len head : ℕ) → head ≤ len → (2 ^ len - 1) / 2 ^ head % 2 ^ (len - head) ≡ 2 ^ (len - head) - 1
high_ones len head few =
    let all : len ≡ len - head + head = omega arith in
    let low : 2 ^ head - 1 < 2 ^ head = omega (arith, pow_pos head) in
    let small : 2 ^ (len - head) - 1 < 2 ^ (len - head) = omega (arith, pow_pos (len - head)) in
    let none : 2 ^ (len - head) - 1 ≡ 0 * 2 ^ (len - head) + (2 ^ (len - head) - 1) = omega arith in
    ap (λ n. n / 2 ^ head % 2 ^ (len - head)) (ap (λ k. 2 ^ k - 1) all ∙ split_ones (len - head) head)
    ∙ ap (λ n. n % 2 ^ (len - head)) (shr_high (2 ^ (len - head) - 1) head (2 ^ head - 1) low) ∙ ap (λ n. n % 2 ^ (len - head)) none ∙ mod_low 0 (len - head) (2 ^ (len - head) - 1) small

pub low_ones_of : (len head : ℕ) → head ≤ len → (2 ^ len - 1) % 2 ^ head ≡ 2 ^ head - 1
low_ones_of len head few =
    let all : len ≡ len - head + head = omega arith in
    let low : 2 ^ head - 1 < 2 ^ head = omega (arith, pow_pos head) in
    ap (λ n. n % 2 ^ head) (ap (λ k. 2 ^ k - 1) all ∙ split_ones (len - head) head) ∙ mod_low (2 ^ (len - head) - 1) head (2 ^ head - 1) low

-- ---- more bytes of one kind

pub resized : (old new : List ℕ) (n len byte : ℕ) → new ≡ take n old ++ replicate (n - len) byte → len ≡ length old → length old ≤ n → new ≡ old ++ replicate (n - length old) byte
resized old new n len byte is long more = is ∙ ap (λ list. list ++ replicate (n - len) byte) (take_all n old more) ∙ ap (λ k. old ++ replicate (n - k) byte) long

pub zeros_behind : (old new : List ℕ) (n : ℕ) → new ≡ old ++ replicate n 0 → little_endian new ≡ little_endian old
zeros_behind old new n is =
    let none = ap (λ m. 2 ^ (8 * length old) * m) (little_endian-zeros n) in
    ap little_endian is ∙ little_endian-append old (replicate n 0) ∙ omega (arith, none)

pub packed_more : (old new : List ℕ) (count len : ℕ) → IsPacked old count → length new ≡ (count + len + 7) / 8 → little_endian new ≡ little_endian old → IsPacked new (count + len)
packed_more old new count len was long same =
    packed_again old new count len 0 was long (pow_pos len) (omega (arith, same))

pub small_constant : (value : Bool) (len : ℕ) → (if value then 2 ^ len - 1 else 0) < 2 ^ len
small_constant true len = omega (arith, pow_pos len)
small_constant false len = pow_pos len

-- ---- what a list of bits is then

pub view_appended : (old new : List ℕ) (count len whole number : ℕ) → IsPacked old count → little_endian new ≡ little_endian old + 2 ^ count * number → whole ≡ count + len
    → low_bits (little_endian new) whole ≡ low_bits (little_endian old) count ++ low_bits number len
view_appended old new count len whole number was is long = ap (low_bits (little_endian new)) long ∙ appended (little_endian old) number count len (little_endian new) is was.below
