-- Numbers are in order, and an end of 64 bits is read from its bytes.
use Rattle.std.proofs.Common.{◌≡◌, ℕ, ℤ, pos, negsuc, true, false, Some, refl, ap, ◌∙◌, arith}
use Rattle.std.specs.Prelude.{int_le, FitsSigned}
use Rattle.std.specs.Int.{w64, cast_signed, cast_unsigned}
use Rattle.std.proofs.lemmas.Bool.Decides.{nat_tests}
use Rattle.std.proofs.lemmas.Int.{to_z-of_z}
use Rattle.std.proofs.lemmas.Nat.{from_le_bytes-to_le_bytes_8}
use Rattle.std.proofs.Math.Facts.{Fits-of_z, Fits-lt-pow}
use Rattle.parquet_meta.specs.StoredEnds.{int64_end}
use Rattle.parquet_page.specs.Stored.{Stored, Number, Truth, Words, Octets}
use Rattle.parquet_plain.specs.Bodies.{number_octets}
use Rattle.parquet_plain.proofs.BodyLemmas.{eight-bytes}
use Rattle.parquet_plain.specs.Orders.{IsNumber, IsOrder, numbers_at_most}

int-same : (a : ℤ) → int_le a a ≡ true
int-same (pos a) = grind (arith, nat_tests)
int-same (negsuc a) = grind (arith, nat_tests)

int-total : (a b : ℤ) → int_le a b ≡ false → int_le b a ≡ true
int-total (pos a) (pos b) h = grind (arith, nat_tests)
int-total (pos a) (negsuc b) h = refl
int-total (negsuc a) (pos b) h = absurd cc
int-total (negsuc a) (negsuc b) h = grind (arith, nat_tests)

int-through : (a b c : ℤ) → int_le a b ≡ true → int_le b c ≡ true → int_le a c ≡ true
int-through (pos a) (pos b) (pos c) h k = grind (arith, nat_tests)
int-through (pos a) (pos b) (negsuc c) h k = absurd cc
int-through (pos a) (negsuc b) c h k = absurd cc
int-through (negsuc a) (pos b) (pos c) h k = refl
int-through (negsuc a) (pos b) (negsuc c) h k = absurd cc
int-through (negsuc a) (negsuc b) (pos c) h k = refl
int-through (negsuc a) (negsuc b) (negsuc c) h k = grind (arith, nat_tests)

same : (a : Stored) → IsNumber a → numbers_at_most a a ≡ true
same (Number a) pa = int-same a
same (Truth t) pa = absurd pa
same (Words x y z) pa = absurd pa
same (Octets bs) pa = absurd pa

total : (a b : Stored) → IsNumber a → IsNumber b → numbers_at_most a b ≡ false → numbers_at_most b a ≡ true
total (Number a) (Number b) pa pb h = int-total a b h
total (Number a) (Truth t) pa pb h = absurd pb
total (Number a) (Words x y z) pa pb h = absurd pb
total (Number a) (Octets bs) pa pb h = absurd pb
total (Truth t) b pa pb h = absurd pa
total (Words x y z) b pa pb h = absurd pa
total (Octets bs) b pa pb h = absurd pa

through : (a b c : Stored) → IsNumber a → IsNumber b → IsNumber c → numbers_at_most a b ≡ true → numbers_at_most b c ≡ true → numbers_at_most a c ≡ true
through (Number a) (Number b) (Number c) pa pb pc h k = int-through a b c h k
through (Number a) (Number b) (Truth t) pa pb pc h k = absurd pc
through (Number a) (Number b) (Words x y z) pa pb pc h k = absurd pc
through (Number a) (Number b) (Octets bs) pa pb pc h k = absurd pc
through (Number a) (Truth t) c pa pb pc h k = absurd pb
through (Number a) (Words x y z) c pa pb pc h k = absurd pb
through (Number a) (Octets bs) c pa pb pc h k = absurd pb
through (Truth t) b c pa pb pc h k = absurd pa
through (Words x y z) b c pa pb pc h k = absurd pa
through (Octets bs) b c pa pb pc h k = absurd pa

pub numbers_order : IsOrder IsNumber numbers_at_most
numbers_order = record { same = same; total = total; through = through }

pub int64_end-back : (n : ℤ) → FitsSigned w64 n → int64_end (number_octets 8 (cast_unsigned w64) (Number n)) ≡ Some n
int64_end-back n fits =
    rw (eight-bytes (cast_unsigned w64 n)) (ap (λ (p : ℕ). Some (cast_signed w64 p)) (from_le_bytes-to_le_bytes_8 (cast_unsigned w64 n) (Fits-lt-pow {w = w64} (Fits-of_z {w = w64} fits)))
    ∙ ap (λ (z : ℤ). Some z) (to_z-of_z w64 n fits))
