-- Plain values that are written are read again.
use Rattle.std.proofs.Common.{◌≡◌, ℕ, suc, ◌+◌, ◌*◌, ◌/◌, ◌^◌, ◌<◌, ◌≤◌, ℤ, Bool, true, false, List, [], ◌∷◌, ◌++◌, Some, refl, ap, ◌∙◌, arith, length, take, drop, map, append_assoc, length-append, eq-eqb}
use Rattle.std.specs.Prelude.{All}
use Rattle.std.specs.List.{flat_map}
use Rattle.std.specs.Int.{w32, w64, cast_signed, cast_unsigned}
use Rattle.std.specs.Simd.{first_chunks}
use Rattle.std.proofs.lemmas.Bool.{le-leb}
use Rattle.std.proofs.lemmas.List.{length-map}
use Rattle.std.proofs.lemmas.List.Elements.{All-head, All-tail, All-weaker}
use Rattle.std.proofs.lemmas.Int.{to_z-of_z}
use Rattle.std.proofs.Math.Facts.{Fits-of_z, Fits-lt-pow}
use Rattle.std.proofs.Math.Seq.{take-append_seam, drop-append_seam}
use Rattle.parquet_encoding.specs.Plain.{plain_fixed, plain_bytes, plain_bits, first_string, truth}
use Rattle.parquet_meta.specs.declared.metadata.PhysicalType.{PhysicalType}
use Rattle.parquet_meta.specs.declared.metadata.PhysicalType.TheVariants as types
use Rattle.parquet_page.specs.Stored.{Stored, Number, Truth, Words, Octets}
use Rattle.parquet_page.specs.Values.{plain_values, int32_of, int64_of}
use Rattle.parquet_plain.specs.Bodies.{number_bytes, bit, bits_bytes, number_octets, octets_of, truth_in, with_length, values_bytes}
use Rattle.parquet_plain.proofs.BodyLemmas.{length-number, number-back, length-bits, bits-back}
use Rattle.parquet_plain.specs.Fits.{IsOf, IsPlainType}

seam_take : (front rest : List ℕ) (n : ℕ) → length front ≡ n → take n (front ++ rest) ≡ front
seam_take front rest n e = rw (← e) (take-append_seam front rest)

seam_drop : (front rest : List ℕ) (n : ℕ) → length front ≡ n → drop n (front ++ rest) ≡ rest
seam_drop front rest n e = rw (← e) (drop-append_seam front rest)

-- ---- values of one size

length-fixed : (size : ℕ) (f : Stored → List ℕ) (values : List Stored) → All (λ v. length (f v) ≡ size) values → length (flat_map f values) ≡ length values * size
length-fixed size f [] all = omega arith
length-fixed size f (v ∷ vs) all =
    let own = All-head (λ v. length (f v) ≡ size) v vs all in
    let others = length-fixed size f vs (All-tail (λ v. length (f v) ≡ size) v vs all) in
    omega (arith, length-append (f v) (flat_map f vs), own, others)

chunks-fixed : (size : ℕ) (f : Stored → List ℕ) (values : List Stored) → All (λ v. length (f v) ≡ size) values → first_chunks size (length values) (flat_map f values) ≡ map f values
chunks-fixed size f [] all = refl
chunks-fixed size f (v ∷ vs) all = with-size size (All-head (λ v. length (f v) ≡ size) v vs all) (chunks-fixed size f vs (All-tail (λ v. length (f v) ≡ size) v vs all))
  where
    with-size : (n : ℕ) → length (f v) ≡ n → first_chunks n (length vs) (flat_map f vs) ≡ map f vs → first_chunks n (suc (length vs)) (f v ++ flat_map f vs) ≡ f v ∷ map f vs
    with-size n e others = rw (seam_take (f v) (flat_map f vs) n e, seam_drop (f v) (flat_map f vs) n e, others) refl

pub fixed-written : (size : ℕ) (f : Stored → List ℕ) (values : List Stored) → All (λ v. length (f v) ≡ size) values → plain_fixed size (flat_map f values) (length values) ≡ Some (map f values)
unfolding plain_fixed
fixed-written size f values all = rw (length-fixed size f values all, eq-eqb (length values * size) (length values * size) refl, chunks-fixed size f values all) refl

-- ---- byte strings

pub first_string-written : (bytes rest : List ℕ) → length bytes < 2 ^ 32 → first_string (with_length bytes ++ rest) ≡ Some (bytes, rest)
unfolding first_string
first_string-written bytes rest lt =
    let split : with_length bytes ++ rest ≡ number_bytes 4 (length bytes) ++ (bytes ++ rest) = append_assoc (number_bytes 4 (length bytes)) bytes rest in
    let four = length-number 4 (length bytes) in
    let some : 4 ≤ length (number_bytes 4 (length bytes) ++ (bytes ++ rest)) = omega (arith, length-append (number_bytes 4 (length bytes)) (bytes ++ rest), four) in
    let own : take 4 (number_bytes 4 (length bytes) ++ (bytes ++ rest)) ≡ number_bytes 4 (length bytes) = seam_take (number_bytes 4 (length bytes)) (bytes ++ rest) 4 four in
    let behind : drop 4 (number_bytes 4 (length bytes) ++ (bytes ++ rest)) ≡ bytes ++ rest = seam_drop (number_bytes 4 (length bytes)) (bytes ++ rest) 4 four in
    let whole : 4 + length bytes ≤ length (number_bytes 4 (length bytes) ++ (bytes ++ rest)) = omega (arith, length-append (number_bytes 4 (length bytes)) (bytes ++ rest), length-append bytes rest, four) in
    rw (
      split,
      le-leb 4 (length (number_bytes 4 (length bytes) ++ (bytes ++ rest))) some,
      own,
      number-back 4 (length bytes) lt,
      le-leb (4 + length bytes) (length (number_bytes 4 (length bytes) ++ (bytes ++ rest))) whole,
      behind,
      take-append_seam bytes rest,
      drop-append_seam bytes rest,
    ) refl

-- the front of written strings is not the end
strings-written : (values : List Stored) → All (λ v. length (octets_of v) < 2 ^ 32) values → plain_bytes (flat_map (λ v. with_length (octets_of v)) values) (length values) ≡ Some (map octets_of values)
unfolding plain_bytes
strings-written [] all = refl
strings-written (v ∷ vs) all =
    next (number_bytes 4 (length (octets_of v)) ++ octets_of v) (flat_map (λ v. with_length (octets_of v)) vs) (octets_of v) (length vs) (map octets_of vs)
    (first_string-written (octets_of v) (flat_map (λ v. with_length (octets_of v)) vs) (All-head (λ v. length (octets_of v) < 2 ^ 32) v vs all))
    (strings-written vs (All-tail (λ v. length (octets_of v) < 2 ^ 32) v vs all))
  where
    step : (bytes rest own : List ℕ) (count : ℕ) (others : List (List ℕ)) → first_string bytes ≡ Some (own, rest) → plain_bytes rest count ≡ Some others → plain_bytes bytes (suc count) ≡ Some (own ∷ others)
    step [] rest own count others one more = rw (one, more) refl
    step (byte ∷ bytes) rest own count others one more = rw (one, more) refl

    next : (front rest own : List ℕ) (count : ℕ) (others : List (List ℕ)) → first_string (front ++ rest) ≡ Some (own, rest) → plain_bytes rest count ≡ Some others → plain_bytes (front ++ rest) (suc count) ≡ Some (own ∷ others)
    next front rest own count others one more = step (front ++ rest) rest own count others one more

-- ---- stored values of a type

back-all : (P : Stored → Type 0) (to : Stored → List ℕ) (of : List ℕ → Stored) (values : List Stored) → ((v : Stored) → P v → of (to v) ≡ v) → All P values → map of (map to values) ≡ values
back-all P to of [] one all = refl
back-all P to of (v ∷ vs) one all = rw (one v (All-head P v vs all), back-all P to of vs one (All-tail P v vs all)) refl

int32-length : (v : Stored) → IsOf types.Int32 v → length (number_octets 4 (cast_unsigned w32) v) ≡ 4
int32-length (Number n) is = length-number 4 (cast_unsigned w32 n)
int32-length (Truth b) is = absurd is
int32-length (Words a b c) is = absurd is
int32-length (Octets bytes) is = absurd is

int32-back : (v : Stored) → IsOf types.Int32 v → int32_of (number_octets 4 (cast_unsigned w32) v) ≡ v
int32-back (Number n) is =
    ap (λ (p : ℕ). Number (cast_signed w32 p)) (number-back 4 (cast_unsigned w32 n) (Fits-lt-pow {w = w32} (Fits-of_z {w = w32} is))) ∙ ap (λ (z : ℤ). Number z) (to_z-of_z w32 n is)
int32-back (Truth b) is = absurd is
int32-back (Words a b c) is = absurd is
int32-back (Octets bytes) is = absurd is

int64-length : (v : Stored) → IsOf types.Int64 v → length (number_octets 8 (cast_unsigned w64) v) ≡ 8
int64-length (Number n) is = length-number 8 (cast_unsigned w64 n)
int64-length (Truth b) is = absurd is
int64-length (Words a b c) is = absurd is
int64-length (Octets bytes) is = absurd is

int64-back : (v : Stored) → IsOf types.Int64 v → int64_of (number_octets 8 (cast_unsigned w64) v) ≡ v
int64-back (Number n) is =
    ap (λ (p : ℕ). Number (cast_signed w64 p)) (number-back 8 (cast_unsigned w64 n) (Fits-lt-pow {w = w64} (Fits-of_z {w = w64} is))) ∙ ap (λ (z : ℤ). Number z) (to_z-of_z w64 n is)
int64-back (Truth b) is = absurd is
int64-back (Words a b c) is = absurd is
int64-back (Octets bytes) is = absurd is

string-back : (v : Stored) → IsOf types.ByteArray v → Octets (octets_of v) ≡ v
string-back (Octets bytes) is = refl
string-back (Number n) is = absurd is
string-back (Truth b) is = absurd is
string-back (Words a b c) is = absurd is

string-short : (v : Stored) → IsOf types.ByteArray v → length (octets_of v) < 2 ^ 32
string-short (Octets bytes) is = is
string-short (Number n) is = absurd is
string-short (Truth b) is = absurd is
string-short (Words a b c) is = absurd is

fixed-length : (width : ℕ) (v : Stored) → IsOf (types.FixedLenByteArray width) v → length (octets_of v) ≡ width
fixed-length width (Octets bytes) is = is
fixed-length width (Number n) is = absurd is
fixed-length width (Truth b) is = absurd is
fixed-length width (Words a b c) is = absurd is

fixed-back : (width : ℕ) (v : Stored) → IsOf (types.FixedLenByteArray width) v → Octets (octets_of v) ≡ v
fixed-back width (Octets bytes) is = refl
fixed-back width (Number n) is = absurd is
fixed-back width (Truth b) is = absurd is
fixed-back width (Words a b c) is = absurd is

truth-back : (v : Stored) → IsOf types.Boolean v → Truth (truth_in v) ≡ v
truth-back (Truth b) is = refl
truth-back (Number n) is = absurd is
truth-back (Octets bytes) is = absurd is
truth-back (Words a b c) is = absurd is

bits-as-truths : (bs : List Bool) → map truth (map bit bs) ≡ bs
bits-as-truths [] = refl
bits-as-truths (true ∷ bs) = ap (λ (xs : List Bool). true ∷ xs) (bits-as-truths bs)
bits-as-truths (false ∷ bs) = ap (λ (xs : List Bool). false ∷ xs) (bits-as-truths bs)

truths-back : (values : List Stored) → All (IsOf types.Boolean) values → map Truth (map truth_in values) ≡ values
truths-back [] all = refl
truths-back (v ∷ vs) all = rw (truth-back v (All-head (IsOf types.Boolean) v vs all), truths-back vs (All-tail (IsOf types.Boolean) v vs all)) refl

truths-read : (bs : List Bool) → plain_bits (bits_bytes bs) (length bs) ≡ Some bs
unfolding plain_bits
truths-read bs = rw (length-bits bs, le-leb ((length bs + 7) / 8) ((length bs + 7) / 8) (omega arith), bits-back bs, bits-as-truths bs) refl

pub values-written : (type : PhysicalType) (values : List Stored) → IsPlainType type → All (IsOf type) values → plain_values type (values_bytes type values) (length values) ≡ Some values
unfolding plain_values values_bytes
values-written types.Boolean values plain all =
    rw (← length-map values truth_in, truths-read (map truth_in values)) (ap (λ (vs : List Stored). Some vs) (truths-back values all))
values-written types.Int32 values plain all =
    rw (fixed-written 4 (number_octets 4 (cast_unsigned w32)) values (All-weaker (IsOf types.Int32) (λ v. length (number_octets 4 (cast_unsigned w32) v) ≡ 4) int32-length values all))
    (ap (λ (vs : List Stored). Some vs) (back-all (IsOf types.Int32) (number_octets 4 (cast_unsigned w32)) int32_of values int32-back all))
values-written types.Int64 values plain all =
    rw (fixed-written 8 (number_octets 8 (cast_unsigned w64)) values (All-weaker (IsOf types.Int64) (λ v. length (number_octets 8 (cast_unsigned w64) v) ≡ 8) int64-length values all))
    (ap (λ (vs : List Stored). Some vs) (back-all (IsOf types.Int64) (number_octets 8 (cast_unsigned w64)) int64_of values int64-back all))
values-written types.Int96 values plain all = absurd plain
values-written types.Float values plain all = absurd plain
values-written types.Double values plain all = absurd plain
values-written types.ByteArray values plain all =
    rw (strings-written values (All-weaker (IsOf types.ByteArray) (λ v. length (octets_of v) < 2 ^ 32) string-short values all))
    (ap (λ (vs : List Stored). Some vs) (back-all (IsOf types.ByteArray) octets_of Octets values string-back all))
values-written (types.FixedLenByteArray width) values plain all =
    rw (fixed-written width octets_of values (All-weaker (IsOf (types.FixedLenByteArray width)) (λ v. length (octets_of v) ≡ width) (fixed-length width) values all))
    (ap (λ (vs : List Stored). Some vs) (back-all (IsOf (types.FixedLenByteArray width)) octets_of Octets values (fixed-back width) all))
