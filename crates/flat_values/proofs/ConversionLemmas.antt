-- A converted item is a value of the type that is asked for.
use Rattle.std.proofs.Common.{◌≡◌, ℕ, zero, suc, ◌-◌, ◌*◌, ◌/◌, ◌%◌, ◌^◌, ◌<◌, ◌≤◌, ℤ, pos, negsuc, neg_ℤ, Bool, true, false, ◌&&◌, List, length, take, drop, reverse, refl, ◌∙◌, ap, subst, arith, le_trans, le_refl, mod-lt, T, ltb}
use Rattle.std.specs.Prelude.{int_div, Option, Some, None, IfSome, nat_lt, nat_le, ◌==◌, if◌then◌else◌}
use Rattle.std.specs.Option.{option_map_or}
use Rattle.std.specs.Str.{is_utf8}
use Rattle.std.specs.Int.{w8, w16, w64, int_wrap}
use Rattle.std.specs.Int.Signed.{mag}
use Rattle.std.proofs.lemmas.Bool.{false≢true, and_parts, and_from, leb-true, le-leb, ltb-true, ltb-false, eqb-true, eq-eqb}
use Rattle.std.proofs.lemmas.Nat.{pow_pos}
use Rattle.std.proofs.Math.Pow.{pow_mono}
use Rattle.std.proofs.lemmas.Int.{quot_fits, SFits-int_wrap}
use Rattle.columns_core.specs.declared.cell.Cell.{Cell, Int, Text}
use Rattle.columns_core.specs.declared.data_type.DataType.{DataType, out-DataType}
use Rattle.columns_core.specs.declared.data_type.DataType.TheOpen.{DataType-F}
use Rattle.columns_core.specs.declared.data_type.TimeUnit.{TimeUnit}
use Rattle.columns_core.specs.declared.data_type.TimeUnit.TheVariants.{Second, Millisecond, Microsecond, Nanosecond}
use Rattle.columns_core.specs.declared.data_type.IntervalUnit.TheVariants.{YearMonth, DayTime}
use Rattle.columns_core.specs.Types.{Layer, signed_range, unsigned_range, is_text_at, value_type_at, is_in}
use Rattle.flat_values.specs.CellTypes.{cell_range_at, is_cell_at}
use Rattle.parquet_meta.specs.declared.metadata.PhysicalType.TheVariants as physical
use Rattle.parquet_page.specs.Stored.{Stored, Number, Truth as Bit, Words, Octets}
use Rattle.flat_values.specs.Conversion.{Item, Value, NotInRange, NotText, Conversion, Keep, LowUnsigned, LowSigned, Scale, SinceEpoch, BigEndian, Months, DaysAndMilliseconds, AsText, convert, scaled, modulo_bits, with_sign, big_endian, int32_in}
use Rattle.flat_values.specs.Units.{nanoseconds_of, per_second, unit_factor}
use Rattle.flat_values.specs.Pairs.{from_boolean, from_int32, from_int64, from_int96, from_fixed, from_byte_array, from_physical, entry_from_int32, entry_from_int64, entry_from_fixed, entry_from_physical, conversion_at, is_repeated}
use Rattle.parquet_meta.specs.declared.metadata.PrimitiveLogicalType.{PrimitiveLogicalType}
use Rattle.parquet_base.specs.Bytes.{little_endian}
use mir.Val.{sel}
use Rattle.std.proofs.lemmas.Option.{none-some}
use Rattle.flat_values.specs.Sound.{is_stored_as, ConvertsToType}
use Rattle.flat_values.proofs.NumberLemmas.{doubled}
use Rattle.parquet_base.specs.Reading.{given}
use Rattle.parquet_meta.specs.declared.metadata.PhysicalType.{PhysicalType}

-- ---- numbers in a range

-- from -(m + 1) to m
pub within_mag : (m : ℕ) (z : ℤ) → mag z ≤ m → is_in (negsuc m, pos m) z ≡ true
within_mag m (pos n) h = le-leb n m h
within_mag m (negsuc n) h = and_from _ _ (le-leb n m h) refl

mag_within : (m : ℕ) (z : ℤ) → is_in (negsuc m, pos m) z ≡ true → mag z ≤ m
mag_within m (pos n) e = leb-true n m e
mag_within m (negsuc n) e = leb-true n m (and_parts _ _ e).0

-- an item that is a number in the range, if it is any
abbrev pub Within : ℤ × ℤ → Item → Type 0
Within range (Value (Int n)) = is_in range n ≡ true
Within range (Value _) = ⊥
Within range NotInRange = Unit {0}
Within range NotText = Unit {0}

-- an item of a type, if it is any
abbrev pub IsItemAt : Layer → Item → Type 0
IsItemAt layer (Value cell) = is_cell_at layer cell ≡ true
IsItemAt layer NotInRange = Unit {0}
IsItemAt layer NotText = Unit {0}

wider : (m k : ℕ) → m ≤ k → (item : Item) → Within (negsuc m, pos m) item → Within (negsuc k, pos k) item
wider m k h (Value (Int n)) e = within_mag k n (le_trans (mag_within m n e) h)
wider m k h (Value _) e = elim e [ ]
wider m k h NotInRange e = tt
wider m k h NotText e = tt

-- a number's item is one of each type that has the range
pub to_item : (layer : Layer) (range : ℤ × ℤ) → cell_range_at layer ≡ Some range → (item : Item) → Within range item → IsItemAt layer item
to_item layer range e (Value (Int n)) h = ap (λ r. option_map_or (λ q. is_in q n) r false) e ∙ h
to_item layer range e (Value _) h = elim h [ ]
to_item layer range e NotInRange h = tt
to_item layer range e NotText h = tt

-- ---- what each conversion gives

keep32 : (value : Stored) → is_stored_as physical.Int32 value ≡ true → Within (signed_range 32) (convert Keep value)
keep32 (Number n) e = e
keep32 (Bit b) e = absurd (false≢true e)
keep32 (Words low high day) e = absurd (false≢true e)
keep32 (Octets bytes) e = absurd (false≢true e)

keep64 : (value : Stored) → is_stored_as physical.Int64 value ≡ true → Within (signed_range 64) (convert Keep value)
keep64 (Number n) e = e
keep64 (Bit b) e = absurd (false≢true e)
keep64 (Words low high day) e = absurd (false≢true e)
keep64 (Octets bytes) e = absurd (false≢true e)

pub low_bits_in : (bits : ℕ) (n : ℤ) → is_in (unsigned_range bits) (modulo_bits bits n) ≡ true
low_bits_in bits (pos n) = and_from _ _ (le-leb 0 (n % 2 ^ bits) (omega arith)) (le-leb (n % 2 ^ bits) (2 ^ bits - 1) (omega (arith, mod-lt n (pow_pos bits))))
low_bits_in bits (negsuc n) = and_from _ _ (le-leb 0 (2 ^ bits - 1 - n % 2 ^ bits) (omega arith)) (le-leb (2 ^ bits - 1 - n % 2 ^ bits) (2 ^ bits - 1) (omega (arith, pow_pos bits)))

low : (bits : ℕ) (value : Stored) → Within (unsigned_range bits) (convert (LowUnsigned bits) value)
low bits (Number n) = low_bits_in bits n
low bits (Bit b) = tt
low bits (Words a b c) = tt
low bits (Octets bytes) = tt

low8 : (value : Stored) → Within (signed_range 8) (convert (LowSigned w8) value)
low8 (Number n) = within_mag 127 (int_wrap w8 n) (omega (arith, (SFits-int_wrap w8 n).sfits))
low8 (Bit b) = tt
low8 (Words a b c) = tt
low8 (Octets bytes) = tt

low16 : (value : Stored) → Within (signed_range 16) (convert (LowSigned w16) value)
low16 (Number n) = within_mag 32767 (int_wrap w16 n) (omega (arith, (SFits-int_wrap w16 n).sfits))
low16 (Bit b) = tt
low16 (Words a b c) = tt
low16 (Octets bytes) = tt

-- a number is given where a test holds
tested : (b : Bool) (n : ℤ) → (b ≡ true → is_in (signed_range 64) n ≡ true) → Within (signed_range 64) (if b then Value (Int n) else NotInRange)
tested true n h = h refl
tested false n h = tt

scale : (factor : ℕ) (multiply : Bool) (value : Stored) → Within (signed_range 64) (convert (Scale factor multiply) value)
scale factor multiply (Number n) = tested (is_in (signed_range 64) (scaled factor multiply n)) _ (λ e. e)
scale factor multiply (Bit b) = tt
scale factor multiply (Words a b c) = tt
scale factor multiply (Octets bytes) = tt

divided : (unit : ℕ) → T (ltb 0 unit) → (z : ℤ) → is_in (signed_range 64) z ≡ true → is_in (signed_range 64) (int_div z (pos unit)) ≡ true
divided unit h z e = within_mag 9223372036854775807 (int_div z (pos unit)) (omega (arith, (quot_fits w64 z (pos unit) (record { sfits = omega (arith, mag_within 9223372036854775807 z e) }) (record { lt = h })).sfits))

pub since : (unit : ℕ) → T (ltb 0 unit) → (value : Stored) → Within (signed_range 64) (convert (SinceEpoch unit) value)
since unit h (Words a b c) = tested _ _ (divided unit h (nanoseconds_of a b c))
since unit h (Number n) = tt
since unit h (Bit b) = tt
since unit h (Octets bytes) = tt

mag-neg : (n : ℕ) → mag (neg_ℤ (pos n)) ≤ n - 1
mag-neg zero = le_refl 0
mag-neg (suc n) = omega arith

-- a pattern of `h + 1` bits
signed_pattern : (b : Bool) (h pattern : ℕ) → nat_lt pattern (2 ^ h) ≡ b → mag (if b then pos pattern else neg_ℤ (pos (2 ^ h * 2 - pattern))) ≤ 2 ^ h - 1
signed_pattern true h pattern e = omega (arith, ltb-true pattern (2 ^ h) e)
signed_pattern false h pattern e = le_trans (mag-neg (2 ^ h * 2 - pattern)) (omega (arith, ltb-false pattern (2 ^ h) e))

with_sign-mag : (bits pattern : ℕ) → 0 < bits → mag (with_sign bits pattern) ≤ 2 ^ (bits - 1) - 1
with_sign-mag bits pattern p =
    subst (λ (x : ℕ). mag (if nat_lt pattern (2 ^ (bits - 1)) then pos pattern else neg_ℤ (pos (x - pattern))) ≤ 2 ^ (bits - 1) - 1) (doubled bits p)
    (signed_pattern (nat_lt pattern (2 ^ (bits - 1))) (bits - 1) pattern refl)

-- ---- bytes

-- of 1 to 16 bytes
big_endian-mag : (n : ℕ) (bytes : List ℕ) → length bytes ≡ n → 0 < n → n ≤ 16 → mag (big_endian bytes) ≤ 2 ^ 127 - 1
big_endian-mag n bytes e p q =
    omega (arith, with_sign-mag (8 * length bytes) (little_endian (reverse bytes)) (omega (arith, e, p)), pow_mono {i = 8 * length bytes - 1} {j = 127} (omega (arith, e, q)))

-- whatever the bits are
pub half : (b : Bool) (n : ℕ) → nat_lt n 2147483648 ≡ b → mag (sel b (pos n) (negsuc (4294967296 - suc n))) ≤ 2147483647
half true n e = omega (arith, ltb-true n 2147483648 e)
half false n e = omega (arith, ltb-false n 2147483648 e)

int32_in-within : (bytes : List ℕ) → is_in (signed_range 32) (int32_in bytes) ≡ true
int32_in-within bytes = within_mag 2147483647 (int32_in bytes) (half (nat_lt (little_endian (take 4 bytes)) 2147483648) (little_endian (take 4 bytes)) refl)

months : (value : Stored) → Within (signed_range 32) (convert Months value)
months (Octets bytes) = int32_in-within bytes
months (Number n) = tt
months (Bit b) = tt
months (Words a b c) = tt

days : (value : Stored) → IsItemAt (DataType-F.Interval DayTime) (convert DaysAndMilliseconds value)
days (Octets bytes) = and_from _ _ (int32_in-within (drop 4 bytes)) (int32_in-within (drop 8 bytes))
days (Number n) = tt
days (Bit b) = tt
days (Words a b c) = tt

-- ---- tables

-- each rule that a pair has gives items of the type
abbrev pub Gives : Layer → Stored → Option Conversion → Type 0
Gives layer value rule = IfSome rule (λ r. IsItemAt layer (convert r value))

pub from_int32-gives : (layer : Layer) (value : Stored) → is_stored_as physical.Int32 value ≡ true → Gives layer value (from_int32 layer)
from_int32-gives DataType-F.UInt8 value e = to_item DataType-F.UInt8 (unsigned_range 8) refl _ (low 8 value)
from_int32-gives DataType-F.UInt16 value e = to_item DataType-F.UInt16 (unsigned_range 16) refl _ (low 16 value)
from_int32-gives DataType-F.UInt32 value e = to_item DataType-F.UInt32 (unsigned_range 32) refl _ (low 32 value)
from_int32-gives DataType-F.Int8 value e = to_item DataType-F.Int8 (signed_range 8) refl _ (low8 value)
from_int32-gives DataType-F.Int16 value e = to_item DataType-F.Int16 (signed_range 16) refl _ (low16 value)
from_int32-gives DataType-F.Int32 value e = to_item DataType-F.Int32 (signed_range 32) refl _ (keep32 value e)
from_int32-gives DataType-F.Date32 value e = to_item DataType-F.Date32 (signed_range 32) refl _ (keep32 value e)
from_int32-gives (DataType-F.Time32 unit) value e = to_item (DataType-F.Time32 unit) (signed_range 32) refl _ (keep32 value e)
from_int32-gives (DataType-F.Decimal p s) value e = to_item (DataType-F.Decimal p s) (signed_range 128) refl _ (wider 2147483647 (2 ^ 127 - 1) (leb-true 2147483647 (2 ^ 127 - 1) refl) _ (keep32 value e))
from_int32-gives DataType-F.Date64 value e = to_item DataType-F.Date64 (signed_range 64) refl _ (scale 86400000 true value)
from_int32-gives _ value e = tt

pub from_int64-gives : (logical : Option PrimitiveLogicalType) (layer : Layer) (value : Stored) → is_stored_as physical.Int64 value ≡ true → Gives layer value (from_int64 logical layer)
from_int64-gives logical DataType-F.UInt32 value e = to_item DataType-F.UInt32 (unsigned_range 32) refl _ (low 32 value)
from_int64-gives logical DataType-F.UInt64 value e = to_item DataType-F.UInt64 (unsigned_range 64) refl _ (low 64 value)
from_int64-gives logical DataType-F.Int64 value e = to_item DataType-F.Int64 (signed_range 64) refl _ (keep64 value e)
from_int64-gives logical DataType-F.Date64 value e = to_item DataType-F.Date64 (signed_range 64) refl _ (keep64 value e)
from_int64-gives logical (DataType-F.Time64 unit) value e = to_item (DataType-F.Time64 unit) (signed_range 64) refl _ (keep64 value e)
from_int64-gives logical (DataType-F.Duration unit) value e = to_item (DataType-F.Duration unit) (signed_range 64) refl _ (keep64 value e)
from_int64-gives logical (DataType-F.Decimal p s) value e = to_item (DataType-F.Decimal p s) (signed_range 128) refl _ (wider 9223372036854775807 (2 ^ 127 - 1) (leb-true 9223372036854775807 (2 ^ 127 - 1) refl) _ (keep64 value e))
from_int64-gives logical (DataType-F.Timestamp unit zone) value e = to_item (DataType-F.Timestamp unit zone) (signed_range 64) refl _ (scale (unit_factor logical unit).0 (unit_factor logical unit).1 value)
from_int64-gives logical _ value e = tt

pub has_unit : (unit : TimeUnit) → T (ltb 0 (1000000000 / per_second unit))
has_unit Second = tt
has_unit Millisecond = tt
has_unit Microsecond = tt
has_unit Nanosecond = tt

pub from_int96-gives : (layer : Layer) (value : Stored) → Gives layer value (from_int96 layer)
from_int96-gives (DataType-F.Timestamp unit zone) value = to_item (DataType-F.Timestamp unit zone) (signed_range 64) refl _ (since (1000000000 / per_second unit) (has_unit unit) value)
from_int96-gives _ value = tt

pub from_boolean-gives : (layer : Layer) (value : Stored) → is_stored_as physical.Boolean value ≡ true → Gives layer value (from_boolean layer)
from_boolean-gives DataType-F.Boolean (Bit b) e = refl
from_boolean-gives DataType-F.Boolean (Number n) e = absurd (false≢true e)
from_boolean-gives DataType-F.Boolean (Words a b c) e = absurd (false≢true e)
from_boolean-gives DataType-F.Boolean (Octets bytes) e = absurd (false≢true e)
from_boolean-gives _ value e = tt

-- an item that is a text in UTF-8
texts : (b : Bool) (layer : Layer) (bytes : List ℕ) → is_utf8 bytes ≡ b → is_text_at layer ≡ true → IsItemAt layer (if b then Value (Text bytes) else NotText)
texts true layer bytes e t = and_from _ _ t e
texts false layer bytes e t = tt

as_text : (layer : Layer) (value : Stored) → is_text_at layer ≡ true → IsItemAt layer (convert AsText value)
as_text layer (Octets bytes) t = texts (is_utf8 bytes) layer bytes refl t
as_text layer (Number n) t = tt
as_text layer (Bit b) t = tt
as_text layer (Words a b c) t = tt

pub from_byte_array-gives : (layer : Layer) (value : Stored) → is_stored_as physical.ByteArray value ≡ true → Gives layer value (from_byte_array layer)
from_byte_array-gives DataType-F.Utf8 value e = as_text DataType-F.Utf8 value refl
from_byte_array-gives DataType-F.LargeUtf8 value e = as_text DataType-F.LargeUtf8 value refl
from_byte_array-gives DataType-F.Binary (Octets bytes) e = refl
from_byte_array-gives DataType-F.LargeBinary (Octets bytes) e = refl
from_byte_array-gives DataType-F.Binary (Number n) e = absurd (false≢true e)
from_byte_array-gives DataType-F.Binary (Bit b) e = absurd (false≢true e)
from_byte_array-gives DataType-F.Binary (Words a b c) e = absurd (false≢true e)
from_byte_array-gives DataType-F.LargeBinary (Number n) e = absurd (false≢true e)
from_byte_array-gives DataType-F.LargeBinary (Bit b) e = absurd (false≢true e)
from_byte_array-gives DataType-F.LargeBinary (Words a b c) e = absurd (false≢true e)
from_byte_array-gives _ value e = tt

-- the rule of a test that holds
pub when : (b : Bool) (layer : Layer) (value : Stored) (rule : Conversion) → (b ≡ true → IsItemAt layer (convert rule value)) → Gives layer value (given b rule)
when true layer value rule h = h refl
when false layer value rule h = tt

same_size : (size wanted : ℕ) (value : Stored) → is_stored_as (physical.FixedLenByteArray size) value ≡ true → (size == wanted) ≡ true → IsItemAt (DataType-F.FixedSizeBinary wanted) (convert Keep value)
same_size size wanted (Octets bytes) e h = eq-eqb (length bytes) wanted (eqb-true (length bytes) size e ∙ eqb-true size wanted h)
same_size size wanted (Number n) e h = absurd (false≢true e)
same_size size wanted (Bit b) e h = absurd (false≢true e)
same_size size wanted (Words a b c) e h = absurd (false≢true e)

decimal : (size : ℕ) (value : Stored) → is_stored_as (physical.FixedLenByteArray size) value ≡ true → (nat_lt 0 size && nat_le size 16) ≡ true → Within (signed_range 128) (convert BigEndian value)
decimal size (Octets bytes) e h = within_mag (2 ^ 127 - 1) (big_endian bytes)
    (big_endian-mag size bytes (eqb-true (length bytes) size e) (ltb-true 0 size (and_parts _ _ h).0) (leb-true size 16 (and_parts _ _ h).1))
decimal size (Number n) e h = tt
decimal size (Bit b) e h = tt
decimal size (Words a b c) e h = tt

pub from_fixed-gives : (size : ℕ) (layer : Layer) (value : Stored) → is_stored_as (physical.FixedLenByteArray size) value ≡ true → Gives layer value (from_fixed size layer)
from_fixed-gives size (DataType-F.FixedSizeBinary wanted) value e =
    when (nat_lt 0 size && size == wanted) (DataType-F.FixedSizeBinary wanted) value Keep (λ h. same_size size wanted value e (and_parts _ _ h).1)
from_fixed-gives size (DataType-F.Decimal p s) value e =
    when (nat_lt 0 size && nat_le size 16) (DataType-F.Decimal p s) value BigEndian (λ h. to_item (DataType-F.Decimal p s) (signed_range 128) refl _ (decimal size value e h))
from_fixed-gives size (DataType-F.Interval YearMonth) value e =
    when (size == 12) (DataType-F.Interval YearMonth) value Months (λ h. to_item (DataType-F.Interval YearMonth) (signed_range 32) refl _ (months value))
from_fixed-gives size (DataType-F.Interval DayTime) value e = when (size == 12) (DataType-F.Interval DayTime) value DaysAndMilliseconds (λ h. days value)
from_fixed-gives size _ value e = tt

pub from_physical-gives : (type : PhysicalType) (logical : Option PrimitiveLogicalType) (layer : Layer) (value : Stored) → is_stored_as type value ≡ true → Gives layer value (from_physical type logical layer)
from_physical-gives physical.Boolean logical layer value e = from_boolean-gives layer value e
from_physical-gives physical.Int32 logical layer value e = from_int32-gives layer value e
from_physical-gives physical.Int64 logical layer value e = from_int64-gives logical layer value e
from_physical-gives physical.Int96 logical layer value e = from_int96-gives layer value
from_physical-gives physical.Float logical layer value e = tt
from_physical-gives physical.Double logical layer value e = tt
from_physical-gives physical.ByteArray logical layer value e = from_byte_array-gives layer value e
from_physical-gives (physical.FixedLenByteArray size) logical layer value e = from_fixed-gives size layer value e

-- ---- entries

entry_from_int32-gives : (layer : Layer) (value : Stored) → is_stored_as physical.Int32 value ≡ true → Gives layer value (entry_from_int32 layer)
entry_from_int32-gives DataType-F.UInt8 value e = from_int32-gives DataType-F.UInt8 value e
entry_from_int32-gives DataType-F.UInt16 value e = from_int32-gives DataType-F.UInt16 value e
entry_from_int32-gives DataType-F.UInt32 value e = from_int32-gives DataType-F.UInt32 value e
entry_from_int32-gives DataType-F.Int8 value e = from_int32-gives DataType-F.Int8 value e
entry_from_int32-gives DataType-F.Int16 value e = from_int32-gives DataType-F.Int16 value e
entry_from_int32-gives DataType-F.Int32 value e = from_int32-gives DataType-F.Int32 value e
entry_from_int32-gives DataType-F.Date32 value e = from_int32-gives DataType-F.Date32 value e
entry_from_int32-gives (DataType-F.Time32 unit) value e = from_int32-gives (DataType-F.Time32 unit) value e
entry_from_int32-gives (DataType-F.Interval YearMonth) value e = to_item (DataType-F.Interval YearMonth) (signed_range 32) refl _ (keep32 value e)
entry_from_int32-gives _ value e = tt

entry_from_int64-gives : (logical : Option PrimitiveLogicalType) (layer : Layer) (value : Stored) → is_stored_as physical.Int64 value ≡ true → Gives layer value (entry_from_int64 logical layer)
entry_from_int64-gives logical DataType-F.UInt64 value e = from_int64-gives logical DataType-F.UInt64 value e
entry_from_int64-gives logical DataType-F.Int64 value e = from_int64-gives logical DataType-F.Int64 value e
entry_from_int64-gives logical DataType-F.Date64 value e = from_int64-gives logical DataType-F.Date64 value e
entry_from_int64-gives logical (DataType-F.Time64 unit) value e = from_int64-gives logical (DataType-F.Time64 unit) value e
entry_from_int64-gives logical (DataType-F.Duration unit) value e = from_int64-gives logical (DataType-F.Duration unit) value e
entry_from_int64-gives logical (DataType-F.Timestamp unit zone) value e = from_int64-gives logical (DataType-F.Timestamp unit zone) value e
entry_from_int64-gives logical _ value e = tt

entry_from_fixed-gives : (size : ℕ) (layer : Layer) (value : Stored) → is_stored_as (physical.FixedLenByteArray size) value ≡ true → Gives layer value (entry_from_fixed size layer)
entry_from_fixed-gives size (DataType-F.FixedSizeBinary wanted) value e = from_fixed-gives size (DataType-F.FixedSizeBinary wanted) value e
entry_from_fixed-gives size _ value e = tt

entry_from_physical-gives : (type : PhysicalType) (logical : Option PrimitiveLogicalType) (layer : Layer) (value : Stored) → is_stored_as type value ≡ true → Gives layer value (entry_from_physical type logical layer)
entry_from_physical-gives physical.Int32 logical layer value e = entry_from_int32-gives layer value e
entry_from_physical-gives physical.Int64 logical layer value e = entry_from_int64-gives logical layer value e
entry_from_physical-gives physical.ByteArray logical layer value e = from_byte_array-gives layer value e
entry_from_physical-gives (physical.FixedLenByteArray size) logical layer value e = entry_from_fixed-gives size layer value e
entry_from_physical-gives _ logical layer value e = tt

-- ---- columns

-- the type of a dictionary column's entries, and of any other itself
abbrev value_layer : DataType → Layer → Layer
value_layer data_type layer = out-DataType (value_type_at data_type layer)

conversion_at-gives :
    (type : PhysicalType) (logical : Option PrimitiveLogicalType) (data_type : DataType) (layer : Layer) → layer ≡ out-DataType data_type → (value : Stored) → is_stored_as type value ≡ true →
    Gives (value_layer data_type layer) value (conversion_at type logical layer)
conversion_at-gives type logical data_type DataType-F.Null same value e = refl
conversion_at-gives type logical data_type (DataType-F.Dictionary key entry ordered) same value e = entry_from_physical-gives type logical (out-DataType entry) value e
conversion_at-gives type logical data_type layer same value e = subst (λ l. Gives l value (from_physical type logical layer)) same (from_physical-gives type logical layer value e)

-- of a rule that is given, from the test on the repetition
unrepeated : (b : Bool) (found : Option Conversion) (rule : Conversion) → (if b then None else found) ≡ Some rule → found ≡ Some rule
unrepeated true found rule e = absurd (none-some _ e)
unrepeated false found rule e = e

rule_gives : (layer : Layer) (value : Stored) (found : Option Conversion) (rule : Conversion) (cell : Cell) → Gives layer value found → found ≡ Some rule → convert rule value ≡ Value cell → is_cell_at layer cell ≡ true
rule_gives layer value found rule cell g e h = subst (IsItemAt layer) h (subst (Gives layer value) e g)

pub converts_to_type : ConvertsToType
converts_to_type stored data_type rule value cell e h v =
    rule_gives (value_layer data_type (out-DataType data_type)) value _ rule cell
    (conversion_at-gives stored.physical_type stored.logical_type data_type (out-DataType data_type) refl value h)
    (unrepeated (is_repeated stored.repetition) _ rule e) v
