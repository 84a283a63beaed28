-- What a stored value becomes by each conversion.
use Rattle.std.specs.Prelude.{ℕ, ℤ, pos, ◌-◌, ◌*◌, ◌^◌, ◌*ℤ◌, neg_ℤ, int_div, nat_lt, Bool, true, false, if◌then◌else◌, List, length, take, drop, reverse, Option, Some, None}
use Rattle.std.specs.Int.{Width, w32, cast_signed, int_rem_euclid, int_wrap}
use Rattle.std.specs.Str.{is_utf8}
use Rattle.parquet_base.specs.Bytes.{little_endian}
use Rattle.columns_core.specs.declared.cell.Cell.{Cell, Null, Bool as Truth, Int, DaysMs, Text, Bytes}
use Rattle.parquet_page.specs.Stored.{Stored, Number, Truth as Bit, Words, Octets}
use Rattle.columns_core.specs.Types.{signed_range, is_in}
use Rattle.flat_values.specs.Units.{nanoseconds_of}

-- an item, or why there is none
pub data Item : Type 0 where
  Value : Cell → Item
  NotInRange : Item
  NotText : Item

pub data Conversion : Type 0 where
  -- null, whatever is stored
  Nulls : Conversion
  -- truth values, numbers and bytes as they are
  Keep : Conversion
  -- the low bits, as a number without a sign or with one
  LowUnsigned : ℕ → Conversion
  LowSigned : Width → Conversion
  -- times a factor or, where the flag is false, divided by it
  Scale : ℕ → Bool → Conversion
  -- the time since the first of January 1970, in a unit of so many nanoseconds
  SinceEpoch : ℕ → Conversion
  -- the low 64 bits of the nanoseconds since then, as a number without a sign
  LowNanoseconds : Conversion
  -- bytes as a number with a sign, the first byte highest
  BigEndian : Conversion
  -- an interval's months; its days and milliseconds
  Months : Conversion
  DaysAndMilliseconds : Conversion
  -- bytes as a text
  AsText : Conversion

-- ---- numbers

-- the low bits of a number in two's complement
abbrev pub modulo_bits : ℕ → ℤ → ℤ
modulo_bits bits n = int_rem_euclid n (pos (2 ^ bits))

-- a pattern of bits as a number with a sign
abbrev pub with_sign : ℕ → ℕ → ℤ
with_sign bits pattern = if nat_lt pattern (2 ^ (bits - 1)) then pos pattern else neg_ℤ (pos (2 ^ bits - pattern))

-- Division rounds toward zero.
abbrev pub scaled : ℕ → Bool → ℤ → ℤ
scaled factor true n = n *ℤ pos factor
scaled factor false n = int_div n (pos factor)

-- a number of 64 bits, if it is one
abbrev pub int64 : ℤ → Item
int64 n = if is_in (signed_range 64) n then Value (Int n) else NotInRange

-- Also in a coarser unit the nanoseconds themselves have to be a number of 64 bits.
abbrev pub since_epoch : ℕ → ℤ → Item
since_epoch unit nanoseconds = if is_in (signed_range 64) nanoseconds then Value (Int (int_div nanoseconds (pos unit))) else NotInRange

-- Also of low bits the nanoseconds themselves have to be a number of 64 bits.
abbrev pub low_nanoseconds : ℤ → Item
low_nanoseconds nanoseconds = if is_in (signed_range 64) nanoseconds then Value (Int (modulo_bits 64 nanoseconds)) else NotInRange

-- ---- bytes

abbrev pub big_endian : List ℕ → ℤ
big_endian bytes = with_sign (8 * length bytes) (little_endian (reverse bytes))

-- the number of 32 bits in the first four bytes
abbrev pub int32_in : List ℕ → ℤ
int32_in bytes = cast_signed w32 (little_endian (take 4 bytes))

abbrev pub text : List ℕ → Item
text bytes = if is_utf8 bytes then Value (Text bytes) else NotText

-- ---- values

-- A conversion meets only the values that it is for.
abbrev pub convert : Conversion → Stored → Item
convert Nulls stored = Value Null
convert Keep (Bit b) = Value (Truth b)
convert Keep (Number n) = Value (Int n)
convert Keep (Octets bytes) = Value (Bytes bytes)
convert (LowUnsigned bits) (Number n) = Value (Int (modulo_bits bits n))
convert (LowSigned width) (Number n) = Value (Int (int_wrap width n))
convert (Scale factor multiply) (Number n) = int64 (scaled factor multiply n)
convert (SinceEpoch unit) (Words low high day) = since_epoch unit (nanoseconds_of low high day)
convert LowNanoseconds (Words low high day) = low_nanoseconds (nanoseconds_of low high day)
convert BigEndian (Octets bytes) = Value (Int (big_endian bytes))
convert Months (Octets bytes) = Value (Int (int32_in bytes))
convert DaysAndMilliseconds (Octets bytes) = Value (DaysMs (int32_in (drop 4 bytes)) (int32_in (drop 8 bytes)))
convert AsText (Octets bytes) = text bytes
convert _ _ = NotInRange

-- A place without a value is null.
abbrev pub convert_place : Conversion → Option Stored → Item
convert_place conversion None = Value Null
convert_place conversion (Some stored) = convert conversion stored
