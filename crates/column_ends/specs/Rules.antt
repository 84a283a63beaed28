-- The rules of the code as conversions.
use Rattle.std.specs.Prelude.{◌≡◌, ℕ, nat_lt, nat_le, ◌==◌, ◌&&◌, Bool, true, Option}
use Rattle.std.specs.Int.{w8, w16}
use Rattle.columns_core.specs.declared.data_type.DataType.{DataType, out-DataType}
use Rattle.column_ends.specs.declared.rules.BytesRule.{BytesRule}
use Rattle.column_ends.specs.declared.rules.BytesRule.TheVariants as bytes
use Rattle.column_ends.specs.declared.rules.EndRule.{EndRule}
use Rattle.column_ends.specs.declared.rules.EndRule.TheVariants as ends
use Rattle.column_ends.specs.declared.rules.FixedRule.{FixedRule}
use Rattle.column_ends.specs.declared.rules.FixedRule.TheVariants as fixed
use Rattle.column_ends.specs.declared.rules.Int32Rule.{Int32Rule}
use Rattle.column_ends.specs.declared.rules.Int32Rule.TheVariants as int32
use Rattle.column_ends.specs.declared.rules.Int64Rule.{Int64Rule}
use Rattle.column_ends.specs.declared.rules.Int64Rule.TheVariants as int64
use Rattle.column_ends.specs.declared.rules.Int96Rule.{Int96Rule}
use Rattle.column_ends.specs.declared.rules.Int96Rule.TheVariants as int96
use Rattle.column_ends.specs.declared.rules.ValueRule.{ValueRule}
use Rattle.column_ends.specs.declared.rules.ValueRule.TheVariants as values
use Rattle.parquet_meta.specs.declared.metadata.PhysicalType.{PhysicalType}
use Rattle.parquet_meta.specs.declared.metadata.PhysicalType.TheVariants.{Boolean, Int32, Int64, Int96, ByteArray, FixedLenByteArray}
use Rattle.parquet_meta.specs.declared.metadata.PrimitiveType.{PrimitiveType}
use Rattle.flat_values.specs.Conversion.{Conversion, Nulls, Keep, LowUnsigned, LowSigned, Scale, LowNanoseconds, BigEndian, Months, DaysAndMilliseconds, AsText}
use Rattle.flat_values.specs.Pairs.{from_physical, page_from_physical, rescale, since_1970}
use Rattle.flat_values.specs.Units.{unit_factor}

-- a day in milliseconds
abbrev pub day : ℕ
day = 86400000

-- an interval and the longest decimal in bytes
abbrev pub interval_size : ℕ
interval_size = 12

abbrev pub most_decimal_size : ℕ
most_decimal_size = 16

abbrev pub int32_conversion : Int32Rule → Conversion
int32_conversion int32.Keep = Keep
int32_conversion int32.LowByte = LowUnsigned 8
int32_conversion int32.LowHalf = LowUnsigned 16
int32_conversion int32.LowWord = LowUnsigned 32
int32_conversion int32.LowByteSigned = LowSigned w8
int32_conversion int32.LowHalfSigned = LowSigned w16
int32_conversion int32.DaysToMillis = Scale day true

abbrev pub int64_conversion : Int64Rule → Conversion
int64_conversion int64.Keep = Keep
int64_conversion int64.LowWord = LowUnsigned 32
int64_conversion int64.Bits = LowUnsigned 64
int64_conversion (int64.Rescale logical unit) = rescale (unit_factor logical unit)

abbrev pub int96_conversion : Int96Rule → Conversion
int96_conversion (int96.InUnit unit) = since_1970 unit
int96_conversion int96.Bits = LowNanoseconds

abbrev pub bytes_conversion : BytesRule → Conversion
bytes_conversion bytes.Keep = Keep
bytes_conversion bytes.Text = AsText

abbrev pub fixed_conversion : FixedRule → Conversion
fixed_conversion fixed.Keep = Keep
fixed_conversion fixed.Decimal = BigEndian
fixed_conversion fixed.Months = Months
fixed_conversion fixed.DaysAndMillis = DaysAndMilliseconds

abbrev pub value_conversion : ValueRule → Conversion
value_conversion values.Truth = Keep
value_conversion (values.Int32 rule) = int32_conversion rule
value_conversion (values.Int64 rule) = int64_conversion rule
value_conversion (values.Int96 rule) = int96_conversion rule
value_conversion (values.Bytes rule) = bytes_conversion rule
value_conversion (values.Fixed size rule) = fixed_conversion rule

-- the conversion that a rule stands for
abbrev pub conversion_of : EndRule → Conversion
conversion_of ends.Nulls = Nulls
conversion_of (ends.Values rule) = value_conversion rule

-- by the outermost constructor of a type alone
abbrev pub own_rule : PrimitiveType → DataType → Option Conversion
own_rule stored data_type = from_physical stored.physical_type stored.logical_type (out-DataType data_type)

abbrev pub own_page_rule : PrimitiveType → DataType → Option Conversion
own_page_rule stored data_type = page_from_physical stored.physical_type stored.logical_type (out-DataType data_type)

-- ---- what is stored, for each rule

-- the type of the columns that a rule is for
abbrev pub physical_of : ValueRule → PhysicalType
physical_of values.Truth = Boolean
physical_of (values.Int32 rule) = Int32
physical_of (values.Int64 rule) = Int64
physical_of (values.Int96 rule) = Int96
physical_of (values.Bytes rule) = ByteArray
physical_of (values.Fixed size rule) = FixedLenByteArray size

-- which numbers of bytes a rule is for
abbrev pub takes_size : FixedRule → ℕ → Bool
takes_size fixed.Keep size = true
takes_size fixed.Decimal size = nat_lt 0 size && nat_le size most_decimal_size
takes_size fixed.Months size = size == interval_size
takes_size fixed.DaysAndMillis size = size == interval_size

abbrev pub fits_size : ValueRule → Bool
fits_size (values.Fixed size rule) = takes_size rule size
fits_size values.Truth = true
fits_size (values.Int32 rule) = true
fits_size (values.Int64 rule) = true
fits_size (values.Int96 rule) = true
fits_size (values.Bytes rule) = true

-- a rule for the columns of a type
abbrev pub IsValueRuleOf : PhysicalType → ValueRule → Type 0
IsValueRuleOf type rule = (physical_of rule ≡ type) × (fits_size rule ≡ true)

abbrev pub IsRuleOf : PhysicalType → EndRule → Type 0
IsRuleOf type ends.Nulls = Unit {0}
IsRuleOf type (ends.Values rule) = IsValueRuleOf type rule
