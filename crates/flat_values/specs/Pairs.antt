-- Which pairs of a stored type and a type that is asked for are carried, and by which conversion.
use Rattle.std.specs.Prelude.{ℕ, ◌/◌, nat_lt, nat_le, ◌==◌, ◌&&◌, Bool, true, false, if◌then◌else◌, Option, Some, None}
use Rattle.std.specs.Int.{w8, w16}
use Rattle.columns_core.specs.declared.data_type.DataType.{DataType, out-DataType, fold-DataType}
use Rattle.columns_core.specs.declared.data_type.DataType.TheOpen.{DataType-F, Field-F}
use Rattle.columns_core.specs.declared.data_type.IntervalUnit.TheVariants.{YearMonth, DayTime}
use Rattle.columns_core.specs.Types.{Layer}
use Rattle.columns_core.specs.declared.data_type.TimeUnit.{TimeUnit}
use Rattle.parquet_meta.specs.declared.metadata.PhysicalType.{PhysicalType}
use Rattle.parquet_meta.specs.declared.metadata.PhysicalType.TheVariants.{Boolean, Int32, Int64, Int96, Float, Double, ByteArray, FixedLenByteArray}
use Rattle.parquet_meta.specs.declared.metadata.PrimitiveLogicalType.{PrimitiveLogicalType}
use Rattle.parquet_meta.specs.declared.metadata.PrimitiveType.{PrimitiveType}
use Rattle.parquet_meta.specs.declared.metadata.Repetition.{Repetition}
use Rattle.parquet_meta.specs.declared.metadata.Repetition.TheVariants.{Repeated}
use Rattle.parquet_base.specs.Reading.{given}
use Rattle.flat_values.specs.Conversion.{Conversion, Nulls, Keep, LowUnsigned, LowSigned, Scale, SinceEpoch, LowNanoseconds, BigEndian, Months, DaysAndMilliseconds, AsText}
use Rattle.flat_values.specs.Units.{per_second, unit_factor}

-- ---- values

-- The tables look at the outermost constructor of a type alone.

abbrev pub from_boolean : {A B : Type 0} → DataType-F A B → Option Conversion
from_boolean DataType-F.Boolean = Some Keep
from_boolean _ = None

abbrev pub from_int32 : {A B : Type 0} → DataType-F A B → Option Conversion
from_int32 DataType-F.UInt8 = Some (LowUnsigned 8)
from_int32 DataType-F.UInt16 = Some (LowUnsigned 16)
from_int32 DataType-F.UInt32 = Some (LowUnsigned 32)
from_int32 DataType-F.Int8 = Some (LowSigned w8)
from_int32 DataType-F.Int16 = Some (LowSigned w16)
from_int32 DataType-F.Int32 = Some Keep
from_int32 DataType-F.Date32 = Some Keep
from_int32 (DataType-F.Time32 unit) = Some Keep
from_int32 (DataType-F.Decimal precision scale) = Some Keep
-- days as milliseconds
from_int32 DataType-F.Date64 = Some (Scale 86400000 true)
from_int32 _ = None

-- the time since 1970 in a unit, by how many nanoseconds this has
abbrev pub since_1970 : TimeUnit → Conversion
since_1970 unit = SinceEpoch (1000000000 / per_second unit)

-- from the unit of a column to that which is asked for
abbrev pub rescale : ℕ × Bool → Conversion
rescale factor = Scale factor.0 factor.1

abbrev pub from_int64 : {A B : Type 0} → Option PrimitiveLogicalType → DataType-F A B → Option Conversion
from_int64 logical DataType-F.UInt32 = Some (LowUnsigned 32)
from_int64 logical DataType-F.UInt64 = Some (LowUnsigned 64)
from_int64 logical DataType-F.Int64 = Some Keep
from_int64 logical DataType-F.Date64 = Some Keep
from_int64 logical (DataType-F.Time64 unit) = Some Keep
from_int64 logical (DataType-F.Duration unit) = Some Keep
from_int64 logical (DataType-F.Decimal precision scale) = Some Keep
from_int64 logical (DataType-F.Timestamp unit time_zone) = Some (rescale (unit_factor logical unit))
from_int64 logical _ = None

abbrev pub from_int96 : {A B : Type 0} → DataType-F A B → Option Conversion
from_int96 (DataType-F.Timestamp unit time_zone) = Some (since_1970 unit)
from_int96 _ = None

-- There are no items of 0 bytes. An interval is stored in 12 bytes, and a decimal in at most 16.
abbrev pub from_fixed : {A B : Type 0} → ℕ → DataType-F A B → Option Conversion
from_fixed size (DataType-F.FixedSizeBinary wanted) = given (nat_lt 0 size && size == wanted) Keep
from_fixed size (DataType-F.Decimal precision scale) = given (nat_lt 0 size && nat_le size 16) BigEndian
from_fixed size (DataType-F.Interval YearMonth) = given (size == 12) Months
from_fixed size (DataType-F.Interval DayTime) = given (size == 12) DaysAndMilliseconds
from_fixed size _ = None

abbrev pub from_byte_array : {A B : Type 0} → DataType-F A B → Option Conversion
from_byte_array DataType-F.Utf8 = Some AsText
from_byte_array DataType-F.LargeUtf8 = Some AsText
from_byte_array DataType-F.Binary = Some Keep
from_byte_array DataType-F.LargeBinary = Some Keep
from_byte_array _ = None

abbrev pub from_physical : {A B : Type 0} → PhysicalType → Option PrimitiveLogicalType → DataType-F A B → Option Conversion
from_physical Boolean logical layer = from_boolean layer
from_physical Int32 logical layer = from_int32 layer
from_physical Int64 logical layer = from_int64 logical layer
from_physical Int96 logical layer = from_int96 layer
from_physical Float logical layer = None
from_physical Double logical layer = None
from_physical ByteArray logical layer = from_byte_array layer
from_physical (FixedLenByteArray size) logical layer = from_fixed size layer

-- ---- the entries of dictionary columns

abbrev pub entry_from_int32 : Layer → Option Conversion
entry_from_int32 DataType-F.UInt8 = Some (LowUnsigned 8)
entry_from_int32 DataType-F.UInt16 = Some (LowUnsigned 16)
entry_from_int32 DataType-F.UInt32 = Some (LowUnsigned 32)
entry_from_int32 DataType-F.Int8 = Some (LowSigned w8)
entry_from_int32 DataType-F.Int16 = Some (LowSigned w16)
entry_from_int32 DataType-F.Int32 = Some Keep
entry_from_int32 DataType-F.Date32 = Some Keep
entry_from_int32 (DataType-F.Time32 unit) = Some Keep
entry_from_int32 (DataType-F.Interval YearMonth) = Some Keep
entry_from_int32 _ = None

abbrev pub entry_from_int64 : Option PrimitiveLogicalType → Layer → Option Conversion
entry_from_int64 logical DataType-F.UInt64 = Some (LowUnsigned 64)
entry_from_int64 logical DataType-F.Int64 = Some Keep
entry_from_int64 logical DataType-F.Date64 = Some Keep
entry_from_int64 logical (DataType-F.Time64 unit) = Some Keep
entry_from_int64 logical (DataType-F.Duration unit) = Some Keep
entry_from_int64 logical (DataType-F.Timestamp unit time_zone) = Some (rescale (unit_factor logical unit))
entry_from_int64 logical _ = None

abbrev pub entry_from_fixed : ℕ → Layer → Option Conversion
entry_from_fixed size (DataType-F.FixedSizeBinary wanted) = given (nat_lt 0 size && size == wanted) Keep
entry_from_fixed size _ = None

abbrev pub entry_from_physical : PhysicalType → Option PrimitiveLogicalType → Layer → Option Conversion
entry_from_physical Int32 logical layer = entry_from_int32 layer
entry_from_physical Int64 logical layer = entry_from_int64 logical layer
entry_from_physical ByteArray logical layer = from_byte_array layer
entry_from_physical (FixedLenByteArray size) logical layer = entry_from_fixed size layer
entry_from_physical _ logical layer = None

-- ---- columns

-- Any column may be read as nulls. A dictionary column has the conversion of its entries.
abbrev pub conversion_at : PhysicalType → Option PrimitiveLogicalType → Layer → Option Conversion
conversion_at physical logical DataType-F.Null = Some Nulls
conversion_at physical logical (DataType-F.Dictionary key value ordered) = entry_from_physical physical logical (out-DataType value)
conversion_at physical logical layer = from_physical physical logical layer

abbrev pub is_repeated : Repetition → Bool
is_repeated Repeated = true
is_repeated _ = false

-- the conversion of a column, whose pair is carried where there is one
abbrev pub conversion : PrimitiveType → DataType → Option Conversion
conversion stored data_type =
    if is_repeated stored.repetition then None else conversion_at stored.physical_type stored.logical_type (out-DataType data_type)

-- ---- the ends of statistics

-- Statistics of nulls are nulls. A dictionary type has the conversion of its values, which may be dictionaries themselves.
abbrev pub leaf_end_at : {B : Type 0} → PhysicalType → Option PrimitiveLogicalType → DataType-F (Option Conversion) B → Option Conversion
leaf_end_at physical logical DataType-F.Null = Some Nulls
leaf_end_at physical logical (DataType-F.Dictionary key value ordered) = value
leaf_end_at physical logical layer = from_physical physical logical layer

-- the conversion of the ends that statistics tell of a column, whatever its repetition is
unfoldable pub leaf_conversion : PhysicalType → Option PrimitiveLogicalType → DataType → Option Conversion
leaf_conversion physical logical =
    fold-DataType (Option Conversion) (Option Conversion) (leaf_end_at physical logical) (λ (field : Field-F (Option Conversion) (Option Conversion)). field.data_type)

-- ---- the ends of pages

-- in the unit of a timestamp, and in nanoseconds otherwise
abbrev pub page_from_int96 : {A B : Type 0} → DataType-F A B → Option Conversion
page_from_int96 DataType-F.UInt64 = Some LowNanoseconds
page_from_int96 DataType-F.Int64 = Some (SinceEpoch 1)
page_from_int96 DataType-F.Date64 = Some (SinceEpoch 1)
page_from_int96 (DataType-F.Time64 unit) = Some (SinceEpoch 1)
page_from_int96 (DataType-F.Duration unit) = Some (SinceEpoch 1)
page_from_int96 (DataType-F.Timestamp unit time_zone) = Some (since_1970 unit)
page_from_int96 _ = None

-- as values, but no intervals
abbrev pub page_from_fixed : {A B : Type 0} → ℕ → DataType-F A B → Option Conversion
page_from_fixed size (DataType-F.Interval unit) = None
page_from_fixed size layer = from_fixed size layer

abbrev pub page_from_physical : {A B : Type 0} → PhysicalType → Option PrimitiveLogicalType → DataType-F A B → Option Conversion
page_from_physical Boolean logical layer = from_boolean layer
page_from_physical Int32 logical layer = from_int32 layer
page_from_physical Int64 logical layer = from_int64 logical layer
page_from_physical Int96 logical layer = page_from_int96 layer
page_from_physical Float logical layer = None
page_from_physical Double logical layer = None
page_from_physical ByteArray logical layer = from_byte_array layer
page_from_physical (FixedLenByteArray size) logical layer = page_from_fixed size layer

-- A dictionary type has the conversion of its values here too, and nulls have none.
abbrev pub page_end_at : {B : Type 0} → PhysicalType → Option PrimitiveLogicalType → DataType-F (Option Conversion) B → Option Conversion
page_end_at physical logical (DataType-F.Dictionary key value ordered) = value
page_end_at physical logical layer = page_from_physical physical logical layer

-- the conversion of the ends that a page index tells of a column, whatever its repetition is
unfoldable pub page_conversion : PhysicalType → Option PrimitiveLogicalType → DataType → Option Conversion
page_conversion physical logical =
    fold-DataType (Option Conversion) (Option Conversion) (page_end_at physical logical) (λ (field : Field-F (Option Conversion) (Option Conversion)). field.data_type)
