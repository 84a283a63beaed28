-- Which types are stored as which values.
use Rattle.std.specs.Prelude.{ℕ, Bool, true, false}
use Rattle.columns_core.specs.declared.cell.Cell.{Cell, DaysMs}
use Rattle.columns_core.specs.declared.data_type.days_ms.{days_ms}
use Rattle.columns_core.specs.declared.data_type.DataType.{DataType, Boolean, FixedSizeBinary, Int8, Int16, Int32, Int64, UInt8, UInt16, UInt32, UInt64, Date32, Date64, Time32, Time64, Duration, Timestamp, Interval, Decimal}
use Rattle.columns_core.specs.declared.data_type.IntervalUnit.TheVariants.{YearMonth, DayTime}

abbrev pub stores_i8 : DataType → Bool
stores_i8 Int8 = true
stores_i8 _ = false

abbrev pub stores_i16 : DataType → Bool
stores_i16 Int16 = true
stores_i16 _ = false

abbrev pub stores_i32 : DataType → Bool
stores_i32 Int32 = true
stores_i32 Date32 = true
stores_i32 (Time32 unit) = true
stores_i32 (Interval YearMonth) = true
stores_i32 _ = false

abbrev pub stores_i64 : DataType → Bool
stores_i64 Int64 = true
stores_i64 Date64 = true
stores_i64 (Time64 unit) = true
stores_i64 (Duration unit) = true
stores_i64 (Timestamp unit time_zone) = true
stores_i64 _ = false

abbrev pub stores_u8 : DataType → Bool
stores_u8 UInt8 = true
stores_u8 _ = false

abbrev pub stores_u16 : DataType → Bool
stores_u16 UInt16 = true
stores_u16 _ = false

abbrev pub stores_u32 : DataType → Bool
stores_u32 UInt32 = true
stores_u32 _ = false

abbrev pub stores_u64 : DataType → Bool
stores_u64 UInt64 = true
stores_u64 _ = false

abbrev pub stores_i128 : DataType → Bool
stores_i128 (Decimal precision scale) = true
stores_i128 _ = false

abbrev pub stores_days_ms : DataType → Bool
stores_days_ms (Interval DayTime) = true
stores_days_ms _ = false

abbrev pub days_ms_cell : days_ms → Cell
days_ms_cell interval = DaysMs interval.0 interval.1

abbrev pub is_boolean : DataType → Bool
is_boolean Boolean = true
is_boolean _ = false

-- how many bytes each value has; 0 where the type is none of bytes of a fixed size
abbrev pub fixed_size : DataType → ℕ
fixed_size (FixedSizeBinary size) = size
fixed_size _ = 0
