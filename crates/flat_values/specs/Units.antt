-- Units of time, and the times of older files.
use Rattle.std.specs.Prelude.{ℕ, ℤ, pos, ◌+◌, ◌*◌, ◌/◌, ◌^◌, ◌+ℤ◌, ◌-ℤ◌, ◌*ℤ◌, nat_le, Bool, true, false, if◌then◌else◌, Option, Some, None}
use Rattle.std.specs.Int.{w64, cast_signed}
use Rattle.columns_core.specs.declared.data_type.TimeUnit.{TimeUnit}
use Rattle.columns_core.specs.declared.data_type.TimeUnit.TheVariants.{Second, Millisecond, Microsecond, Nanosecond}
use Rattle.parquet_meta.specs.declared.metadata.ParquetTimeUnit.{ParquetTimeUnit}
use Rattle.parquet_meta.specs.declared.metadata.ParquetTimeUnit.TheVariants.{Milliseconds, Microseconds, Nanoseconds}
use Rattle.parquet_meta.specs.declared.metadata.PrimitiveLogicalType.{PrimitiveLogicalType}
use Rattle.parquet_meta.specs.declared.metadata.PrimitiveLogicalType.TheVariants.{Timestamp}

-- how many of a unit are a second
abbrev pub per_second : TimeUnit → ℕ
per_second Second = 1
per_second Millisecond = 1000
per_second Microsecond = 1000000
per_second Nanosecond = 1000000000

abbrev pub stored_per_second : ParquetTimeUnit → ℕ
stored_per_second Milliseconds = 1000
stored_per_second Microseconds = 1000000
stored_per_second Nanoseconds = 1000000000

-- the factor between two units, and whether it multiplies
abbrev pub factor_between : ℕ → ℕ → ℕ × Bool
factor_between from to = if nat_le from to then (to / from, true) else (from / to, false)

-- from the unit of a column to that which is asked for; a column without a unit is taken as it is
abbrev pub unit_factor : Option PrimitiveLogicalType → TimeUnit → ℕ × Bool
unit_factor None unit = (1, true)
unit_factor (Some (Timestamp stored is_adjusted)) unit = factor_between (stored_per_second stored) (per_second unit)

-- nanoseconds since 1970, from the nanoseconds of the day in two words and the Julian day; 1970 begins with day 2440588
abbrev pub nanoseconds_of : ℕ → ℕ → ℕ → ℤ
nanoseconds_of low high day = (pos day -ℤ pos 2440588) *ℤ pos 86400000000000 +ℤ cast_signed w64 (low + 2 ^ 32 * high)
