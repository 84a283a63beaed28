-- The statistics of a chunk, typed by its physical type.
use Rattle.std.specs.Prelude.{◌≡◌, ℕ, ℤ, List, Bool, true, false, Option, Some, None, option_map, Result, Ok, Err}
use Rattle.columns_core.specs.declared.error.Error.{Error}
use Rattle.columns_core.specs.declared.error.Error.TheVariants as error
use Rattle.parquet_base.specs.Reading.{◌>>=◌}
use Rattle.parquet_meta.specs.Code.{not_negative}
use Rattle.parquet_meta.specs.StoredEnds.{boolean_end, int32_end, int64_end, int96_end, bytes_end, fixed_end}
use Rattle.parquet_meta.specs.declared.metadata.Ends.{Ends}
use Rattle.parquet_meta.specs.declared.metadata.PhysicalType.{PhysicalType}
use Rattle.parquet_meta.specs.declared.metadata.PhysicalType.TheVariants as types
use Rattle.parquet_meta.specs.declared.metadata.RawStatistics.{RawStatistics}
use Rattle.parquet_meta.specs.declared.metadata.RawStatistics.TheVariants as raw
use Rattle.parquet_meta.specs.declared.metadata.StatisticsBytes.{StatisticsBytes}

-- floating point numbers are not carried
abbrev pub is_carried : PhysicalType → Bool
is_carried types.Float = false
is_carried types.Double = false
is_carried types.Boolean = true
is_carried types.Int32 = true
is_carried types.Int64 = true
is_carried types.Int96 = true
is_carried types.ByteArray = true
is_carried (types.FixedLenByteArray size) = true

-- a count that is told is not negative
abbrev pub known_count : Option ℤ → Option (Option ℕ)
known_count None = Some None
known_count (Some n) = option_map Some (not_negative n)

-- the counts of nulls and of distinct values that are told
abbrev pub counts_in : StatisticsBytes → Option (Option ℕ × Option ℕ)
counts_in s = do
  nulls ← known_count s.null_count
  distinct ← known_count s.distinct_count
  Some (nulls, distinct)

-- an end that is told has the width of its type
abbrev pub known_end : {A : Type 0} → (List ℕ → Option A) → Option (List ℕ) → Option (Option A)
known_end end None = Some None
known_end {A = A} end (Some bytes) = option_map {T = A} {U = Option A} Some (end bytes)

unfoldable pub ends_by : {A : Type 0} → (List ℕ → Option A) → StatisticsBytes → Option (Ends A)
ends_by end s = do
  nulls ← known_count s.null_count
  distinct ← known_count s.distinct_count
  low ← known_end end s.min_value
  high ← known_end end s.max_value
  Some (record { null_count = nulls; distinct_count = distinct; min_value = low; max_value = high })

abbrev pub typed_statistics : PhysicalType → StatisticsBytes → Option RawStatistics
typed_statistics types.Boolean s = option_map raw.Boolean (ends_by boolean_end s)
typed_statistics types.Int32 s = option_map raw.Int32 (ends_by int32_end s)
typed_statistics types.Int64 s = option_map raw.Int64 (ends_by int64_end s)
typed_statistics types.Int96 s = option_map raw.Int96 (ends_by int96_end s)
typed_statistics types.Float s = None
typed_statistics types.Double s = None
typed_statistics types.ByteArray s = option_map raw.ByteArray (ends_by bytes_end s)
typed_statistics (types.FixedLenByteArray width) s = option_map (raw.FixedLenByteArray width) (ends_by (fixed_end width) s)

-- typed statistics, or that there are none
abbrev pub statistics_of : PhysicalType → Option StatisticsBytes → Option (Option RawStatistics)
statistics_of physical_type None = Some None
statistics_of physical_type (Some s) = option_map Some (typed_statistics physical_type s)

-- the counts of a chunk, none of which is told where there are no statistics
abbrev pub counts_of : Option StatisticsBytes → Option (Option ℕ × Option ℕ)
counts_of None = Some (None, None)
counts_of (Some s) = counts_in s

-- A call gives the counts, whatever type the ends have. It refuses exactly where a count is negative.
abbrev pub GivesCounts : Option StatisticsBytes → Result (Option ℕ × Option ℕ) Error → Type 0
GivesCounts stored (Ok counts) = counts_of stored ≡ Some counts
GivesCounts stored (Err (error.ExternalFormat part)) = counts_of stored ≡ None
GivesCounts stored (Err _) = ⊥

-- A call gives the typed statistics. It refuses where the type is not carried, whatever is stored, and where an end has another
-- width or a count is negative.
abbrev pub GivesStatistics : PhysicalType → Option StatisticsBytes → Result (Option RawStatistics) Error → Type 0
GivesStatistics physical_type stored (Ok x) = (is_carried physical_type ≡ true) × (statistics_of physical_type stored ≡ Some x)
GivesStatistics physical_type stored (Err (error.NotYetImplemented part)) = is_carried physical_type ≡ false
GivesStatistics physical_type stored (Err (error.ExternalFormat part)) = (is_carried physical_type ≡ true) × (statistics_of physical_type stored ≡ None)
GivesStatistics physical_type stored (Err error.OutOfMemory) = Unit {0}
GivesStatistics physical_type stored (Err _) = ⊥
