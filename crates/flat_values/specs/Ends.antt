-- The ends of statistics and of pages as stored values.
use Rattle.std.specs.Prelude.{ℕ, List, Option, None, option_map}
use Rattle.parquet_meta.specs.StoredEnds.{boolean_end, int32_end, int64_end, int96_end, bytes_end, fixed_end}
use Rattle.parquet_meta.specs.declared.metadata.PhysicalType.{PhysicalType}
use Rattle.parquet_meta.specs.declared.metadata.PhysicalType.TheVariants.{Boolean, Int32, Int64, Int96, Float, Double, ByteArray, FixedLenByteArray}
use Rattle.parquet_page.specs.Stored.{Stored, Number, Truth, Octets}
use Rattle.flat_values.specs.Numbers.{words_of}

-- An end is converted like a value of its column. Floating point numbers have none.
abbrev pub stored_end : PhysicalType → List ℕ → Option Stored
stored_end Boolean bytes = option_map Truth (boolean_end bytes)
stored_end Int32 bytes = option_map Number (int32_end bytes)
stored_end Int64 bytes = option_map Number (int64_end bytes)
stored_end Int96 bytes = option_map words_of (int96_end bytes)
stored_end Float bytes = None
stored_end Double bytes = None
stored_end ByteArray bytes = option_map Octets (bytes_end bytes)
stored_end (FixedLenByteArray size) bytes = option_map Octets (fixed_end size bytes)
