-- Values and pairs, computed.
use Rattle.std.specs.Prelude.{◌≡◌, ℕ, List, pos, negsuc, true, false, [], ◌∷◌, Option, Some, None, is_some, refl, option_map}
use Rattle.std.specs.Int.{int_wrap}
use denote.Hole.Carrier
use Rattle.parquet_base.specs.Bytes.{little_endian}
use Rattle.parquet_base.specs.Intervals.{interval}
use Rattle.parquet_base.specs.Varint.{varint, varint_within}
use Rattle.parquet_base.specs.declared.interval.Interval.{Interval}
use Rattle.parquet_encoding.specs.Bits.{packed}
use Rattle.parquet_encoding.specs.Hybrid.{hybrid, runs, first_run}
use Rattle.parquet_encoding.specs.Plain.{first_string, plain_fixed}
use Rattle.columns_core.specs.Causes.{OutOfSpec}
use Rattle.columns_core.specs.declared.cell.Cell.{Int, DaysMs, Null}
use Rattle.columns_core.specs.declared.data_type.DataType as type
use Rattle.columns_core.specs.declared.data_type.IntegerType.TheVariants as key
use Rattle.columns_core.specs.declared.data_type.TimeUnit.TheVariants.{Second, Nanosecond}
use Rattle.columns_core.specs.declared.data_type.IntervalUnit.TheVariants.{YearMonth, DayTime}
use Rattle.parquet_meta.specs.declared.metadata.PhysicalType.{PhysicalType}
use Rattle.parquet_meta.specs.declared.metadata.PhysicalType.TheVariants.{Int32, Int64, Int96, FixedLenByteArray}
use Rattle.parquet_meta.specs.declared.metadata.PrimitiveType.{PrimitiveType}
use Rattle.parquet_meta.specs.declared.metadata.PrimitiveLogicalType.{PrimitiveLogicalType}
use Rattle.parquet_meta.specs.declared.metadata.PrimitiveLogicalType.TheVariants.{Timestamp}
use Rattle.parquet_meta.specs.declared.metadata.ParquetTimeUnit.TheVariants.{Milliseconds, Nanoseconds}
use Rattle.parquet_meta.specs.declared.metadata.Repetition.TheVariants.{Required, Optional, Repeated}
use Rattle.parquet_meta.specs.declared.page_header.DataPageHeader.TheVariants.{V1}
use Rattle.parquet_page.specs.Content.{DataContent}
use Rattle.parquet_page.specs.Levels.{prefixed_parts, presence}
use Rattle.parquet_page.specs.Opened.{page_causes}
use Rattle.parquet_page.specs.Spelling.{page_keys, places_and_values, spelled}
use Rattle.parquet_page.specs.Stored.{Stored, Number, Words, Octets}
use Rattle.parquet_page.specs.Values.{dictionary_keys, plain_values}
use Rattle.page_decoding.specs.Outcome.{Given, Refused}
use Rattle.flat_values.specs.Conversion.{Item, Value, NotInRange, Keep, LowNanoseconds, convert}
use Rattle.flat_values.specs.Outcomes.{place_outcomes, selected_outcomes, value_outcomes}
use Rattle.flat_values.specs.Pairs.{entry_from_physical, conversion}
use Rattle.flat_values.specs.Units.{unit_factor}

abbrev required : PhysicalType → PrimitiveType
required physical = record { physical_type = physical; logical_type = None; repetition = Required }

abbrev timestamp_of : PrimitiveLogicalType → PrimitiveType
timestamp_of logical = record { physical_type = Int64; logical_type = Some logical; repetition = Required }

abbrev converted : PrimitiveType → type.DataType → Stored → Option Item
converted stored data_type value = option_map (λ c. convert c value) (conversion stored data_type)

minus_one_in_8_bits : converted (required Int32) type.UInt8 (Number (negsuc 0)) ≡ Some (Value (Int (pos 255)))
unfolding type.out-DataType denote.Hole.Carrier.out
minus_one_in_8_bits = refl

minus_129_as_8_bits : converted (required Int32) type.Int8 (Number (negsuc 128)) ≡ Some (Value (Int (pos 127)))
unfolding type.out-DataType denote.Hole.Carrier.out int_wrap
minus_129_as_8_bits = refl

one_day : converted (required Int32) type.Date64 (Number (pos 1)) ≡ Some (Value (Int (pos 86400000)))
unfolding type.out-DataType denote.Hole.Carrier.out
one_day = refl

minus_one_in_32_bits : converted (required Int64) type.UInt32 (Number (negsuc 0)) ≡ Some (Value (Int (pos 4294967295)))
unfolding type.out-DataType denote.Hole.Carrier.out
minus_one_in_32_bits = refl

two_seconds : converted (timestamp_of (Timestamp Nanoseconds true)) (type.Timestamp Second None) (Number (pos 2000000000)) ≡ Some (Value (Int (pos 2)))
unfolding type.out-DataType denote.Hole.Carrier.out
two_seconds = refl

too_long_ago_or_hence : converted (timestamp_of (Timestamp Milliseconds true)) (type.Timestamp Nanosecond None) (Number (pos 9223372036854775807)) ≡ Some NotInRange
unfolding type.out-DataType denote.Hole.Carrier.out
too_long_ago_or_hence = refl

without_a_unit : converted (required Int64) (type.Timestamp Nanosecond None) (Number (pos 7)) ≡ Some (Value (Int (pos 7)))
unfolding type.out-DataType denote.Hole.Carrier.out
without_a_unit = refl

milliseconds_to_seconds : unit_factor (Some (Timestamp Milliseconds true)) Second ≡ (1000, false)
milliseconds_to_seconds = refl

second_day : converted (required Int96) (type.Timestamp Second None) (Words 0 0 2440589) ≡ Some (Value (Int (pos 86400)))
unfolding type.out-DataType denote.Hole.Carrier.out
second_day = refl

-- 86399999999999 nanoseconds of the day before: one nanosecond before 1970
just_before : converted (required Int96) (type.Timestamp Second None) (Words 2437873663 20116 2440587) ≡ Some (Value (Int (pos 0)))
unfolding type.out-DataType denote.Hole.Carrier.out
just_before = refl

-- the same moment in the low bits, and one whose nanoseconds pass 64 bits
bits_just_before : convert LowNanoseconds (Words 2437873663 20116 2440587) ≡ Value (Int (pos 18446744073709551615))
bits_just_before = refl

bits_of_no_time : convert LowNanoseconds (Words 0 0 4294967295) ≡ NotInRange
bits_of_no_time = refl

two_byte_decimal : converted (required (FixedLenByteArray 2)) (type.Decimal 4 0) (Octets (0xFF ∷ 0x85 ∷ [])) ≡ Some (Value (Int (negsuc 122)))
unfolding type.out-DataType denote.Hole.Carrier.out little_endian
two_byte_decimal = refl

three_days : converted (required (FixedLenByteArray 12)) (type.Interval DayTime) (Octets (0 ∷ 0 ∷ 0 ∷ 0 ∷ 3 ∷ 0 ∷ 0 ∷ 0 ∷ 0xE8 ∷ 3 ∷ 0 ∷ 0 ∷ [])) ≡ Some (Value (DaysMs (pos 3) (pos 1000)))
unfolding type.out-DataType denote.Hole.Carrier.out little_endian
three_days = refl

-- ---- pairs

-- Months are entries where they are stored as numbers, and values where they are stored as bytes.
months_as_entries : entry_from_physical Int32 None (type.out-DataType (type.Interval YearMonth)) ≡ Some Keep
unfolding type.out-DataType denote.Hole.Carrier.out
months_as_entries = refl

months_as_values : is_some (conversion (required Int32) (type.Interval YearMonth)) ≡ false
unfolding type.out-DataType denote.Hole.Carrier.out
months_as_values = refl

no_bytes : is_some (conversion (required (FixedLenByteArray 0)) (type.FixedSizeBinary 0)) ≡ false
unfolding type.out-DataType denote.Hole.Carrier.out
no_bytes = refl

no_bytes_as_nulls : is_some (conversion (required (FixedLenByteArray 0)) type.Null) ≡ true
unfolding type.out-DataType denote.Hole.Carrier.out
no_bytes_as_nulls = refl

repeated_nulls : is_some (conversion (record { physical_type = Int32; logical_type = None; repetition = Repeated }) type.Null) ≡ false
unfolding type.out-DataType denote.Hole.Carrier.out
repeated_nulls = refl

dictionary_of_dictionaries : entry_from_physical Int32 None (type.out-DataType (type.Dictionary key.UInt8 type.Int32 false)) ≡ None
unfolding type.out-DataType denote.Hole.Carrier.out
dictionary_of_dictionaries = refl

-- ---- places of a page

-- a page of the first form of an optional INT32, of four values, with these rows selected
abbrev optional_page : ℕ → List ℕ → Option (List Interval) → DataContent
optional_page encoding body selected = record {
  header = V1 4 (pos encoding) (pos 3);
  body = body;
  type = record { physical_type = Int32; logical_type = None; repetition = Optional };
  selected = selected;
}

abbrev plain_body : List ℕ
plain_body = 2 ∷ 0 ∷ 0 ∷ 0 ∷ 0x03 ∷ 0x0D ∷ 7 ∷ 0 ∷ 0 ∷ 0 ∷ 8 ∷ 0 ∷ 0 ∷ 0 ∷ 9 ∷ 0 ∷ 0 ∷ 0 ∷ []

whole_page : selected_outcomes Keep None (optional_page 0 plain_body None) ≡ Given (Int (pos 7)) ∷ Given Null ∷ Given (Int (pos 8)) ∷ Given (Int (pos 9)) ∷ []
unfolding selected_outcomes place_outcomes value_outcomes page_causes spelled places_and_values prefixed_parts presence first_string plain_values plain_fixed hybrid runs first_run varint varint_within packed little_endian
whole_page = refl

second_and_third : selected_outcomes Keep None (optional_page 0 plain_body (Some (interval 1 2 ∷ []))) ≡ Given Null ∷ Given (Int (pos 8)) ∷ []
unfolding selected_outcomes place_outcomes value_outcomes page_causes spelled places_and_values prefixed_parts presence first_string plain_values plain_fixed hybrid runs first_run varint varint_within packed little_endian
second_and_third = refl

-- keys of two bits: 1, 0 and 1
abbrev key_body : List ℕ
key_body = 2 ∷ 0 ∷ 0 ∷ 0 ∷ 0x03 ∷ 0x0D ∷ 2 ∷ 3 ∷ 0x11 ∷ 0 ∷ []

named_entries : selected_outcomes Keep (Some (Int (pos 5) ∷ Int (pos 6) ∷ [])) (optional_page 8 key_body None) ≡ Given (Int (pos 6)) ∷ Given Null ∷ Given (Int (pos 5)) ∷ Given (Int (pos 6)) ∷ []
unfolding selected_outcomes place_outcomes value_outcomes page_causes page_keys places_and_values prefixed_parts presence first_string dictionary_keys hybrid runs first_run varint varint_within packed little_endian
named_entries = refl

-- where the dictionary has one entry alone, the key 1 is past it, whatever rows are selected
past_entries : selected_outcomes Keep (Some (Int (pos 5) ∷ [])) (optional_page 8 key_body (Some (interval 2 1 ∷ []))) ≡ Refused (OutOfSpec ∷ []) ∷ []
unfolding selected_outcomes place_outcomes value_outcomes page_causes page_keys places_and_values prefixed_parts presence first_string dictionary_keys hybrid runs first_run varint varint_within packed little_endian
past_entries = refl
