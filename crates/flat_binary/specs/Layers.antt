-- What is left of a column that one of some iterators reads: what is left by that one.
use Rattle.std.specs.Prelude.{ℕ, true, List, Option, None, Result}
use Rattle.std.specs.Int.{w8, w16}
use Rattle.std.specs.Iterator.{Count}
use Rattle.columns_core.specs.Array.{cells, data_type_of}
use Rattle.columns_core.specs.Causes.{Cause}
use Rattle.columns_core.specs.declared.array.Array.{Array}
use Rattle.columns_core.specs.declared.error.Error.{Error}
use Rattle.parquet_meta.specs.declared.metadata.PhysicalType.{PhysicalType}
use Rattle.parquet_meta.specs.declared.metadata.PhysicalType.TheVariants as stored
use Rattle.parquet_page.specs.Content.{Content}
use Rattle.flat_values.specs.declared.fixed.FixedValues.{FixedValues}
use Rattle.flat_values.specs.declared.fixed_bytes.Decimals.{Decimals}
use Rattle.flat_values.specs.declared.number_values.NumberValues.{NumberValues}
use Rattle.flat_values.specs.declared.time.Int96Time.{Int96Time}
use Rattle.flat_values.specs.Arrays.{ArraysLeft, flat_left}
use Rattle.flat_values.specs.ColumnLeft.{ColumnLeft, GivesArray, arrays_at_most}
use Rattle.flat_values.specs.Conversion.{Conversion, Keep, LowUnsigned, LowSigned, Scale, BigEndian, Months, DaysAndMilliseconds}
use Rattle.flat_values.specs.NullChunks.{nulls_left}
use Rattle.flat_values.specs.Pairs.{rescale, since_1970}
use Rattle.binary_values.specs.Iterated.{bytes_left}
use Rattle.dictionary_values.specs.DictLeft.{DictLeft, dict_left, keys_decoding}
use Rattle.dictionary_values.specs.Keys.{keys_of}
use Rattle.columns_core.specs.declared.data_type.IntegerType.{IntegerType}
use Rattle.columns_core.specs.declared.data_type.IntegerType.TheVariants as keyed
use Rattle.flat_binary.specs.EntryReaders.{Reader, entries_read, most_large_bytes, most_small_bytes}
use Rattle.flat_binary.specs.declared.array_iter.ArrayIter.{ArrayIter}
use Rattle.flat_binary.specs.declared.array_iter.ArrayIter.TheVariants as any
use Rattle.flat_binary.specs.declared.key_iter.KeysIter.{KeysIter}
use Rattle.flat_binary.specs.declared.key_iter.KeysIter.TheVariants as key
use Rattle.flat_binary.specs.declared.number_iter.Int32Iter.{Int32Iter}
use Rattle.flat_binary.specs.declared.number_iter.Int32Iter.TheVariants as int32
use Rattle.flat_binary.specs.declared.number_iter.Int64Iter.{Int64Iter}
use Rattle.flat_binary.specs.declared.number_iter.Int64Iter.TheVariants as int64
use Rattle.flat_binary.specs.declared.string_iter.BytesIter.{BytesIter}
use Rattle.flat_binary.specs.declared.string_iter.BytesIter.TheVariants as bytes
use Rattle.flat_binary.specs.declared.string_iter.FixedIter.{FixedIter}
use Rattle.flat_binary.specs.declared.string_iter.FixedIter.TheVariants as fixed

module _ {I : Type 0} (to_come : I → List Content) (causes : I → List Cause) (row_count lent_count : I → ℕ) where
  -- ---- values

  -- values of a stored type, by a rule
  abbrev values_by : {V : Type 0} → (V → Conversion) → (V → PhysicalType) → ArraysLeft I V → ColumnLeft
  values_by rule physical arrays = flat_left (λ _. None) rule physical to_come causes row_count lent_count arrays.data_type arrays.chunks

  abbrev numbers_by : {P T C : Type 0} → (C → Conversion) → PhysicalType → ArraysLeft I (NumberValues P T C) → ColumnLeft
  numbers_by rule physical = values_by (λ values. rule values.rule) (λ _. physical)

  abbrev pub int32_left : Int32Iter I → ColumnLeft
  int32_left (int32.Int32 arrays) = numbers_by (λ _. Keep) stored.Int32 arrays
  int32_left (int32.UInt8 arrays) = numbers_by (λ _. LowUnsigned 8) stored.Int32 arrays
  int32_left (int32.UInt16 arrays) = numbers_by (λ _. LowUnsigned 16) stored.Int32 arrays
  int32_left (int32.UInt32 arrays) = numbers_by (λ _. LowUnsigned 32) stored.Int32 arrays
  int32_left (int32.Int8 arrays) = numbers_by (λ _. LowSigned w8) stored.Int32 arrays
  int32_left (int32.Int16 arrays) = numbers_by (λ _. LowSigned w16) stored.Int32 arrays
  int32_left (int32.Millis arrays) = numbers_by (λ _. Scale 86400000 true) stored.Int32 arrays
  int32_left (int32.Decimal arrays) = numbers_by (λ _. Keep) stored.Int32 arrays

  abbrev pub int64_left : Int64Iter I → ColumnLeft
  int64_left (int64.Int64 arrays) = numbers_by (λ _. Keep) stored.Int64 arrays
  int64_left (int64.Timestamp arrays) = numbers_by rescale stored.Int64 arrays
  int64_left (int64.UInt32 arrays) = numbers_by (λ _. LowUnsigned 32) stored.Int64 arrays
  int64_left (int64.UInt64 arrays) = numbers_by (λ _. LowUnsigned 64) stored.Int64 arrays
  int64_left (int64.Decimal arrays) = numbers_by (λ _. Keep) stored.Int64 arrays

  abbrev pub fixed_left : FixedIter I → ColumnLeft
  fixed_left (fixed.Strings arrays) = values_by (λ _. Keep) (λ (values : FixedValues). stored.FixedLenByteArray values.size) arrays
  fixed_left (fixed.Decimals arrays) = values_by (λ _. BigEndian) (λ values. stored.FixedLenByteArray values.rule.size) arrays
  fixed_left (fixed.Months arrays) = values_by (λ _. Months) (λ _. stored.FixedLenByteArray 12) arrays
  fixed_left (fixed.DaysAndMillis arrays) = values_by (λ _. DaysAndMilliseconds) (λ _. stored.FixedLenByteArray 12) arrays

  abbrev pub strings_left_by : BytesIter I → ColumnLeft
  strings_left_by (bytes.Bytes arrays) = bytes_left most_small_bytes to_come causes row_count lent_count arrays
  strings_left_by (bytes.LargeBytes arrays) = bytes_left most_large_bytes to_come causes row_count lent_count arrays

  -- ---- keys

  -- keys of a type, over the entries that a reader reads
  abbrev keys_by : IntegerType → DictLeft I Reader → ColumnLeft
  keys_by type = dict_left (λ reader. keys_decoding (entries_read reader) (keys_of type)) to_come causes row_count lent_count

  abbrev pub keyed_column_left : KeysIter I → ColumnLeft
  keyed_column_left (key.Int8 arrays) = keys_by keyed.Int8 arrays
  keyed_column_left (key.Int16 arrays) = keys_by keyed.Int16 arrays
  keyed_column_left (key.Int32 arrays) = keys_by keyed.Int32 arrays
  keyed_column_left (key.Int64 arrays) = keys_by keyed.Int64 arrays
  keyed_column_left (key.UInt8 arrays) = keys_by keyed.UInt8 arrays
  keyed_column_left (key.UInt16 arrays) = keys_by keyed.UInt16 arrays
  keyed_column_left (key.UInt32 arrays) = keys_by keyed.UInt32 arrays
  keyed_column_left (key.UInt64 arrays) = keys_by keyed.UInt64 arrays

  -- ---- columns

  abbrev pub array_left : ArrayIter I → ColumnLeft
  array_left (any.Null nulls) = nulls_left nulls
  array_left (any.Boolean arrays) = values_by (λ _. Keep) (λ _. stored.Boolean) arrays
  array_left (any.Int32 arrays) = int32_left arrays
  array_left (any.Int64 arrays) = int64_left arrays
  array_left (any.Int96 arrays) = numbers_by (λ (time : Int96Time). since_1970 time.unit) stored.Int96 arrays
  array_left (any.Fixed arrays) = fixed_left arrays
  array_left (any.Bytes arrays) = strings_left_by arrays
  array_left (any.Keys arrays) = keyed_column_left arrays

  -- the next array, over steps of its own
  abbrev pub GivesNextArray : ArrayIter I → Option (Result Array Error) → ArrayIter I → Type 0
  GivesNextArray old result new = GivesArray data_type_of cells (array_left old) result (array_left new)

  -- no more arrays than these come
  abbrev pub arrays_to_come : ArrayIter I → Count
  arrays_to_come arrays = arrays_at_most (array_left arrays)
