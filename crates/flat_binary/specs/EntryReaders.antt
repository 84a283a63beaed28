-- What stored values become as entries of a dictionary, what a reader of them gives, and what a call answers that makes one.
use Rattle.std.specs.Prelude.{◌≡◌, ◌<◌, ℕ, Bool, true, false, is_ok, ◌-◌, ◌^◌, List, None, Some, Ok, Result, IfErr, IfOk, IsTrue}
use Rattle.std.specs.Int.{w8, w16}
use Rattle.columns_core.specs.Array.{cells, data_type_of}
use Rattle.columns_core.specs.Causes.{Cause, ComesOf, IsWantOfMemory}
use Rattle.columns_core.specs.ElementType.{fixed_size, stores_i8, stores_i16, stores_i32, stores_i64, stores_u8, stores_u16, stores_u32, stores_u64}
use Rattle.columns_core.specs.declared.array.Array.{Array}
use Rattle.columns_core.specs.declared.cell.Cell.{Cell}
use Rattle.columns_core.specs.declared.data_type.DataType.{DataType}
use Rattle.columns_core.specs.declared.error.Error.{Error}
use Rattle.parquet_meta.specs.declared.metadata.PhysicalType.{PhysicalType}
use Rattle.parquet_meta.specs.declared.metadata.PhysicalType.TheVariants as stored
use Rattle.parquet_page.specs.Content.{DictContent}
use Rattle.page_decoding.specs.Outcome.{causes_in, refusal_of}
use Rattle.flat_values.specs.Conversion.{Conversion, Keep, LowUnsigned, LowSigned}
use Rattle.flat_values.specs.MostBytes.{most_bytes}
use Rattle.flat_values.specs.Outcomes.{fitted_by}
use Rattle.flat_values.specs.Pairs.{rescale}
use Rattle.binary_values.specs.ByteStrings.{byte_rule, stores_bytes}
use Rattle.dictionary_values.specs.EntryTypes.{EntriesBy}
use Rattle.flat_binary.specs.declared.entry_rule.EntryRule.{EntryRule}
use Rattle.flat_binary.specs.declared.entry_rule.EntryRule.TheVariants as read
use Rattle.flat_binary.specs.declared.entry_rule.Int32Entry.{Int32Entry}
use Rattle.flat_binary.specs.declared.entry_rule.Int32Entry.TheVariants as int32
use Rattle.flat_binary.specs.declared.entry_rule.Int64Entry.{Int64Entry}
use Rattle.flat_binary.specs.declared.entry_rule.Int64Entry.TheVariants as int64

-- the most bytes by places of 32 bits, and of 64
abbrev pub most_small_bytes : ℕ
most_small_bytes = 2 ^ 31 - 1

abbrev pub most_large_bytes : ℕ
most_large_bytes = 2 ^ 63 - 1

-- ---- what numbers become, and whether arrays of a type store it

abbrev pub int32_rule : Int32Entry → Conversion
int32_rule int32.Int32 = Keep
int32_rule int32.UInt8 = LowUnsigned 8
int32_rule int32.UInt16 = LowUnsigned 16
int32_rule int32.UInt32 = LowUnsigned 32
int32_rule int32.Int8 = LowSigned w8
int32_rule int32.Int16 = LowSigned w16

abbrev pub stores_int32 : Int32Entry → DataType → Bool
stores_int32 int32.Int32 = stores_i32
stores_int32 int32.UInt8 = stores_u8
stores_int32 int32.UInt16 = stores_u16
stores_int32 int32.UInt32 = stores_u32
stores_int32 int32.Int8 = stores_i8
stores_int32 int32.Int16 = stores_i16

abbrev pub int64_rule : Int64Entry → Conversion
int64_rule int64.Int64 = Keep
int64_rule (int64.Timestamp scale) = rescale scale
int64_rule int64.UInt64 = LowUnsigned 64

abbrev pub stores_int64 : Int64Entry → DataType → Bool
stores_int64 int64.Int64 = stores_i64
stores_int64 (int64.Timestamp scale) = stores_i64
stores_int64 int64.UInt64 = stores_u64

-- ---- readers of entries

-- Arrays of this type hold the entries.
abbrev pub HoldsEntry : EntryRule → DataType → Type 0
HoldsEntry (read.Int32 entry) type = IsTrue (stores_int32 entry type)
HoldsEntry (read.Int64 entry) type = IsTrue (stores_int64 entry type)
HoldsEntry (read.Fixed size) type = (0 < size) × (fixed_size type ≡ size)
HoldsEntry (read.Bytes is_text) type = IsTrue (stores_bytes is_text false type)
HoldsEntry (read.LargeBytes is_text) type = IsTrue (stores_bytes is_text true type)

-- the entries of a dictionary page, or what is wrong with it
abbrev pub entries_by : EntryRule → DictContent → Result (List Cell) (List Cause)
entries_by (read.Int32 entry) = fitted_by None (int32_rule entry) stored.Int32
entries_by (read.Int64 entry) = fitted_by None (int64_rule entry) stored.Int64
entries_by (read.Fixed size) = fitted_by None Keep (stored.FixedLenByteArray size)
entries_by (read.Bytes is_text) = fitted_by (Some most_small_bytes) (byte_rule is_text) stored.ByteArray
entries_by (read.LargeBytes is_text) = fitted_by (Some most_large_bytes) (byte_rule is_text) stored.ByteArray

-- what the stored values become, and the type of the entries
abbrev pub Reader : Type 0
Reader = EntriesBy EntryRule

abbrev pub reader_type : Reader → DataType
reader_type reader = reader.data_type

abbrev pub entries_read : Reader → DictContent → Result (List Cell) (List Cause)
entries_read reader = entries_by reader.values

-- It gives all entries in an array of the type, or one of the causes for which they are refused; or memory is wanting.
pub record GivesEntries (type : DataType) (found : Result (List Cell) (List Cause)) (result : Result Array Error) : Type 0 where
  pub typed : IfOk result (λ array. data_type_of array ≡ type)
  pub entries : IfOk result (λ array. found ≡ Ok (cells array))
  pub cause : ComesOf result (causes_in (refusal_of found))

-- It is the rule by which values of a stored type become entries of this type.
pub record FindsRule (physical : PhysicalType) (entry : DataType) (rule : Conversion) (result : Result EntryRule Error) : Type 0 where
  pub found : is_ok result ≡ true
  pub holds : IfOk result (λ own. HoldsEntry own entry)
  pub entries : IfOk result (λ own. entries_by own ≡ fitted_by (most_bytes entry) rule physical)

-- It reads entries of this type, which values of a stored type become by a rule; or memory is wanting.
pub record ReadsEntries (physical : PhysicalType) (entry : DataType) (rule : Conversion) (result : Result Reader Error) : Type 0 where
  pub typed : IfOk result (λ reader. reader_type reader ≡ entry)
  pub entries : IfOk result (λ reader. entries_read reader ≡ fitted_by (most_bytes entry) rule physical)
  pub memory : IfErr result IsWantOfMemory
