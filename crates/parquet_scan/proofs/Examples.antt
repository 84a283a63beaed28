-- Worked examples of the definitions.
use Rattle.std.proofs.Common.{◌≡◌, ℕ, ◌<◌, pos, true, false, List, [], ◌∷◌, Some, None, refl, ap}
use Rattle.std.specs.Prelude.{codes}
use Rattle.std.specs.Str.{chars, is_utf8}
use Rattle.std.proofs.lemmas.Bool.{lt-ltb}
use denote.Hole.Carrier
use Rattle.columns_core.specs.Causes.{NotYetImplemented, OutOfSpec, Overflow}
use Rattle.columns_core.specs.declared.cell.Cell.{Int, Null, Text}
use Rattle.columns_core.specs.declared.data_type.DataType as type
use Rattle.columns_core.specs.declared.data_type.DataType.{DataType}
use Rattle.columns_core.specs.declared.data_type.DataType.TheOpen.{DataType-F}
use Rattle.columns_core.specs.declared.data_type.Field.{Field}
use Rattle.columns_core.specs.declared.data_type.IntegerType.TheVariants as integer
use Rattle.columns_core.specs.declared.data_type.TimeUnit.TheVariants.{Nanosecond}
use Rattle.parquet_base.specs.Bytes.{little_endian}
use Rattle.parquet_base.specs.Reading.{given}
use Rattle.parquet_base.specs.Varint.{varint, varint_within}
use Rattle.parquet_encoding.specs.Bits.{packed}
use Rattle.parquet_encoding.specs.Hybrid.{hybrid, runs, first_run}
use Rattle.parquet_encoding.specs.Plain.{first_string, plain_bytes, plain_fixed}
use Rattle.parquet_meta.specs.declared.metadata.ColumnChunkMetaData.{ColumnChunkMetaData}
use Rattle.parquet_meta.specs.declared.metadata.ParquetTimeUnit.TheVariants.{Milliseconds}
use Rattle.parquet_meta.specs.declared.metadata.PhysicalType.{PhysicalType}
use Rattle.parquet_meta.specs.declared.metadata.PhysicalType.TheVariants.{Boolean, ByteArray, Int32, Int64}
use Rattle.parquet_meta.specs.declared.metadata.PrimitiveLogicalType.TheVariants.{Timestamp}
use Rattle.parquet_meta.specs.declared.metadata.PrimitiveType.{PrimitiveType}
use Rattle.parquet_meta.specs.declared.metadata.Repetition.TheVariants.{Required}
use Rattle.parquet_meta.specs.declared.metadata.RowGroupMetaData.{RowGroupMetaData}
use Rattle.parquet_meta.specs.declared.page_header.DataPageHeader.TheVariants.{V1}
use Rattle.parquet_page.specs.Chunk.{ChunkPage, Defined, Dictionary, NoDictionary, PlacedPage, Undefined}
use Rattle.parquet_page.specs.Levels.{prefixed_parts, presence}
use Rattle.parquet_page.specs.Opened.{page_causes}
use Rattle.parquet_page.specs.Spelling.{page_keys, places_and_values, spelled}
use Rattle.parquet_page.specs.Values.{dictionary_keys, plain_values}
use Rattle.flat_values.specs.Conversion.{Value}
use Rattle.flat_values.specs.Items.{page_items}
use Rattle.flat_values.specs.Outcomes.{dictionary_cells}
use Rattle.parquet_scan.specs.declared.bound.Scalar.{Scalar}
use Rattle.parquet_scan.specs.declared.bound.Scalar.TheVariants as scalar
use Rattle.parquet_scan.specs.Bound.{meets, keeps}
use Rattle.parquet_scan.specs.Causes.{causes_of_data, causes_of_dictionary, pair_causes, row_causes}
use Rattle.parquet_scan.specs.Cells.{Reading, column_item, dictionary_before, item_among}
use Rattle.parquet_scan.specs.Request.{is_legal}
use Rattle.parquet_scan.specs.Rows.{first_rows}

-- ---- bounds and statistics

abbrev number : ℕ → Scalar
number n = scalar.Int (pos n)

above_high : keeps (Some (number 10)) (Some (number 20)) (Some 0) 5 (record { field = []; low = Some (number 21); high = Some (number 30) }) ≡ false
above_high = refl

between_ends : keeps (Some (number 10)) (Some (number 20)) (Some 0) 5 (record { field = []; low = Some (number 12); high = Some (number 18) }) ≡ true
between_ends = refl

all_null : keeps None None (Some 5) 5 (record { field = []; low = Some (number 0); high = None }) ≡ false
all_null = refl

nothing_known : keeps None None None 5 (record { field = []; low = Some (number 1); high = None }) ≡ true
nothing_known = refl

ends_cross : keeps None None None 5 (record { field = []; low = Some (number 9); high = Some (number 3) }) ≡ false
ends_cross = refl

narrowed : keeps (Some (number 255)) (Some (number 1)) None 3 (record { field = []; low = None; high = None }) ≡ false
narrowed = refl

null_meets_none : meets (record { field = []; low = None; high = None }) Null ≡ false
null_meets_none = refl

by_bytes : meets (record { field = []; low = Some (scalar.Text (codes "b")); high = None }) (Text (codes "ba")) ≡ true
by_bytes = refl

-- ---- rows

under_a_limit : first_rows (Some 5) ((0 ∷ 1 ∷ 2 ∷ []) ∷ (0 ∷ 1 ∷ 2 ∷ 3 ∷ 4 ∷ []) ∷ (0 ∷ []) ∷ []) ≡ (0 ∷ 1 ∷ 2 ∷ []) ∷ (0 ∷ 1 ∷ []) ∷ [] ∷ []
under_a_limit = refl

-- ---- requests

abbrev field : Field
field = record { name = codes "a"; data_type = type.Int32; is_nullable = true }

no_fields : is_legal (record { fields = []; bounds = []; chunk_size = None; limit = None }) None ≡ false
no_fields = refl

twice : is_legal (record { fields = field ∷ field ∷ []; bounds = []; chunk_size = None; limit = None }) None ≡ false
twice = refl

empty_chunks : is_legal (record { fields = field ∷ []; bounds = []; chunk_size = Some 0; limit = None }) None ≡ false
empty_chunks = refl

one_bound : is_legal (record { fields = field ∷ []; bounds = record { field = codes "a"; low = Some (number 12); high = None } ∷ []; chunk_size = None; limit = Some 0 }) None ≡ true
unfolding type.out-DataType denote.Hole.Carrier.out
one_bound = refl

out_of_range : is_legal (record { fields = field ∷ []; bounds = record { field = codes "a"; low = Some (number 2147483648); high = None } ∷ []; chunk_size = None; limit = None }) None ≡ false
unfolding type.out-DataType denote.Hole.Carrier.out
out_of_range = refl

-- ---- the items of pages

abbrev stored_as : PhysicalType → PrimitiveType
stored_as physical = record { physical_type = physical; logical_type = None; repetition = Required }

-- the entries 10 and 12, in an encoding of this number
abbrev two_entries : ℕ → Dictionary
two_entries encoding = Defined (record { size = 21; num_values = 2; encoding = pos encoding; body = 10 ∷ 0 ∷ 0 ∷ 0 ∷ 12 ∷ 0 ∷ 0 ∷ 0 ∷ [] })

abbrev over_entries : ℕ → Reading
over_entries encoding = record { stored = stored_as Int32; dictionary = two_entries encoding; data_type = type.Int32 }

-- a page of two keys of so many bits, packed in bytes
abbrev two_keys : ℕ → List ℕ → ChunkPage
two_keys width bytes = record { size = 20; header = V1 2 (pos 8) (pos 3); body = width ∷ 3 ∷ bytes }

-- the second entry, and then the first
abbrev from_row_5 : List PlacedPage
from_row_5 = record { start = 21; first_row = 5; page = two_keys 1 (1 ∷ []) } ∷ []

second_entry : item_among (over_entries 0) from_row_5 5 ≡ Some (Value (Int (pos 12)))
unfolding type.out-DataType denote.Hole.Carrier.out page_items spelled places_and_values prefixed_parts presence dictionary_keys plain_values plain_fixed hybrid runs first_run varint varint_within packed little_endian
second_entry = refl

first_entry : item_among (over_entries 0) from_row_5 6 ≡ Some (Value (Int (pos 10)))
unfolding type.out-DataType denote.Hole.Carrier.out page_items spelled places_and_values prefixed_parts presence dictionary_keys plain_values plain_fixed hybrid runs first_run varint varint_within packed little_endian
first_entry = refl

behind_the_last : item_among (over_entries 0) from_row_5 7 ≡ None
behind_the_last = refl

-- a number of milliseconds that is too great for nanoseconds
abbrev milliseconds : Reading
milliseconds = record { stored = record { physical_type = Int64; logical_type = Some (Timestamp Milliseconds true); repetition = Required }; dictionary = NoDictionary; data_type = type.Timestamp Nanosecond None }

abbrev one_number : List PlacedPage
one_number = record { start = 0; first_row = 0; page = record { size = 25; header = V1 1 (pos 0) (pos 3); body = 255 ∷ 255 ∷ 255 ∷ 255 ∷ 255 ∷ 255 ∷ 255 ∷ 127 ∷ [] } } ∷ []

too_great : row_causes (item_among milliseconds one_number) (0 ∷ 1 ∷ []) ≡ Overflow ∷ []
unfolding type.out-DataType denote.Hole.Carrier.out page_items spelled places_and_values prefixed_parts presence dictionary_keys plain_values plain_fixed hybrid runs first_run varint varint_within packed little_endian
too_great = refl

-- of a column that is read as nulls no page is looked at
as_nulls : (bytes : List ℕ) (group : RowGroupMetaData) (column : ColumnChunkMetaData) (row : ℕ) → row < group.num_rows → column_item true bytes group type.Null column row ≡ Some (Value Null)
unfolding type.out-DataType denote.Hole.Carrier.out
as_nulls bytes group column row below = ap (λ b. given b (Value Null)) (lt-ltb row group.num_rows below)

-- ---- what is wrong with pages and dictionaries

key_past_the_entries : causes_of_data (over_entries 0) (two_keys 2 (2 ∷ 0 ∷ [])) ≡ OutOfSpec ∷ []
unfolding type.out-DataType denote.Hole.Carrier.out page_causes page_keys places_and_values prefixed_parts presence dictionary_keys plain_values plain_fixed hybrid runs first_run varint varint_within packed little_endian
key_past_the_entries = refl

-- the same pages, read as keys of 8 bits with a sign
abbrev as_keys : Reading
as_keys = record { stored = stored_as Int32; dictionary = two_entries 0; data_type = type.Dictionary integer.Int8 type.Int32 false }

-- the key 128 and seven times the key 0, of which two are read
key_past_its_type : causes_of_data as_keys (two_keys 8 (128 ∷ 0 ∷ 0 ∷ 0 ∷ 0 ∷ 0 ∷ 0 ∷ 0 ∷ [])) ≡ OutOfSpec ∷ Overflow ∷ []
unfolding type.out-DataType denote.Hole.Carrier.out page_causes page_keys places_and_values prefixed_parts presence dictionary_keys plain_values plain_fixed hybrid runs first_run varint varint_within packed little_endian
key_past_its_type = refl

keys_of_the_type : causes_of_data as_keys (two_keys 1 (1 ∷ [])) ≡ []
unfolding type.out-DataType denote.Hole.Carrier.out page_causes page_keys places_and_values prefixed_parts presence dictionary_keys plain_values plain_fixed hybrid runs first_run varint varint_within packed little_endian
keys_of_the_type = refl

-- a page of values in a dictionary column
plain_as_keys : causes_of_data as_keys (record { size = 28; header = V1 2 (pos 0) (pos 3); body = 10 ∷ 0 ∷ 0 ∷ 0 ∷ 12 ∷ 0 ∷ 0 ∷ 0 ∷ [] }) ≡ NotYetImplemented ∷ []
unfolding type.out-DataType denote.Hole.Carrier.out page_causes
plain_as_keys = refl

other_encoding : causes_of_dictionary (over_entries 4) (two_entries 4) ≡ NotYetImplemented ∷ []
unfolding type.out-DataType denote.Hole.Carrier.out
other_encoding = refl

-- A first page in front of its chunk leaves no room for a dictionary.
before_the_chunk : dictionary_before 10 (1 ∷ 2 ∷ []) (record { offset = pos 4; compressed_page_size = pos 8; first_row_index = pos 0 } ∷ []) ≡ NoDictionary
before_the_chunk = refl

past_the_chunk : dictionary_before 10 (1 ∷ 2 ∷ []) (record { offset = pos 13; compressed_page_size = pos 8; first_row_index = pos 0 } ∷ []) ≡ Undefined
past_the_chunk = refl

-- ---- texts and byte strings

-- one byte that is no text, as a text and as a byte string
abbrev no_text : DataType → Dictionary → Reading
no_text data_type dictionary = record { stored = stored_as ByteArray; dictionary = dictionary; data_type = data_type }

abbrev one_byte : List PlacedPage
one_byte = record { start = 0; first_row = 0; page = record { size = 22; header = V1 1 (pos 0) (pos 3); body = 1 ∷ 0 ∷ 0 ∷ 0 ∷ 255 ∷ [] } } ∷ []

abbrev one_entry : Dictionary
one_entry = Defined (record { size = 18; num_values = 1; encoding = pos 0; body = 1 ∷ 0 ∷ 0 ∷ 0 ∷ 255 ∷ [] })

as_text : row_causes (item_among (no_text type.Utf8 NoDictionary) one_byte) (0 ∷ []) ≡ OutOfSpec ∷ []
unfolding type.out-DataType denote.Hole.Carrier.out page_items spelled places_and_values prefixed_parts presence plain_values plain_bytes first_string little_endian is_utf8 chars
as_text = refl

as_bytes : row_causes (item_among (no_text type.Binary NoDictionary) one_byte) (0 ∷ []) ≡ []
unfolding type.out-DataType denote.Hole.Carrier.out page_items spelled places_and_values prefixed_parts presence plain_values plain_bytes first_string little_endian
as_bytes = refl

-- All entries are judged, whether a key names them or not.
entry_as_text : causes_of_dictionary (no_text type.Utf8 one_entry) one_entry ≡ OutOfSpec ∷ []
unfolding type.out-DataType denote.Hole.Carrier.out dictionary_cells plain_values plain_bytes first_string little_endian is_utf8 chars
entry_as_text = refl

entry_as_bytes : causes_of_dictionary (no_text type.Binary one_entry) one_entry ≡ []
unfolding type.out-DataType denote.Hole.Carrier.out dictionary_cells plain_values plain_bytes first_string little_endian
entry_as_bytes = refl

-- ---- pairs of types

bytes_as_text : pair_causes (stored_as ByteArray) type.Utf8 ≡ []
unfolding type.out-DataType denote.Hole.Carrier.out
bytes_as_text = refl

texts_by_keys : (data_type value : DataType) → type.out-DataType data_type ≡ DataType-F.Dictionary integer.Int32 value false → type.out-DataType value ≡ DataType-F.Utf8 → pair_causes (stored_as ByteArray) data_type ≡ []
texts_by_keys data_type value keyed text = rw (keyed, text) refl

truths_by_keys : pair_causes (stored_as Boolean) (type.Dictionary integer.Int32 type.Boolean false) ≡ NotYetImplemented ∷ []
unfolding type.out-DataType denote.Hole.Carrier.out
truths_by_keys = refl

bytes_as_nulls : pair_causes (stored_as ByteArray) type.Null ≡ []
unfolding type.out-DataType denote.Hole.Carrier.out
bytes_as_nulls = refl

numbers_as_text : pair_causes (stored_as Int32) type.Utf8 ≡ NotYetImplemented ∷ []
unfolding type.out-DataType denote.Hole.Carrier.out
numbers_as_text = refl
