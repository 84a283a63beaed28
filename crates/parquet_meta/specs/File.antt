-- The metadata that a file's bytes spell.
use Rattle.std.specs.Prelude.{ℕ, ◌+◌, ◌-◌, ◌^◌, pos, Bool, true, false, List, [], ◌∷◌, length, take, drop, sum_by, Option, Some, None, option_map, ◌==◌, nat_le, nat_lt, ◌&&◌}
use Rattle.std.specs.Int.{w32, from_le_bytes}
use Rattle.std.specs.Option.{option_map_or}
use Rattle.parquet_base.specs.Reading.{◌>>=◌, given}
use Rattle.parquet_meta.specs.Footer.{file_meta_data}
use Rattle.parquet_meta.specs.Front.{value_in}
use Rattle.parquet_meta.specs.Lists.{all_of}
use Rattle.parquet_meta.specs.Places.{bytes_at}
use Rattle.parquet_meta.specs.declared.code.TypeCode.{TypeCode}
use Rattle.parquet_meta.specs.declared.code.TypeCode.TheVariants as codes
use Rattle.parquet_meta.specs.declared.footer.ChunkMetaData.{ChunkMetaData}
use Rattle.parquet_meta.specs.declared.footer.ChunkNumbers.{ChunkNumbers}
use Rattle.parquet_meta.specs.declared.footer.ColumnChunk.{ColumnChunk}
use Rattle.parquet_meta.specs.declared.footer.RowGroup.{RowGroup}
use Rattle.parquet_meta.specs.declared.footer.Footer.{Footer}
use Rattle.parquet_meta.specs.declared.metadata.PhysicalType.{PhysicalType}
use Rattle.parquet_meta.specs.declared.metadata.PhysicalType.TheVariants as types
use Rattle.parquet_meta.specs.declared.metadata.Place.{Place}
use Rattle.parquet_meta.specs.declared.metadata.ColumnDescriptor.{ColumnDescriptor}
use Rattle.parquet_meta.specs.declared.metadata.ColumnChunkMetaData.{ColumnChunkMetaData}
use Rattle.parquet_meta.specs.declared.metadata.RowGroupMetaData.{RowGroupMetaData}
use Rattle.parquet_meta.specs.declared.metadata.FileMetaData.{FileMetaData}

-- ---- groups beside the leaves of the schema

-- the chunk's type is that of the leaf; the length of fixed bytes stands in the schema alone
abbrev pub has_code : PhysicalType → TypeCode → Bool
has_code types.Boolean codes.Boolean = true
has_code types.Int32 codes.Int32 = true
has_code types.Int64 codes.Int64 = true
has_code types.Int96 codes.Int96 = true
has_code types.Float codes.Float = true
has_code types.Double codes.Double = true
has_code types.ByteArray codes.ByteArray = true
has_code (types.FixedLenByteArray n) codes.FixedLenByteArray = true
has_code t code = false

abbrev pub column_with : ColumnDescriptor → ColumnChunk → ChunkNumbers → ColumnChunkMetaData
column_with leaf chunk numbers = record {
  descriptor = leaf;
  codec = numbers.codec;
  num_values = numbers.num_values;
  total_compressed_size = numbers.total_compressed_size;
  data_page_offset = numbers.data_page_offset;
  dictionary_page_offset = numbers.dictionary_page_offset;
  statistics_bytes = numbers.statistics;
  offset_index = chunk.offset_index;
  column_index = chunk.column_index;
  column_index_offset = chunk.column_index_offset;
  foreign = chunk.foreign;
  encrypted = chunk.encrypted;
}

abbrev pub no_numbers : ChunkNumbers
no_numbers = record { codec = pos 0; num_values = 0; total_compressed_size = 0; data_page_offset = 0; dictionary_page_offset = None; statistics = None }

-- The chunk has the type of its leaf. The numbers of an encrypted one that tells none are 0.
abbrev pub numbers_of : PhysicalType → Option ChunkMetaData → Option ChunkNumbers
numbers_of physical_type None = Some no_numbers
numbers_of physical_type (Some m) = given (has_code physical_type m.type_code) m.numbers

abbrev pub column_data_of : ColumnDescriptor → ColumnChunk → Option ColumnChunkMetaData
column_data_of leaf chunk = option_map (column_with leaf chunk) (numbers_of leaf.primitive_type.physical_type chunk.meta_data)

-- as many chunks as leaves, in their order
unfoldable pub columns_of : List ColumnDescriptor → List ColumnChunk → Option (List ColumnChunkMetaData)
columns_of [] [] = Some []
columns_of [] (chunk ∷ chunks) = None
columns_of (leaf ∷ leaves) [] = None
columns_of (leaf ∷ leaves) (chunk ∷ chunks) = do
  first ← column_data_of leaf chunk
  others ← columns_of leaves chunks
  Some (first ∷ others)

abbrev pub group_with : RowGroup → List ColumnChunkMetaData → RowGroupMetaData
group_with group columns = record { columns = columns; num_rows = group.num_rows }

abbrev pub group_of : List ColumnDescriptor → RowGroup → Option RowGroupMetaData
group_of leaves group = option_map (group_with group) (columns_of leaves group.columns)

abbrev pub rows_in_groups : List RowGroup → ℕ
rows_in_groups groups = sum_by (λ group. group.num_rows) groups

-- the rows of all groups together are at most 2 ^ 63 - 1
unfoldable pub meta_data_of : Footer → Option FileMetaData
meta_data_of footer = do
  groups ← all_of (group_of footer.columns) footer.row_groups
  given (nat_lt (rows_in_groups footer.row_groups) (2 ^ 63)) (record { num_rows = footer.num_rows; columns = footer.columns; row_groups = groups })

-- the metadata in the struct that the bytes begin with
unfoldable pub meta_data_in : List ℕ → Option FileMetaData
meta_data_in bytes = do
  stored ← value_in file_meta_data bytes
  meta_data_of stored

-- ---- the footer in the file

-- `PAR1`
abbrev pub is_magic : List ℕ → Bool
is_magic (a ∷ b ∷ c ∷ d ∷ []) = a == 80 && b == 65 && c == 82 && d == 49
is_magic _ = false

-- the footer's length, by the eight bytes that end the file
unfoldable pub footer_length : List ℕ → Option ℕ
footer_length end = given (is_magic (drop 4 end)) (from_le_bytes w32 (take 4 end))

-- where the footer stands: before the last eight bytes, which tell its length
unfoldable pub footer_at : List ℕ → Option Place
footer_at file = do
  n ← footer_length (drop (length file - 8) file)
  given (nat_le 12 (length file) && nat_le n (length file - 8)) (record { offset = length file - 8 - n; length = n })

-- what a file's footer says
unfoldable pub footer : List ℕ → Option FileMetaData
footer file = do
  place ← footer_at file
  meta_data_in (bytes_at file place)

-- the part that is looked at: the last eight bytes, and the footer before them where they tell one
abbrev pub footer_place : List ℕ → Place
footer_place file =
    let n = option_map_or (λ place. place.length) (footer_at file) 0 in
    record { offset = length file - 8 - n; length = n + 8 }

-- how many bytes that part has at most
abbrev pub most_taken : Option (List ℕ) → ℕ
most_taken told = option_map_or (λ file. (footer_place file).length) told (2 ^ 32 + 7)
