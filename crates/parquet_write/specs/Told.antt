-- What the facts of pages, chunks and groups say of a plain file.
use Rattle.std.specs.Prelude.{◌≡◌, ◌<◌, ◌^◌, ℕ, ℤ, Bool, ◌+◌, pos, false, is_none, List, [], ◌∷◌, length, map, sum_by, All, Option, Some, None, IfSome}
use Rattle.parquet_thrift.specs.Values.{binary, number, truth}
use Rattle.compact_write.specs.Fields.{values_of}
use Rattle.compact_write.specs.Written.{element_bytes, elements_bytes, fields_bytes}
use Rattle.parquet_meta.specs.ColumnIndex.{index_with}
use Rattle.parquet_meta.specs.Records.{StoredIndex}
use Rattle.parquet_meta.specs.declared.metadata.ColumnChunkMetaData.{ColumnChunkMetaData}
use Rattle.parquet_meta.specs.declared.metadata.ColumnDescriptor.{ColumnDescriptor}
use Rattle.parquet_meta.specs.declared.metadata.FileMetaData.{FileMetaData}
use Rattle.parquet_meta.specs.declared.metadata.PageLocation.{PageLocation}
use Rattle.parquet_meta.specs.declared.metadata.PrimitiveType.{PrimitiveType}
use Rattle.parquet_meta.specs.declared.metadata.RowGroupMetaData.{RowGroupMetaData}
use Rattle.parquet_plain.specs.Description.{PlainChunk, chunk_bytes, greatest_of, least_of, rows_of_chunk, statistics_from}
use Rattle.parquet_plain.specs.File.{Starts, behind, chunk_index_bytes, chunk_locations_bytes, tail_bytes}
use Rattle.parquet_plain.specs.Structs.{chunk_value, footer_bytes, group_value, location_value, meta_data_fields, statistics_fields, width_of}
use Rattle.parquet_plain.specs.declared.ends.Ends.{Ends}
use Rattle.parquet_write.specs.declared.facts.Bases.{Bases}
use Rattle.parquet_write.specs.declared.facts.ChunkFacts.{ChunkFacts}
use Rattle.parquet_write.specs.declared.facts.GroupFacts.{GroupFacts}
use Rattle.parquet_write.specs.declared.facts.PageFacts.{PageFacts}

-- ---- pages

abbrev pub location_told : PageFacts → PageLocation
location_told page = record { offset = pos page.offset; compressed_page_size = pos page.size; first_row_index = pos page.first_row }

-- Readers take each number of the page.
pub record IsTellablePage (page : PageFacts) : Type 0 where
  pub offset : page.offset < 2 ^ 63
  pub size : page.size < 2 ^ 31
  pub first_row : page.first_row < 2 ^ 63

abbrev pub is_null_page : PageFacts → Bool
is_null_page page = is_none page.ends

abbrev pub least_told : PageFacts → List ℕ
least_told page = least_of page.ends

abbrev pub greatest_told : PageFacts → List ℕ
greatest_told page = greatest_of page.ends

abbrev pub nulls_told : PageFacts → ℤ
nulls_told page = pos page.nulls

abbrev pub index_told : List PageFacts → StoredIndex
index_told pages = index_with (map is_null_page pages) (map least_told pages) (map greatest_told pages) (Some (map nulls_told pages))

-- ---- the bytes of pages

abbrev pub location_bytes : PageFacts → List ℕ
location_bytes page = element_bytes (location_value (location_told page))

abbrev pub null_pages_bytes : List PageFacts → List ℕ
null_pages_bytes pages = elements_bytes (values_of truth (map is_null_page pages))

abbrev pub least_bytes : List PageFacts → List ℕ
least_bytes pages = elements_bytes (values_of binary (map least_told pages))

abbrev pub greatest_bytes : List PageFacts → List ℕ
greatest_bytes pages = elements_bytes (values_of binary (map greatest_told pages))

abbrev pub null_counts_bytes : List PageFacts → List ℕ
null_counts_bytes pages = elements_bytes (values_of number (map nulls_told pages))

-- ---- chunks

-- Readers take what is told of the chunk itself.
pub record HasTellableValues (chunk : ChunkFacts) : Type 0 where
  pub start : chunk.start < 2 ^ 63
  pub size : chunk.size < 2 ^ 63
  pub rows : chunk.rows < 2 ^ 63
  pub nulls : chunk.nulls < 2 ^ 63

-- and of its indexes
pub record IsTellableChunk (bases : Bases) (chunk : ChunkFacts) : Type 0 where
  pub values : HasTellableValues chunk
  pub index : bases.indexes + chunk.index < 2 ^ 63
  pub index_size : chunk.index_size < 2 ^ 31
  pub locations : bases.locations + chunk.locations < 2 ^ 63
  pub locations_size : chunk.locations_size < 2 ^ 31

-- what is told of a chunk that begins at a place, and whose indexes begin at places of their own
abbrev pub facts_of : Starts → PlainChunk → ChunkFacts
facts_of at chunk = record {
  start = at.chunk;
  size = length (chunk_bytes chunk);
  rows = rows_of_chunk chunk;
  nulls = chunk.nulls;
  ends = chunk.ends;
  index = at.index;
  index_size = length (chunk_index_bytes chunk);
  locations = at.locations;
  locations_size = length (chunk_locations_bytes at.chunk chunk);
}

-- what is told of chunks one after another
abbrev pub all_facts : Starts → List PlainChunk → List ChunkFacts
all_facts at [] = []
all_facts at (chunk ∷ chunks) = facts_of at chunk ∷ all_facts (behind at chunk) chunks

abbrev pub column_told : ColumnDescriptor → Bases → ChunkFacts → ColumnChunkMetaData
column_told descriptor bases chunk = record {
  descriptor = descriptor;
  codec = pos 0;
  num_values = chunk.rows;
  total_compressed_size = chunk.size;
  data_page_offset = chunk.start;
  dictionary_page_offset = None;
  statistics_bytes = Some (statistics_from chunk.nulls chunk.ends);
  offset_index = Some (record { offset = bases.locations + chunk.locations; length = chunk.locations_size });
  column_index = Some (record { offset = bases.indexes + chunk.index; length = chunk.index_size });
  column_index_offset = Some (bases.indexes + chunk.index);
  foreign = false;
  encrypted = false;
}

-- ---- groups

unfoldable pub columns_told : List ColumnDescriptor → Bases → List ChunkFacts → List ColumnChunkMetaData
columns_told (descriptor ∷ descriptors) bases (chunk ∷ chunks) = column_told descriptor bases chunk ∷ columns_told descriptors bases chunks
columns_told _ bases _ = []

abbrev pub group_told : List ColumnDescriptor → Bases → GroupFacts → RowGroupMetaData
group_told descriptors bases group = record { columns = columns_told descriptors bases group.chunks; num_rows = group.rows }

abbrev pub file_told : List ColumnDescriptor → Bases → List GroupFacts → FileMetaData
file_told descriptors bases groups =
    record { num_rows = sum_by (λ (group : GroupFacts). group.rows) groups; columns = descriptors; row_groups = map (group_told descriptors bases) groups }

-- a group has a chunk for each column
abbrev pub HasColumns : ℕ → GroupFacts → Type 0
HasColumns columns group = length group.chunks ≡ columns

-- Readers take each number of the group.
pub record IsTellableGroup (bases : Bases) (group : GroupFacts) : Type 0 where
  pub chunks : All (IsTellableChunk bases) group.chunks
  pub size : sum_by (λ (chunk : ChunkFacts). chunk.size) group.chunks < 2 ^ 63
  pub rows : group.rows < 2 ^ 63

-- the length of fixed bytes is one that they take
abbrev pub IsTellableType : PrimitiveType → Type 0
IsTellableType type = IfSome (width_of type.physical_type) (λ width. width < 2 ^ 31)

abbrev pub IsTellableColumn : ColumnDescriptor → Type 0
IsTellableColumn column = IsTellableType column.primitive_type

-- Readers take each number of the columns.
pub record AreTellableColumns (columns : List ColumnDescriptor) : Type 0 where
  pub count : length columns < 2 ^ 31
  pub each : All IsTellableColumn columns

-- Readers take each number of the footer.
pub record IsTellableFile (columns : List ColumnDescriptor) (bases : Bases) (groups : List GroupFacts) : Type 0 where
  pub schema : AreTellableColumns columns
  pub rows : sum_by (λ (group : GroupFacts). group.rows) groups < 2 ^ 63
  pub each : All (IsTellableGroup bases) groups

-- ---- the bytes of groups

abbrev pub statistics_bytes : ℕ → Option Ends → List ℕ
statistics_bytes nulls ends = fields_bytes 0 (statistics_fields (statistics_from nulls ends))

abbrev pub meta_data_bytes : ColumnDescriptor → Bases → ChunkFacts → List ℕ
meta_data_bytes column bases chunk = fields_bytes 0 (meta_data_fields (column_told column bases chunk))

abbrev pub chunk_told_bytes : ColumnDescriptor → Bases → ChunkFacts → List ℕ
chunk_told_bytes column bases chunk = element_bytes (chunk_value (column_told column bases chunk))

abbrev pub chunks_told_bytes : List ColumnDescriptor → Bases → List ChunkFacts → List ℕ
chunks_told_bytes columns bases chunks = elements_bytes (values_of chunk_value (columns_told columns bases chunks))

abbrev pub group_told_bytes : List ColumnDescriptor → Bases → GroupFacts → List ℕ
group_told_bytes columns bases group = element_bytes (group_value (group_told columns bases group))

-- the footer, its length, and the magic
abbrev pub end_of_file_bytes : List ColumnDescriptor → Bases → List GroupFacts → List ℕ
end_of_file_bytes columns bases groups = tail_bytes (footer_bytes (file_told columns bases groups))
