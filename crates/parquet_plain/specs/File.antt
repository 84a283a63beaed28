-- A plain file: pages, column indexes, offset indexes and the footer, in their places.
use Rattle.std.specs.Prelude.{ℕ, ◌+◌, pos, false, List, [], ◌∷◌, ◌++◌, length, map, sum_by, Some, None}
use Rattle.std.specs.Int.{w32, to_le_bytes}
use Rattle.std.specs.List.{flat_map}
use Rattle.parquet_meta.specs.declared.metadata.ColumnChunkMetaData.{ColumnChunkMetaData}
use Rattle.parquet_meta.specs.declared.metadata.ColumnDescriptor.{ColumnDescriptor}
use Rattle.parquet_meta.specs.declared.metadata.FileMetaData.{FileMetaData}
use Rattle.parquet_meta.specs.declared.metadata.RowGroupMetaData.{RowGroupMetaData}
use Rattle.parquet_plain.specs.Description.{PlainChunk, PlainGroup, PlainFile, chunk_bytes, index_of_chunk, locations_from, statistics_of_chunk, rows_of_chunk, descriptor_of}
use Rattle.parquet_plain.specs.Structs.{column_index_bytes, offset_index_bytes, footer_bytes}

-- `PAR1`
abbrev pub magic : List ℕ
magic = 80 ∷ 65 ∷ 82 ∷ 49 ∷ []

-- ---- what is written of a chunk

abbrev pub chunk_index_bytes : PlainChunk → List ℕ
chunk_index_bytes chunk = column_index_bytes (index_of_chunk chunk)

-- where its pages stand, if it begins at a place of the file
abbrev pub chunk_locations_bytes : ℕ → PlainChunk → List ℕ
chunk_locations_bytes start chunk = offset_index_bytes (locations_from start 0 chunk.pages)

-- ---- where chunks and their indexes stand

-- the places at which a chunk, its column index and its offset index begin
pub record Starts : Type 0 where
  pub chunk : ℕ
  pub index : ℕ
  pub locations : ℕ

-- those of what stands behind a chunk and its indexes
abbrev pub behind : Starts → PlainChunk → Starts
behind at chunk = record {
  chunk = at.chunk + length (chunk_bytes chunk);
  index = at.index + length (chunk_index_bytes chunk);
  locations = at.locations + length (chunk_locations_bytes at.chunk chunk);
}

abbrev pub behind_all : Starts → List PlainChunk → Starts
behind_all at [] = at
behind_all at (chunk ∷ chunks) = behind_all (behind at chunk) chunks

-- ---- the metadata

abbrev pub column_at : ColumnDescriptor → Starts → PlainChunk → ColumnChunkMetaData
column_at descriptor at chunk = record {
  descriptor = descriptor;
  codec = pos 0;
  num_values = rows_of_chunk chunk;
  total_compressed_size = length (chunk_bytes chunk);
  data_page_offset = at.chunk;
  dictionary_page_offset = None;
  statistics_bytes = Some (statistics_of_chunk chunk);
  offset_index = Some (record { offset = at.locations; length = length (chunk_locations_bytes at.chunk chunk) });
  column_index = Some (record { offset = at.index; length = length (chunk_index_bytes chunk) });
  column_index_offset = Some at.index;
  foreign = false;
  encrypted = false;
}

-- a chunk for each column
unfoldable pub columns_at : List ColumnDescriptor → Starts → List PlainChunk → List ColumnChunkMetaData
columns_at (descriptor ∷ descriptors) at (chunk ∷ chunks) = column_at descriptor at chunk ∷ columns_at descriptors (behind at chunk) chunks
columns_at _ at _ = []

unfoldable pub groups_at : List ColumnDescriptor → Starts → List PlainGroup → List RowGroupMetaData
groups_at descriptors at [] = []
groups_at descriptors at (group ∷ groups) =
    record { columns = columns_at descriptors at group.chunks; num_rows = group.rows } ∷ groups_at descriptors (behind_all at group.chunks) groups

-- ---- the file

abbrev pub chunks_of : List PlainGroup → List PlainChunk
chunks_of groups = flat_map (λ (group : PlainGroup). group.chunks) groups

abbrev pub data_bytes : List PlainChunk → List ℕ
data_bytes chunks = flat_map chunk_bytes chunks

abbrev pub indexes_bytes : List PlainChunk → List ℕ
indexes_bytes chunks = flat_map chunk_index_bytes chunks

-- the offset indexes of chunks, of which the first begins at a place
unfoldable pub all_locations_bytes : ℕ → List PlainChunk → List ℕ
all_locations_bytes start [] = []
all_locations_bytes start (chunk ∷ chunks) = chunk_locations_bytes start chunk ++ all_locations_bytes (start + length (chunk_bytes chunk)) chunks

abbrev pub first_starts : List PlainChunk → Starts
first_starts chunks =
    let index = 4 + length (data_bytes chunks) in
    record { chunk = 4; index = index; locations = index + length (indexes_bytes chunks) }

unfoldable pub meta_data_of_plain : PlainFile → FileMetaData
meta_data_of_plain file =
    let descriptors = map descriptor_of file.columns in
    record { num_rows = sum_by (λ (group : PlainGroup). group.rows) file.groups; columns = descriptors; row_groups = groups_at descriptors (first_starts (chunks_of file.groups)) file.groups }

-- the parts in front of the footer
abbrev pub parts_bytes : List PlainChunk → List ℕ
parts_bytes chunks = magic ++ (data_bytes chunks ++ (indexes_bytes chunks ++ all_locations_bytes 4 chunks))

-- the footer, its length, and the magic
abbrev pub tail_bytes : List ℕ → List ℕ
tail_bytes footer = footer ++ (to_le_bytes w32 (length footer) ++ magic)

unfoldable pub plain_file : PlainFile → List ℕ
plain_file file = parts_bytes (chunks_of file.groups) ++ tail_bytes (footer_bytes (meta_data_of_plain file))
