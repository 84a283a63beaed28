-- The footer that is written is read as the metadata.
use Rattle.parquet_meta.specs.Records.{StoredMetaData, StoredChunk, StoredGroup, StoredFooter, code_of_type}
use Rattle.std.proofs.Common.{◌≡◌, ℕ, ◌+◌, ◌^◌, ◌<◌, pos, true, false, List, [], ◌∷◌, Option, Some, None, refl, sym, ap, ◌∙◌, arith, length, map}
use Rattle.std.specs.Prelude.{All, sum_by}
use Rattle.std.proofs.lemmas.Bool.{lt-ltb}
use Rattle.std.proofs.lemmas.List.Elements.{All-head, All-tail}
use Rattle.std.proofs.lemmas.List.Sums.{sum_by-cons}
use Rattle.parquet_thrift.specs.Values.{struct}
use Rattle.compact_write.specs.Fields.{values_of}
use Rattle.parquet_meta.specs.Code.{count, small_count}
use Rattle.parquet_meta.specs.File.{columns_of, meta_data_of, has_code, group_of}
use Rattle.parquet_meta.specs.Footer.{chunk_meta_data_field, chunk_meta_data_of, chunk_meta_data, column_chunk_field, column_chunk_of, column_chunk, row_group_field, row_group_of, row_group, footer_field, footer_of, file_meta_data}
use Rattle.parquet_meta.specs.Lists.{all_of}
use Rattle.parquet_meta.specs.Meaning.{i32, i64, byte_string, unknown, in_turn, struct_of, each, list_of, setting, made}
use Rattle.parquet_meta.specs.Statistics.{statistics_field, statistics}
use Rattle.parquet_meta.specs.declared.metadata.PhysicalType.{PhysicalType}
use Rattle.parquet_meta.specs.declared.metadata.PhysicalType.TheVariants as types
use Rattle.parquet_meta.specs.declared.metadata.Repetition.{Repetition}
use Rattle.parquet_meta.specs.declared.metadata.Repetition.TheVariants.{Required, Optional, Repeated}
use Rattle.parquet_plain.specs.Description.{PlainChunk, PlainColumn, PlainGroup, PlainFile, chunk_bytes, rows_of_chunk, statistics_of_chunk, descriptor_of}
use Rattle.parquet_plain.specs.declared.ends.Ends.{Ends}
use Rattle.parquet_plain.specs.File.{Starts, behind, behind_all, column_at, columns_at, groups_at, chunk_locations_bytes, chunk_index_bytes, first_starts, chunks_of, meta_data_of_plain}
use Rattle.parquet_plain.specs.Structs.{statistics_fields, meta_data_fields, chunk_value, group_value, footer_fields}
use Rattle.parquet_plain.proofs.SchemaLemmas.{type_code-means, schema-means}
use Rattle.parquet_plain.specs.Fits.{HasChunks, IsPlainColumn}

-- ---- a chunk

abbrev chunk_with : PlainChunk → Option Ends → PlainChunk
chunk_with chunk ends = record { pages = chunk.pages; nulls = chunk.nulls; ends = ends }

statistics-with : (chunk : PlainChunk) (ends : Option Ends) →
    statistics 12 (struct (statistics_fields (statistics_of_chunk (chunk_with chunk ends)))) ≡ Some (statistics_of_chunk (chunk_with chunk ends))
unfolding statistics statistics_field i64 byte_string setting struct_of in_turn
statistics-with chunk None = refl
statistics-with chunk (Some ends) = refl

statistics-means : (chunk : PlainChunk) → statistics 12 (struct (statistics_fields (statistics_of_chunk chunk))) ≡ Some (statistics_of_chunk chunk)
statistics-means chunk = statistics-with chunk chunk.ends

-- what is read of a chunk, before it is put beside its leaf
abbrev pub meta_data_at : PlainColumn → Starts → PlainChunk → StoredMetaData
meta_data_at column at chunk = record {
  type_code = code_of_type column.type.physical_type;
  numbers = record {
    codec = pos 0;
    num_values = rows_of_chunk chunk;
    total_compressed_size = length (chunk_bytes chunk);
    data_page_offset = at.chunk;
    dictionary_page_offset = None;
    statistics = Some (statistics_of_chunk chunk);
  };
}

abbrev typed : List ℕ → PhysicalType → Repetition → PlainColumn → PlainColumn
typed text t r column = record { name = text; type = record { physical_type = t; logical_type = column.type.logical_type; repetition = r } }

meta_data-means : (text : List ℕ) (t : PhysicalType) (r : Repetition) (column : PlainColumn) (at : Starts) (chunk : PlainChunk) →
    chunk_meta_data 12 (struct (meta_data_fields (column_at (descriptor_of (typed text t r column)) at chunk))) ≡ Some (meta_data_at (typed text t r column) at chunk)
unfolding chunk_meta_data chunk_meta_data_field chunk_meta_data_of count i32 i64 setting made struct_of in_turn unknown values_of
meta_data-means text t Required column at chunk = rw (type_code-means t, statistics-means chunk) refl
meta_data-means text t Optional column at chunk = rw (type_code-means t, statistics-means chunk) refl
meta_data-means text t Repeated column at chunk = rw (type_code-means t, statistics-means chunk) refl

abbrev pub chunk_at : PlainColumn → Starts → PlainChunk → StoredChunk
chunk_at column at chunk = record {
  meta_data = Some (meta_data_at column at chunk);
  offset_index = Some (record { offset = at.locations; length = length (chunk_locations_bytes at.chunk chunk) });
  column_index = Some (record { offset = at.index; length = length (chunk_index_bytes chunk) });
  column_index_offset = Some at.index;
  foreign = false;
  encrypted = false;
}

chunk-means : (column : PlainColumn) (at : Starts) (chunk : PlainChunk) → column_chunk 12 (chunk_value (column_at (descriptor_of column) at chunk)) ≡ Some (chunk_at column at chunk)
unfolding column_chunk column_chunk_field column_chunk_of count small_count i32 i64 setting made struct_of in_turn unknown
chunk-means column at chunk = rw (meta_data-means column.name column.type.physical_type column.type.repetition column at chunk) refl

-- ---- the chunks of a group

unfoldable pub chunks_at : List PlainColumn → Starts → List PlainChunk → List StoredChunk
chunks_at (column ∷ columns) at (chunk ∷ chunks) = chunk_at column at chunk ∷ chunks_at columns (behind at chunk) chunks
chunks_at [] at chunks = []
chunks_at (column ∷ columns) at [] = []

chunks-mean : (columns : List PlainColumn) (at : Starts) (chunks : List PlainChunk) →
    each column_chunk 12 (values_of chunk_value (columns_at (map descriptor_of columns) at chunks)) ≡ Some (chunks_at columns at chunks)
unfolding each values_of columns_at chunks_at
chunks-mean [] at chunks = refl
chunks-mean (column ∷ columns) at [] = refl
chunks-mean (column ∷ columns) at (chunk ∷ chunks) = rw (chunk-means column at chunk, chunks-mean columns (behind at chunk) chunks) refl

has_code-own : (t : PhysicalType) → has_code t (code_of_type t) ≡ true
has_code-own types.Boolean = refl
has_code-own types.Int32 = refl
has_code-own types.Int64 = refl
has_code-own types.Int96 = refl
has_code-own types.Float = refl
has_code-own types.Double = refl
has_code-own types.ByteArray = refl
has_code-own (types.FixedLenByteArray width) = refl

columns-are : (columns : List PlainColumn) (at : Starts) (chunks : List PlainChunk) → length chunks ≡ length columns →
    columns_of (map descriptor_of columns) (chunks_at columns at chunks) ≡ Some (columns_at (map descriptor_of columns) at chunks)
unfolding columns_of chunks_at columns_at
columns-are [] at [] e = refl
columns-are [] at (chunk ∷ chunks) e = absurd (omega arith)
columns-are (column ∷ columns) at [] e = absurd (omega arith)
columns-are (column ∷ columns) at (chunk ∷ chunks) e =
    let k : length chunks ≡ length columns = omega arith in
    rw (has_code-own column.type.physical_type, columns-are columns (behind at chunk) chunks k) refl

-- ---- groups

unfoldable pub row_groups_at : List PlainColumn → Starts → List PlainGroup → List StoredGroup
row_groups_at columns at [] = []
row_groups_at columns at (group ∷ groups) = record { columns = chunks_at columns at group.chunks; num_rows = group.rows } ∷ row_groups_at columns (behind_all at group.chunks) groups

group-means : (columns : List PlainColumn) (at : Starts) (group : PlainGroup) →
    row_group 12 (group_value (record { columns = columns_at (map descriptor_of columns) at group.chunks; num_rows = group.rows })) ≡ Some (record { columns = chunks_at columns at group.chunks; num_rows = group.rows })
unfolding row_group row_group_field row_group_of count i64 list_of setting made struct_of in_turn unknown
group-means columns at group = rw (chunks-mean columns at group.chunks) refl

groups-mean : (columns : List PlainColumn) (at : Starts) (groups : List PlainGroup) →
    each row_group 12 (values_of group_value (groups_at (map descriptor_of columns) at groups)) ≡ Some (row_groups_at columns at groups)
unfolding each values_of groups_at row_groups_at
groups-mean columns at [] = refl
groups-mean columns at (group ∷ groups) = rw (group-means columns at group, groups-mean columns (behind_all at group.chunks) groups) refl

groups-are : (columns : List PlainColumn) (at : Starts) (groups : List PlainGroup) → All (HasChunks (length columns)) groups →
    all_of (group_of (map descriptor_of columns)) (row_groups_at columns at groups) ≡ Some (groups_at (map descriptor_of columns) at groups)
unfolding all_of row_groups_at groups_at
groups-are columns at [] all = refl
groups-are columns at (group ∷ groups) all =
    rw (columns-are columns at group.chunks (All-head (HasChunks (length columns)) group groups all), groups-are columns (behind_all at group.chunks) groups (All-tail (HasChunks (length columns)) group groups all)) refl

rows-are : (columns : List PlainColumn) (at : Starts) (groups : List PlainGroup) → sum_by (λ (group : StoredGroup). group.num_rows) (row_groups_at columns at groups) ≡ sum_by (λ (group : PlainGroup). group.rows) groups
unfolding row_groups_at
rows-are columns at [] = refl
rows-are columns at (group ∷ groups) =
    sum_by-cons (λ (g : StoredGroup). g.num_rows) (record { columns = chunks_at columns at group.chunks; num_rows = group.rows }) (row_groups_at columns (behind_all at group.chunks) groups) ∙ ap (λ (n : ℕ). group.rows + n) (rows-are columns (behind_all at group.chunks) groups) ∙ sym (sum_by-cons (λ (g : PlainGroup). g.rows) group groups)

-- ---- the footer

abbrev pub footer_of_plain : PlainFile → StoredFooter
footer_of_plain file = record {
  columns = map descriptor_of file.columns;
  num_rows = sum_by (λ (group : PlainGroup). group.rows) file.groups;
  row_groups = row_groups_at file.columns (first_starts (chunks_of file.groups)) file.groups;
}

pub footer-means : (file : PlainFile) → All IsPlainColumn file.columns → file_meta_data 12 (struct (footer_fields (meta_data_of_plain file))) ≡ Some (footer_of_plain file)
unfolding file_meta_data footer_field footer_of count i32 i64 list_of setting made struct_of in_turn unknown meta_data_of_plain
footer-means file plain = rw (schema-means file.columns plain, groups-mean file.columns (first_starts (chunks_of file.groups)) file.groups) refl

pub meta_data-is : (file : PlainFile) → All (HasChunks (length file.columns)) file.groups → sum_by (λ (group : PlainGroup). group.rows) file.groups < 2 ^ 63 →
    meta_data_of (footer_of_plain file) ≡ Some (meta_data_of_plain file)
unfolding meta_data_of meta_data_of_plain
meta_data-is file whole few =
    let at : Starts = first_starts (chunks_of file.groups) in
    rw (groups-are file.columns at file.groups whole, rows-are file.columns at file.groups, lt-ltb (sum_by (λ (group : PlainGroup). group.rows) file.groups) (2 ^ 63) few) refl
