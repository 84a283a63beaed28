-- The numbers of the footer fit.
use Rattle.std.proofs.Common.{◌≡◌, ℕ, suc, ◌^◌, ◌<◌, pos, Bool, true, false, List, [], ◌∷◌, Option, Some, None, refl, ap, ◌∙◌, arith, length, map}
use Rattle.std.specs.Prelude.{All, IfSome, sum_by}
use Rattle.std.proofs.lemmas.List.{length-map}
use Rattle.std.proofs.lemmas.List.Elements.{All-head, All-tail}
use Rattle.parquet_thrift.specs.Values.{truth, binary, no_fields, fields}
use Rattle.compact_write.specs.Fields.{i32_field, bytes_field, struct_field, where_there, values_of}
use Rattle.compact_write.specs.Written.{truth_kind, value_count, CanWriteElements, CanWriteFields}
use Rattle.compact_write.proofs.FieldLemmas.{can_i32, can_i64, can_bytes, can_struct, can_list, can_truth, can_end, can_none, can_one_more, can_struct_element, can_bytes_element, can_i32_element, value_count-values}
use Rattle.parquet_meta.specs.declared.metadata.ParquetTimeUnit.{ParquetTimeUnit}
use Rattle.parquet_meta.specs.declared.metadata.ParquetTimeUnit.TheVariants.{Milliseconds, Microseconds, Nanoseconds}
use Rattle.parquet_meta.specs.declared.metadata.PhysicalType.{PhysicalType}
use Rattle.parquet_meta.specs.declared.metadata.PhysicalType.TheVariants as types
use Rattle.parquet_meta.specs.declared.metadata.PrimitiveLogicalType.{PrimitiveLogicalType}
use Rattle.parquet_meta.specs.declared.metadata.PrimitiveLogicalType.TheVariants.{Timestamp}
use Rattle.parquet_meta.specs.declared.metadata.Repetition.{Repetition}
use Rattle.parquet_meta.specs.declared.metadata.Repetition.TheVariants.{Required, Optional, Repeated}
use Rattle.parquet_plain.specs.Description.{PlainChunk, PlainColumn, PlainGroup, PlainFile, chunk_bytes, rows_of_chunk, statistics_of_chunk, descriptor_of}
use Rattle.parquet_plain.specs.declared.ends.Ends.{Ends}
use Rattle.parquet_plain.specs.File.{Starts, behind, behind_all, column_at, columns_at, groups_at, chunk_locations_bytes, chunk_index_bytes, first_starts, chunks_of, meta_data_of_plain}
use Rattle.parquet_plain.specs.Structs.{code_number, width_of, width_field, repetition_number, unit_number, logical_field, element_fields, element_value, root_name, schema_values, statistics_fields, meta_data_fields, encodings_of, chunk_fields, chunk_value, group_value, size_of_group, footer_fields}
use Rattle.parquet_plain.specs.Fits.{IsPlainColumn}

-- ---- columns

code-few : (t : PhysicalType) → code_number t < 2 ^ 31
code-few types.Boolean = omega arith
code-few types.Int32 = omega arith
code-few types.Int64 = omega arith
code-few types.Int96 = omega arith
code-few types.Float = omega arith
code-few types.Double = omega arith
code-few types.ByteArray = omega arith
code-few (types.FixedLenByteArray width) = omega arith

repetition-few : (r : Repetition) → repetition_number r < 2 ^ 31
repetition-few Required = omega arith
repetition-few Optional = omega arith
repetition-few Repeated = omega arith

logical-can : (l : Option PrimitiveLogicalType) → CanWriteFields 4 (where_there logical_field l no_fields)
logical-can None = can_end 4
logical-can (Some (Timestamp unit utc)) = can_struct 4 10 _ _ refl (can_struct 0 8 _ _ refl (adjusted utc (unit-can unit)) (can_end 8)) (can_end 10)
  where
    unit-can : (u : ParquetTimeUnit) → CanWriteFields 1 (struct_field 2 (struct_field (unit_number u) no_fields no_fields) no_fields)
    unit-can Milliseconds = can_struct 1 2 _ _ refl (can_struct 0 1 _ _ refl (can_end 0) (can_end 1)) (can_end 2)
    unit-can Microseconds = can_struct 1 2 _ _ refl (can_struct 0 2 _ _ refl (can_end 0) (can_end 2)) (can_end 2)
    unit-can Nanoseconds = can_struct 1 2 _ _ refl (can_struct 0 3 _ _ refl (can_end 0) (can_end 3)) (can_end 2)

    adjusted : (b : Bool) → CanWriteFields 1 (struct_field 2 (struct_field (unit_number unit) no_fields no_fields) no_fields) →
        CanWriteFields 0 (fields (pos 1) (truth_kind b) (truth b) (struct_field 2 (struct_field (unit_number unit) no_fields no_fields) no_fields))
    adjusted true can = can_truth 0 1 true _ refl refl can
    adjusted false can = can_truth 0 1 false _ refl refl can

element-with : (w : Option ℕ) (r : Repetition) (text : List ℕ) (l : Option PrimitiveLogicalType) → length text < 2 ^ 64 → IfSome w (λ width. width < 2 ^ 31) →
    CanWriteFields 1 (where_there width_field w (i32_field 3 (pos (repetition_number r)) (bytes_field 4 text (where_there logical_field l no_fields))))
element-with None r text l short narrow = can_i32 1 3 (repetition_number r) _ refl (repetition-few r) (can_bytes 3 4 text _ refl short (logical-can l))
element-with (Some w) r text l short narrow = can_i32 1 2 w _ refl narrow (can_i32 2 3 (repetition_number r) _ refl (repetition-few r) (can_bytes 3 4 text _ refl short (logical-can l)))

element-can : (column : PlainColumn) → IsPlainColumn column → CanWriteFields 0 (element_fields (descriptor_of column))
element-can column is =
    can_i32 0 1 (code_number column.type.physical_type) _ refl (code-few column.type.physical_type)
    (element-with (width_of column.type.physical_type) column.type.repetition column.name column.type.logical_type is.short is.narrow)

elements-can : (columns : List PlainColumn) → All IsPlainColumn columns → CanWriteElements 12 (values_of element_value (map descriptor_of columns))
unfolding values_of
elements-can [] all = can_none 12
elements-can (column ∷ columns) all =
    can_one_more 12 _ _ (can_struct_element _ (element-can column (All-head IsPlainColumn column columns all))) (elements-can columns (All-tail IsPlainColumn column columns all))

schema-can : (columns : List PlainColumn) → All IsPlainColumn columns → length columns < 2 ^ 31 → CanWriteElements 12 (schema_values (map descriptor_of columns))
schema-can columns all few =
    can_one_more 12 _ _ (can_struct_element _ (can_bytes 0 4 root_name _ refl (omega arith) (can_i32 4 5 (length (map descriptor_of columns)) _ refl (rw (length-map columns descriptor_of) few) (can_end 5))))
    (elements-can columns all)

-- ---- chunks

-- numbers of a chunk
pub record FitsChunkAt (at : Starts) (chunk : PlainChunk) : Type 0 where
  pub starts : (at.chunk < 2 ^ 63) × (at.index < 2 ^ 63) × (at.locations < 2 ^ 63)
  pub rows : rows_of_chunk chunk < 2 ^ 63
  pub size : length (chunk_bytes chunk) < 2 ^ 63
  pub nulls : chunk.nulls < 2 ^ 63
  pub index : length (chunk_index_bytes chunk) < 2 ^ 31
  pub locations : length (chunk_locations_bytes at.chunk chunk) < 2 ^ 31
  pub ends : IfSome chunk.ends (λ ends. (length ends.least < 2 ^ 64) × (length ends.greatest < 2 ^ 64))

abbrev ended : PlainChunk → Option Ends → PlainChunk
ended chunk ends = record { pages = chunk.pages; nulls = chunk.nulls; ends = ends }

statistics-can : (chunk : PlainChunk) (ends : Option Ends) → chunk.nulls < 2 ^ 63 → IfSome ends (λ ends. (length ends.least < 2 ^ 64) × (length ends.greatest < 2 ^ 64)) →
    CanWriteFields 0 (statistics_fields (statistics_of_chunk (ended chunk ends)))
statistics-can chunk None few short = can_i64 0 3 chunk.nulls _ refl few (can_end 3)
statistics-can chunk (Some ends) few short = can_i64 0 3 chunk.nulls _ refl few (can_bytes 3 5 ends.greatest _ refl short.1 (can_bytes 5 6 ends.least _ refl short.0 (can_end 6)))

encodings-can : (r : Repetition) → CanWriteElements 5 (encodings_of r)
encodings-can Required = can_one_more 5 _ _ (can_i32_element 0 (omega arith)) (can_none 5)
encodings-can Optional = can_one_more 5 _ _ (can_i32_element 0 (omega arith)) (can_one_more 5 _ _ (can_i32_element 3 (omega arith)) (can_none 5))
encodings-can Repeated = can_one_more 5 _ _ (can_i32_element 0 (omega arith)) (can_one_more 5 _ _ (can_i32_element 3 (omega arith)) (can_none 5))

encodings-few : (r : Repetition) → value_count (encodings_of r) < 2 ^ 64
encodings-few Required = omega arith
encodings-few Optional = omega arith
encodings-few Repeated = omega arith

name-can : (text : List ℕ) → length text < 2 ^ 64 → CanWriteElements 8 (values_of binary (text ∷ []))
unfolding values_of
name-can text short = can_one_more 8 _ _ (can_bytes_element text short) (can_none 8)

name-few : (text : List ℕ) → value_count (values_of binary (text ∷ [])) < 2 ^ 64
unfolding values_of
name-few text = omega arith

meta_data-can : (column : PlainColumn) (at : Starts) (chunk : PlainChunk) → IsPlainColumn column → FitsChunkAt at chunk → CanWriteFields 0 (meta_data_fields (column_at (descriptor_of column) at chunk))
meta_data-can column at chunk is fits =
    can_i32 0 1 (code_number column.type.physical_type) _ refl (code-few column.type.physical_type)
    (can_list 1 2 5 (encodings_of column.type.repetition) _ refl refl (encodings-few column.type.repetition) (encodings-can column.type.repetition)
    (can_list 2 3 8 (values_of binary (column.name ∷ [])) _ refl refl (name-few column.name) (name-can column.name is.short)
    (can_i32 3 4 0 _ refl (omega arith) (can_i64 4 5 (rows_of_chunk chunk) _ refl fits.rows (can_i64 5 6 (length (chunk_bytes chunk)) _ refl fits.size (can_i64 6 7 (length (chunk_bytes chunk)) _ refl fits.size
    (can_i64 7 9 at.chunk _ refl fits.starts.0 (can_struct 9 12 _ _ refl (statistics-can chunk chunk.ends fits.nulls fits.ends) (can_end 12)))))))))

chunk-can : (column : PlainColumn) (at : Starts) (chunk : PlainChunk) → IsPlainColumn column → FitsChunkAt at chunk → CanWriteFields 0 (chunk_fields (column_at (descriptor_of column) at chunk))
chunk-can column at chunk is fits =
    can_i64 0 2 at.chunk _ refl fits.starts.0 (can_struct 2 3 _ _ refl (meta_data-can column at chunk is fits)
    (can_i64 3 4 at.locations _ refl fits.starts.2 (can_i32 4 5 (length (chunk_locations_bytes at.chunk chunk)) _ refl fits.locations
    (can_i64 5 6 at.index _ refl fits.starts.1 (can_i32 6 7 (length (chunk_index_bytes chunk)) _ refl fits.index (can_end 7))))))

-- ---- groups

abbrev pub AllFit : Starts → List PlainChunk → Type 0
AllFit at [] = Unit {0}
AllFit at (chunk ∷ chunks) = FitsChunkAt at chunk × AllFit (behind at chunk) chunks

chunks-can : (columns : List PlainColumn) (at : Starts) (chunks : List PlainChunk) → All IsPlainColumn columns → AllFit at chunks → CanWriteElements 12 (values_of chunk_value (columns_at (map descriptor_of columns) at chunks))
unfolding values_of columns_at
chunks-can [] at chunks all fit = can_none 12
chunks-can (column ∷ columns) at [] all fit = can_none 12
chunks-can (column ∷ columns) at (chunk ∷ chunks) all fit =
    can_one_more 12 _ _ (can_struct_element _ (chunk-can column at chunk (All-head IsPlainColumn column columns all) fit.0)) (chunks-can columns (behind at chunk) chunks (All-tail IsPlainColumn column columns all) fit.1)

-- a group: its chunks fit, and so do its numbers
pub record FitsGroup (columns : List PlainColumn) (at : Starts) (group : PlainGroup) : Type 0 where
  pub chunks : AllFit at group.chunks
  pub few : length (columns_at (map descriptor_of columns) at group.chunks) < 2 ^ 64
  pub rows : group.rows < 2 ^ 63
  pub size : size_of_group (record { columns = columns_at (map descriptor_of columns) at group.chunks; num_rows = group.rows }) < 2 ^ 63

abbrev pub GroupsFit : List PlainColumn → Starts → List PlainGroup → Type 0
GroupsFit columns at [] = Unit {0}
GroupsFit columns at (group ∷ groups) = FitsGroup columns at group × GroupsFit columns (behind_all at group.chunks) groups

groups-can : (columns : List PlainColumn) (at : Starts) (groups : List PlainGroup) → All IsPlainColumn columns → GroupsFit columns at groups → CanWriteElements 12 (values_of group_value (groups_at (map descriptor_of columns) at groups))
unfolding values_of groups_at
groups-can columns at [] all fit = can_none 12
groups-can columns at (group ∷ groups) all fit =
    can_one_more 12 _ _
    (can_struct_element _ (can_list 0 1 12 _ _ refl refl (rw (value_count-values chunk_value (columns_at (map descriptor_of columns) at group.chunks)) fit.0.few) (chunks-can columns at group.chunks all fit.0.chunks)
    (can_i64 1 2 (size_of_group (record { columns = columns_at (map descriptor_of columns) at group.chunks; num_rows = group.rows })) _ refl fit.0.size (can_i64 2 3 group.rows _ refl fit.0.rows (can_end 3)))))
    (groups-can columns (behind_all at group.chunks) groups all fit.1)

count-groups : (columns : List PlainColumn) (at : Starts) (groups : List PlainGroup) → length (groups_at (map descriptor_of columns) at groups) ≡ length groups
unfolding groups_at
count-groups columns at [] = refl
count-groups columns at (group ∷ groups) = ap suc (count-groups columns (behind_all at group.chunks) groups)

count-schema : (columns : List PlainColumn) → value_count (schema_values (map descriptor_of columns)) ≡ suc (length columns)
count-schema columns = ap suc (value_count-values element_value (map descriptor_of columns) ∙ length-map columns descriptor_of)

pub footer-can : (file : PlainFile) → All IsPlainColumn file.columns → length file.columns < 2 ^ 31 → length file.groups < 2 ^ 64 → sum_by (λ (group : PlainGroup). group.rows) file.groups < 2 ^ 63 →
    GroupsFit file.columns (first_starts (chunks_of file.groups)) file.groups → CanWriteFields 0 (footer_fields (meta_data_of_plain file))
unfolding meta_data_of_plain
footer-can file all few groups rows fit =
    can_i32 0 1 1 _ refl (omega arith) (can_list 1 2 12 _ _ refl refl (rw (count-schema file.columns) (omega arith)) (schema-can file.columns all few)
    (can_i64 2 3 (sum_by (λ (group : PlainGroup). group.rows) file.groups) _ refl rows
    (can_list 3 4 12 _ _ refl refl (rw (value_count-values group_value (groups_at (map descriptor_of file.columns) (first_starts (chunks_of file.groups)) file.groups), count-groups file.columns (first_starts (chunks_of file.groups)) file.groups) groups)
    (groups-can file.columns (first_starts (chunks_of file.groups)) file.groups all fit) (can_end 4))))
