-- How many bytes the footer of a plain file has at most.
use Rattle.std.proofs.Common.{ℕ, ◌+◌, ◌*◌, ◌≤◌, pos, List, [], ◌∷◌, Option, Some, None, arith, length, length-append}
use Rattle.std.specs.Prelude.{All, IfSome}
use Rattle.compact_write.specs.Fields.{values_of}
use Rattle.compact_write.specs.Written.{element_bytes, elements_bytes, field_header_bytes, fields_bytes, struct_kind, value_bytes, value_count}
use Rattle.parquet_thrift.specs.Values.{binary}
use Rattle.parquet_meta.specs.declared.metadata.ColumnChunkMetaData.{ColumnChunkMetaData}
use Rattle.parquet_meta.specs.declared.metadata.FileMetaData.{FileMetaData}
use Rattle.parquet_meta.specs.declared.metadata.Repetition.{Repetition}
use Rattle.parquet_meta.specs.declared.metadata.Repetition.TheVariants.{Required, Optional, Repeated}
use Rattle.parquet_meta.specs.declared.metadata.RowGroupMetaData.{RowGroupMetaData}
use Rattle.parquet_plain.specs.Columns.{Written}
use Rattle.parquet_plain.specs.Description.{PlainChunk, chunk_bytes, descriptor_of, rows_of_chunk, statistics_from}
use Rattle.parquet_plain.specs.File.{Starts, chunk_index_bytes, chunk_locations_bytes, column_at}
use Rattle.parquet_plain.specs.Structs.{chunk_value, code_number, element_value, encodings_of, group_value, footer_bytes, root_name, schema_values, size_of_group, statistics_fields}
use Rattle.parquet_plain.specs.declared.ends.Ends.{Ends}
use Rattle.sample_laws.proofs.SizeLaws.{IsShortEnd, binary-short, elements-short, list_header-short, signed-short}

-- both ends are short, where there are any
abbrev pub HasShortEnds : Option Ends → Type 0
HasShortEnds ends = IfSome ends (λ own. IsShortEnd own.least × IsShortEnd own.greatest)

encodings-short : (r : Repetition) → length (elements_bytes (encodings_of r)) ≤ 20
unfolding elements_bytes element_bytes
encodings-short Required = simp length-append (omega (arith, signed-short (pos 0)))
encodings-short Optional = simp length-append (omega (arith, signed-short (pos 0), signed-short (pos 3)))
encodings-short Repeated = simp length-append (omega (arith, signed-short (pos 0), signed-short (pos 3)))

statistics-short : (nulls : ℕ) (ends : Option Ends) → HasShortEnds ends → length (fields_bytes 0 (statistics_fields (statistics_from nulls ends))) ≤ 80
unfolding fields_bytes value_bytes field_header_bytes
statistics-short nulls None short = simp length-append (omega (arith, signed-short (pos nulls)))
statistics-short nulls (Some ends) short = simp length-append (omega (arith, signed-short (pos nulls), binary-short ends.greatest, binary-short ends.least, short.0, short.1))

path-short : (name : List ℕ) → length (elements_bytes (values_of binary (name ∷ []))) ≤ 10 + length name
unfolding values_of elements_bytes element_bytes
path-short name = simp length-append (omega (arith, binary-short name))

-- a chunk in the footer
pub chunk_value-short : (to : Written) (at : Starts) (chunk : PlainChunk) → length to.column.name ≤ 10 → HasShortEnds chunk.ends → length (element_bytes (chunk_value (column_at (descriptor_of to.column) at chunk))) ≤ 300
unfolding element_bytes fields_bytes value_bytes field_header_bytes
chunk_value-short to at chunk name short =
    simp length-append (
    omega (
      arith,
      signed-short (pos at.chunk),
      signed-short (pos (code_number to.column.type.physical_type)),
      list_header-short 5 (value_count (encodings_of to.column.type.repetition)),
      encodings-short to.column.type.repetition,
      list_header-short 8 (value_count (values_of binary (to.column.name ∷ []))),
      path-short to.column.name,
      signed-short (pos 0),
      signed-short (pos (rows_of_chunk chunk)),
      signed-short (pos (length (chunk_bytes chunk))),
      statistics-short chunk.nulls chunk.ends short,
      signed-short (pos at.locations),
      signed-short (pos (length (chunk_locations_bytes at.chunk chunk))),
      signed-short (pos at.index),
      signed-short (pos (length (chunk_index_bytes chunk))),
    ))

-- a group of three chunks
abbrev pub IsShortChunk : ColumnChunkMetaData → Type 0
IsShortChunk column = length (element_bytes (chunk_value column)) ≤ 300

pub group_value-short : (group : RowGroupMetaData) → All IsShortChunk group.columns → length group.columns ≤ 3 → length (element_bytes (group_value group)) ≤ 1000
unfolding element_bytes fields_bytes value_bytes field_header_bytes
group_value-short group all few =
    simp length-append (
    omega (
      arith,
      list_header-short struct_kind (value_count (values_of chunk_value group.columns)),
      elements-short IsShortChunk chunk_value 300 group.columns (λ column is. is) all,
      signed-short (pos (size_of_group group)),
      signed-short (pos group.num_rows),
    ))

abbrev pub IsShortGroup : RowGroupMetaData → Type 0
IsShortGroup group = length (element_bytes (group_value group)) ≤ 1000

pub footer-short : (file : FileMetaData) → length (elements_bytes (values_of element_value file.columns)) ≤ 200 → All IsShortGroup file.row_groups → length (footer_bytes file) ≤ 300 + 1000 * length file.row_groups
unfolding footer_bytes fields_bytes value_bytes field_header_bytes
footer-short file schema all =
    simp length-append (
    omega (
      arith,
      signed-short (pos 1),
      list_header-short struct_kind (value_count (schema_values file.columns)),
      binary-short root_name,
      signed-short (pos (length file.columns)),
      schema,
      signed-short (pos file.num_rows),
      list_header-short struct_kind (value_count (values_of group_value file.row_groups)),
      elements-short IsShortGroup group_value 1000 file.row_groups (λ group is. is) all,
    ))
