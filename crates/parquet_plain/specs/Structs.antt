-- The structs of a plain file, from what a reader makes of them. Ids that this project's readers do not know are written too.
use Rattle.parquet_meta.specs.Records.{StoredIndex}
use Rattle.std.specs.Prelude.{ℕ, ℤ, pos, List, [], ◌∷◌, length, sum_by, Option, Some, None}
use Rattle.compact_write.specs.Written.{fields_bytes, struct_kind, truth_kind}
use Rattle.parquet_thrift.specs.Values.{Value, truth, number, binary, struct, Values, no_values, values, Fields, no_fields, fields}
use Rattle.parquet_meta.specs.declared.metadata.ColumnChunkMetaData.{ColumnChunkMetaData}
use Rattle.parquet_meta.specs.declared.metadata.ColumnDescriptor.{ColumnDescriptor}
use Rattle.parquet_meta.specs.declared.metadata.FileMetaData.{FileMetaData}
use Rattle.parquet_meta.specs.declared.metadata.PageLocation.{PageLocation}
use Rattle.parquet_meta.specs.declared.metadata.ParquetTimeUnit.{ParquetTimeUnit}
use Rattle.parquet_meta.specs.declared.metadata.ParquetTimeUnit.TheVariants.{Milliseconds, Microseconds, Nanoseconds}
use Rattle.parquet_meta.specs.declared.metadata.PhysicalType.{PhysicalType}
use Rattle.parquet_meta.specs.declared.metadata.PhysicalType.TheVariants as types
use Rattle.parquet_meta.specs.declared.metadata.Place.{Place}
use Rattle.parquet_meta.specs.declared.metadata.PrimitiveLogicalType.{PrimitiveLogicalType}
use Rattle.parquet_meta.specs.declared.metadata.PrimitiveLogicalType.TheVariants.{Timestamp}
use Rattle.parquet_meta.specs.declared.metadata.Repetition.{Repetition}
use Rattle.parquet_meta.specs.declared.metadata.Repetition.TheVariants.{Required, Optional, Repeated}
use Rattle.parquet_meta.specs.declared.metadata.RowGroupMetaData.{RowGroupMetaData}
use Rattle.parquet_meta.specs.declared.metadata.StatisticsBytes.{StatisticsBytes}
use Rattle.compact_write.specs.Fields.{i32_field, i64_field, bytes_field, list_field, struct_field, where_there, values_of}

-- ---- pages

-- a plain data page of so many rows with a body of so many bytes; its levels are hybrid
abbrev pub page_header_fields : ℕ → ℕ → Fields
page_header_fields rows size =
    i32_field 1 (pos 0) (i32_field 2 (pos size) (i32_field 3 (pos size)
    (struct_field 5 (i32_field 1 (pos rows) (i32_field 2 (pos 0) (i32_field 3 (pos 3) (i32_field 4 (pos 3) no_fields)))) no_fields)))

unfoldable pub page_header_bytes : ℕ → ℕ → List ℕ
page_header_bytes rows size = fields_bytes 0 (page_header_fields rows size)

-- ---- indexes

abbrev pub location_value : PageLocation → Value
location_value page = struct (i64_field 1 page.offset (i32_field 2 page.compressed_page_size (i64_field 3 page.first_row_index no_fields)))

abbrev pub offset_index_fields : List PageLocation → Fields
offset_index_fields pages = list_field 1 struct_kind (values_of location_value pages) no_fields

unfoldable pub offset_index_bytes : List PageLocation → List ℕ
offset_index_bytes pages = fields_bytes 0 (offset_index_fields pages)

abbrev pub counts_field : List ℤ → Fields → Fields
counts_field counts more = list_field 5 6 (values_of number counts) more

-- 4 is the order of the ends, which is not told
abbrev pub column_index_fields : StoredIndex → Fields
column_index_fields index =
    list_field 1 1 (values_of truth index.null_pages) (list_field 2 8 (values_of binary index.min_values) (list_field 3 8 (values_of binary index.max_values)
    (i32_field 4 (pos 0) (where_there counts_field index.null_counts no_fields))))

unfoldable pub column_index_bytes : StoredIndex → List ℕ
column_index_bytes index = fields_bytes 0 (column_index_fields index)

-- ---- the schema

abbrev pub code_number : PhysicalType → ℕ
code_number types.Boolean = 0
code_number types.Int32 = 1
code_number types.Int64 = 2
code_number types.Int96 = 3
code_number types.Float = 4
code_number types.Double = 5
code_number types.ByteArray = 6
code_number (types.FixedLenByteArray width) = 7

abbrev pub width_of : PhysicalType → Option ℕ
width_of (types.FixedLenByteArray width) = Some width
width_of _ = None

abbrev pub repetition_number : Repetition → ℕ
repetition_number Required = 0
repetition_number Optional = 1
repetition_number Repeated = 2

abbrev pub unit_number : ParquetTimeUnit → ℕ
unit_number Milliseconds = 1
unit_number Microseconds = 2
unit_number Nanoseconds = 3

abbrev pub logical_field : PrimitiveLogicalType → Fields → Fields
logical_field (Timestamp unit utc) more =
    struct_field 10 (struct_field 8 (fields (pos 1) (truth_kind utc) (truth utc) (struct_field 2 (struct_field (unit_number unit) no_fields no_fields) no_fields)) no_fields) more

-- a path has one name
abbrev pub single_name : List (List ℕ) → List ℕ
single_name (name ∷ names) = name
single_name [] = []

abbrev pub width_field : ℕ → Fields → Fields
width_field width more = i32_field 2 (pos width) more

abbrev pub element_fields : ColumnDescriptor → Fields
element_fields column =
    let type = column.primitive_type in
    i32_field 1 (pos (code_number type.physical_type)) (where_there width_field (width_of type.physical_type)
    (i32_field 3 (pos (repetition_number type.repetition)) (bytes_field 4 (single_name column.path_in_schema) (where_there logical_field type.logical_type no_fields))))

abbrev pub element_value : ColumnDescriptor → Value
element_value column = struct (element_fields column)

-- `schema`
abbrev pub root_name : List ℕ
root_name = 115 ∷ 99 ∷ 104 ∷ 101 ∷ 109 ∷ 97 ∷ []

abbrev pub root_value : ℕ → Value
root_value columns = struct (bytes_field 4 root_name (i32_field 5 (pos columns) no_fields))

abbrev pub schema_values : List ColumnDescriptor → Values
schema_values columns = values (root_value (length columns)) (values_of element_value columns)

-- ---- the footer

abbrev pub bytes_or_less : ℕ → Option (List ℕ) → Fields → Fields
bytes_or_less id end more = where_there (bytes_field id) end more

abbrev pub statistics_fields : StatisticsBytes → Fields
statistics_fields s = where_there (i64_field 3) s.null_count (bytes_or_less 5 s.max_value (bytes_or_less 6 s.min_value no_fields))

abbrev pub chunk_statistics_field : StatisticsBytes → Fields → Fields
chunk_statistics_field s more = struct_field 12 (statistics_fields s) more

-- 0 of the values; a column that has levels has them by 3
abbrev pub encodings_of : Repetition → Values
encodings_of Required = values (number (pos 0)) no_values
encodings_of Optional = values (number (pos 0)) (values (number (pos 3)) no_values)
encodings_of Repeated = values (number (pos 0)) (values (number (pos 3)) no_values)

abbrev pub meta_data_fields : ColumnChunkMetaData → Fields
meta_data_fields column =
    let type = column.descriptor.primitive_type in
    i32_field 1 (pos (code_number type.physical_type)) (list_field 2 5 (encodings_of type.repetition)
    (list_field 3 8 (values_of binary column.descriptor.path_in_schema) (i32_field 4 column.codec (i64_field 5 (pos column.num_values)
    (i64_field 6 (pos column.total_compressed_size) (i64_field 7 (pos column.total_compressed_size) (i64_field 9 (pos column.data_page_offset)
    (where_there chunk_statistics_field column.statistics_bytes no_fields))))))))

-- a place and its length
abbrev pub place_field : ℕ → ℕ → Place → Fields → Fields
place_field at long place more = i64_field at (pos place.offset) (i32_field long (pos place.length) more)

abbrev pub chunk_fields : ColumnChunkMetaData → Fields
chunk_fields column =
    i64_field 2 (pos column.data_page_offset) (struct_field 3 (meta_data_fields column) (where_there (place_field 4 5) column.offset_index (where_there (place_field 6 7) column.column_index no_fields)))

abbrev pub chunk_value : ColumnChunkMetaData → Value
chunk_value column = struct (chunk_fields column)

abbrev pub size_of_group : RowGroupMetaData → ℕ
size_of_group group = sum_by (λ column. column.total_compressed_size) group.columns

abbrev pub group_fields : RowGroupMetaData → Fields
group_fields group = list_field 1 struct_kind (values_of chunk_value group.columns) (i64_field 2 (pos (size_of_group group)) (i64_field 3 (pos group.num_rows) no_fields))

abbrev pub group_value : RowGroupMetaData → Value
group_value group = struct (group_fields group)

-- 1 is the version of the format
abbrev pub footer_fields : FileMetaData → Fields
footer_fields file =
    i32_field 1 (pos 1) (list_field 2 struct_kind (schema_values file.columns) (i64_field 3 (pos file.num_rows) (list_field 4 struct_kind (values_of group_value file.row_groups) no_fields)))

unfoldable pub footer_bytes : FileMetaData → List ℕ
footer_bytes file = fields_bytes 0 (footer_fields file)
