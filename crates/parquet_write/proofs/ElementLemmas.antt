-- An element of the schema is its type, its name and its logical type.
use Rattle.std.proofs.Common.{◌≡◌, ℕ, pos, List, [], ◌∷◌, ◌++◌, Option, Some, None, append_assoc}
use Rattle.compact_write.specs.Fields.{i32_field, bytes_field, where_there}
use Rattle.compact_write.specs.Written.{binary_bytes, count_field_bytes, field_header_bytes, i32_kind, value_bytes, element_bytes, elements_bytes, fields_bytes}
use Rattle.parquet_thrift.specs.Values.{no_fields}
use Rattle.parquet_meta.specs.declared.metadata.ColumnDescriptor.{ColumnDescriptor}
use Rattle.parquet_meta.specs.declared.metadata.PrimitiveLogicalType.{PrimitiveLogicalType}
use Rattle.parquet_meta.specs.declared.metadata.PrimitiveLogicalType.TheVariants.{Timestamp}
use Rattle.parquet_plain.specs.Structs.{code_number, element_value, logical_field, repetition_number, single_name, width_field, width_of}
use Rattle.parquet_write.specs.Elements.{logical_bytes, repetition_bytes, type_bytes}

element-with : (code : ℕ) (width : Option ℕ) (repetition : ℕ) (name : List ℕ) (l : Option PrimitiveLogicalType) →
    fields_bytes 0 (i32_field 1 (pos code) (where_there width_field width (i32_field 3 (pos repetition) (bytes_field 4 name (where_there logical_field l no_fields)))))
    ≡ (count_field_bytes 0 1 i32_kind code ++ repetition_bytes width repetition) ++ (field_header_bytes 3 4 8 ++ (binary_bytes name ++ (logical_bytes l ++ 0 ∷ [])))
unfolding value_bytes element_bytes elements_bytes fields_bytes
element-with code None repetition name None = simp append_assoc
element-with code (Some width) repetition name None = simp append_assoc
element-with code None repetition name (Some (Timestamp unit utc)) = simp append_assoc
element-with code (Some width) repetition name (Some (Timestamp unit utc)) = simp append_assoc

pub element-is : (column : ColumnDescriptor) → element_bytes (element_value column) ≡
    type_bytes column.primitive_type ++ (field_header_bytes 3 4 8 ++ (binary_bytes (single_name column.path_in_schema) ++ (logical_bytes column.primitive_type.logical_type ++ 0 ∷ [])))
unfolding element_bytes
element-is column =
    element-with (code_number column.primitive_type.physical_type) (width_of column.primitive_type.physical_type) (repetition_number column.primitive_type.repetition)
    (single_name column.path_in_schema) column.primitive_type.logical_type
