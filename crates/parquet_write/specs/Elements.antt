-- The parts of an element of the schema, in front of its name and behind it.
use Rattle.std.specs.Prelude.{ℕ, Bool, List, [], ◌++◌, replicate, Option, Some, None}
use Rattle.compact_write.specs.Written.{count_field_bytes, field_header_bytes, i32_kind, struct_kind, truth_kind}
use Rattle.parquet_meta.specs.declared.metadata.ParquetTimeUnit.{ParquetTimeUnit}
use Rattle.parquet_meta.specs.declared.metadata.PrimitiveLogicalType.{PrimitiveLogicalType}
use Rattle.parquet_meta.specs.declared.metadata.PrimitiveLogicalType.TheVariants.{Timestamp}
use Rattle.parquet_meta.specs.declared.metadata.PrimitiveType.{PrimitiveType}
use Rattle.parquet_plain.specs.Structs.{code_number, repetition_number, unit_number, width_of}

-- the repetition behind the length of fixed bytes, where there is one
abbrev pub repetition_bytes : Option ℕ → ℕ → List ℕ
repetition_bytes None repetition = count_field_bytes 1 3 i32_kind repetition
repetition_bytes (Some width) repetition = count_field_bytes 1 2 i32_kind width ++ count_field_bytes 2 3 i32_kind repetition

abbrev pub type_bytes : PrimitiveType → List ℕ
type_bytes type =
    count_field_bytes 0 1 i32_kind (code_number type.physical_type) ++ repetition_bytes (width_of type.physical_type) (repetition_number type.repetition)

-- ends of structs
abbrev ends_bytes : ℕ → List ℕ
ends_bytes count = replicate count 0

abbrev pub timestamp_bytes : ParquetTimeUnit → Bool → List ℕ
timestamp_bytes unit utc =
    field_header_bytes 4 10 struct_kind ++ (field_header_bytes 0 8 struct_kind ++ (field_header_bytes 0 1 (truth_kind utc) ++ (field_header_bytes 1 2 struct_kind
    ++ (field_header_bytes 0 (unit_number unit) struct_kind ++ ends_bytes 4))))

abbrev pub logical_bytes : Option PrimitiveLogicalType → List ℕ
logical_bytes None = []
logical_bytes (Some (Timestamp unit utc)) = timestamp_bytes unit utc
