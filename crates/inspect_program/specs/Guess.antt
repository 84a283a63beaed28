-- The type that a column is read as where nobody says one.
use Rattle.std.specs.Prelude.{ℕ, Bool, true, false, ◌==◌, ◌&&◌, nat_lt, count_by, List, [], ◌∷◌, if◌then◌else◌, is_some, map, Option, Some, None, option_and_then, option_map}
use Rattle.std.specs.Option.{option_map_or}
use Rattle.std.specs.Str.{bytes_eq}
use Rattle.columns_core.specs.declared.data_type.DataType.{DataType}
use Rattle.columns_core.specs.declared.data_type.DataType as type
use Rattle.columns_core.specs.declared.data_type.Field.{Field}
use Rattle.columns_core.specs.declared.data_type.TimeUnit.{TimeUnit}
use Rattle.columns_core.specs.declared.data_type.TimeUnit.TheVariants.{Millisecond, Microsecond, Nanosecond}
use Rattle.parquet_meta.specs.declared.metadata.ColumnDescriptor.{ColumnDescriptor}
use Rattle.parquet_meta.specs.declared.metadata.ParquetTimeUnit.{ParquetTimeUnit}
use Rattle.parquet_meta.specs.declared.metadata.ParquetTimeUnit.TheVariants.{Milliseconds, Microseconds, Nanoseconds}
use Rattle.parquet_meta.specs.declared.metadata.PhysicalType.{PhysicalType}
use Rattle.parquet_meta.specs.declared.metadata.PhysicalType.TheVariants as types
use Rattle.parquet_meta.specs.declared.metadata.PrimitiveLogicalType.{PrimitiveLogicalType}
use Rattle.parquet_meta.specs.declared.metadata.PrimitiveLogicalType.TheVariants.{Timestamp}
use Rattle.parquet_meta.specs.declared.metadata.Repetition.{Repetition}
use Rattle.parquet_meta.specs.declared.metadata.Repetition.TheVariants.{Optional, Required, Repeated}

-- ---- of a column alone

abbrev pub time_unit_of : ParquetTimeUnit → TimeUnit
time_unit_of Milliseconds = Millisecond
time_unit_of Microseconds = Microsecond
time_unit_of Nanoseconds = Nanosecond

-- times are in the unit that the column tells, without a zone
abbrev pub long_type : Option PrimitiveLogicalType → DataType
long_type None = type.Int64
long_type (Some (Timestamp unit utc)) = type.Timestamp (time_unit_of unit) None

abbrev pub type_for : PhysicalType → Option PrimitiveLogicalType → Option DataType
type_for types.Boolean logical = Some type.Boolean
type_for types.Int32 logical = Some type.Int32
type_for types.Int64 logical = Some (long_type logical)
type_for types.Int96 logical = Some (type.Timestamp Nanosecond None)
type_for types.Float logical = None
type_for types.Double logical = None
type_for types.ByteArray logical = Some type.Binary
type_for (types.FixedLenByteArray size) logical = Some (type.FixedSizeBinary size)

-- only a flat column has a guess
abbrev pub guessed_type : ColumnDescriptor → Option DataType
guessed_type column =
    if column.flat then type_for column.primitive_type.physical_type column.primitive_type.logical_type else None

abbrev pub first_name : List (List ℕ) → Option (List ℕ)
first_name [] = None
first_name (name ∷ names) = Some name

abbrev pub is_optional : Repetition → Bool
is_optional Optional = true
is_optional Required = false
is_optional Repeated = false

abbrev pub field_with : ColumnDescriptor → DataType → List ℕ → Field
field_with column data_type name =
    record { name = name; data_type = data_type; is_nullable = is_optional column.primitive_type.repetition }

-- the column as a field
abbrev pub guess : ColumnDescriptor → Option Field
guess column =
    option_and_then (λ data_type. option_map (field_with column data_type) (first_name column.path_in_schema)) (guessed_type column)

-- ---- of a column in its file

-- a path that begins with this name
abbrev pub is_begun : List ℕ → ColumnDescriptor → Bool
is_begun name column = option_map_or (bytes_eq name) (first_name column.path_in_schema) false

-- no other column's path begins with the name that this one's begins with
abbrev pub is_single : List ColumnDescriptor → ColumnDescriptor → Bool
is_single columns column =
    option_map_or (λ name. count_by (is_begun name) columns == 1) (first_name column.path_in_schema) false

-- of each column
abbrev pub are_single : List ColumnDescriptor → List Bool
are_single columns = map (is_single columns) columns

abbrev pub guess_in : List ColumnDescriptor → ColumnDescriptor → Option DataType
guess_in columns column = if is_single columns column then guessed_type column else None

-- ---- of the column of a chunk

abbrev pub has_length : PhysicalType → Bool
has_length (types.FixedLenByteArray size) = nat_lt 0 size
has_length type = true

-- The path of a column in a file has a name, and its fixed bytes have a length.
abbrev pub is_of_file : ColumnDescriptor → Bool
is_of_file column = is_some (first_name column.path_in_schema) && has_length column.primitive_type.physical_type

abbrev pub chunk_type : ColumnDescriptor → Option DataType
chunk_type column = if is_of_file column then guessed_type column else None
