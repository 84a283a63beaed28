-- What may be asked of a file.
use Rattle.std.specs.Prelude.{ℕ, int_le, Bool, true, false, not, ◌&&◌, nat_lt, List, [], ◌∷◌, length, find, Option, Some, None}
use Rattle.std.specs.List.{list_all, list_any}
use Rattle.std.specs.Option.{option_map_or}
use Rattle.std.specs.Str.{bytes_eq}
use Rattle.columns_core.specs.Types.{value_type, number_range, is_text, takes_bytes, is_ordered}
use Rattle.columns_core.specs.declared.data_type.DataType.{DataType}
use Rattle.columns_core.specs.declared.data_type.Field.{Field}
use Rattle.parquet_meta.specs.declared.metadata.ColumnDescriptor.{ColumnDescriptor}
use Rattle.parquet_meta.specs.declared.metadata.FileMetaData.{FileMetaData}
use Rattle.parquet_scan.specs.declared.bound.Scalar.{Scalar}
use Rattle.parquet_scan.specs.declared.bound.Scalar.TheVariants as scalar
use Rattle.parquet_scan.specs.declared.bound.Bound.{Bound}

pub record Request : Type 0 where
  pub fields : List Field
  pub bounds : List Bound
  pub chunk_size : Option ℕ
  pub limit : Option ℕ

-- ---- names

abbrev pub begins_a_path : List ℕ → List (List ℕ) → Bool
begins_a_path name [] = false
begins_a_path name (first ∷ rest) = bytes_eq name first

-- a name begins the path of a column
abbrev pub begins : List ℕ → ColumnDescriptor → Bool
begins name column = begins_a_path name column.path_in_schema

-- no name comes twice
abbrev pub are_distinct : {X : Type 0} → (X → List ℕ) → List X → Bool
are_distinct name [] = true
are_distinct name (x ∷ xs) = not (list_any (λ y. bytes_eq (name x) (name y)) xs) && are_distinct name xs

abbrev pub name_of_field : Field → List ℕ
name_of_field field = field.name

abbrev pub bounded_name : Bound → List ℕ
bounded_name bound = bound.field

-- ---- values of a bound

-- the type that a field's bounds and statistics have: of a dictionary that of its entries
abbrev pub bound_type : Field → DataType
bound_type field = value_type field.data_type

-- a bound's value is one of an ordered type
abbrev pub is_value_of : DataType → Scalar → Bool
is_value_of data_type (scalar.Int n) = option_map_or (λ range. int_le range.0 n && int_le n range.1) (number_range data_type) false
is_value_of data_type (scalar.Text text) = is_text data_type
is_value_of data_type (scalar.Bytes bytes) = takes_bytes data_type (length bytes)

-- ---- legal requests

-- the type is ordered, and the bound's values are of it
abbrev pub are_values_of : DataType → Bound → Bool
are_values_of data_type bound = is_ordered data_type && option_map_or (is_value_of data_type) bound.low true && option_map_or (is_value_of data_type) bound.high true

-- the first field that a bound names
abbrev pub bounded_field : List Field → Bound → Option Field
bounded_field fields bound = find (λ (field : Field). bytes_eq bound.field field.name) fields

-- The bound's field is requested, and its values are of the field's type.
abbrev pub is_legal_bound_of : List Field → Bound → Bool
is_legal_bound_of fields bound = option_map_or (λ (field : Field). are_values_of (bound_type field) bound) (bounded_field fields bound) false

-- Where a file has no metadata, what is said of its columns counts as met.
abbrev pub names_columns : Request → Option FileMetaData → Bool
names_columns request None = true
names_columns request (Some metadata) = list_all (λ (field : Field). list_any (begins field.name) metadata.columns) request.fields

-- At least one field, each of them a column's and no name twice; chunks that are not empty; at most one
-- bound for a field, with values of its type.
abbrev pub is_legal : Request → Option FileMetaData → Bool
is_legal request metadata =
    nat_lt 0 (length request.fields) && names_columns request metadata && are_distinct name_of_field request.fields
    && option_map_or (nat_lt 0) request.chunk_size true
    && list_all (is_legal_bound_of request.fields) request.bounds && are_distinct bounded_name request.bounds
