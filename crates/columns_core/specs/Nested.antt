-- List, struct and map types, and the cells of their arrays.
use Rattle.std.specs.Prelude.{ℕ, Bool, true, false, List, [], ◌∷◌, length, map, get_or, Option, Some, None}
use Rattle.std.specs.List.{range_with_len}
use Rattle.columns_core.specs.Types.{Layer}
use Rattle.columns_core.specs.declared.cell.Cell.{Cell, Null}
use Rattle.columns_core.specs.declared.data_type.DataType.{DataType, out-DataType}
use Rattle.columns_core.specs.declared.data_type.DataType.TheOpen.{DataType-F}
use Rattle.columns_core.specs.declared.data_type.Field.{Field}

-- ---- types

-- of a list type, with places of 32 bits or of 64, the type of the items
abbrev pub list_type_at : Bool → Layer → Option DataType
list_type_at false (DataType-F.List field) = Some field.data_type
list_type_at true (DataType-F.LargeList field) = Some field.data_type
list_type_at is_large _ = None

abbrev pub list_type : Bool → DataType → Option DataType
list_type is_large data_type = list_type_at is_large (out-DataType data_type)

-- of a map type the type of the pairs
abbrev pub map_type_at : Layer → Option DataType
map_type_at (DataType-F.Map field is_sorted) = Some field.data_type
map_type_at _ = None

abbrev pub map_type : DataType → Option DataType
map_type data_type = map_type_at (out-DataType data_type)

-- of either
abbrev pub joined_type_at : Layer → Option DataType
joined_type_at (DataType-F.List field) = Some field.data_type
joined_type_at (DataType-F.LargeList field) = Some field.data_type
joined_type_at (DataType-F.Map field is_sorted) = Some field.data_type
joined_type_at _ = None

abbrev pub joined_type : DataType → Option DataType
joined_type data_type = joined_type_at (out-DataType data_type)

-- of a struct type the types of its fields
abbrev pub field_types_at : Layer → Option (List DataType)
field_types_at (DataType-F.Struct fields) = Some (map (λ (field : Field). field.data_type) fields)
field_types_at _ = None

abbrev pub field_types : DataType → Option (List DataType)
field_types data_type = field_types_at (out-DataType data_type)

-- ---- the cells of a struct

-- the cell of each column at a place
abbrev pub row_at : List (List Cell) → ℕ → List Cell
row_at columns i = map (λ column. get_or column i Null) columns

-- as many as the first column has
abbrev pub first_length : List (List Cell) → ℕ
first_length [] = 0
first_length (column ∷ columns) = length column

abbrev pub rows : List (List Cell) → List (List Cell)
rows columns = map (row_at columns) (range_with_len 0 (first_length columns))
