-- What is asked to be put, and how it is refused.
use Rattle.std.specs.Prelude.{◌≡◌, ◌<◌, ℕ, ◌==◌, ◌&&◌, ◌||◌, not, Bool, true, false, List, [], ◌∷◌, length, map, All, IsTrue, IsFalse, Option, Some, None}
use Rattle.std.specs.List.{AllZip, list_all, list_any}
use Rattle.std.specs.Str.{bytes_eq}
use Rattle.columns_core.specs.Array.{cells, column_of, data_type_of}
use Rattle.columns_core.specs.Column.{Column as ColumnOf}
use Rattle.columns_core.specs.ElementType.{fixed_size, is_boolean, stores_i8, stores_i16, stores_i32, stores_i64, stores_u8, stores_u16, stores_u32, stores_u64, stores_i128}
use Rattle.columns_core.specs.Stored.{is_binary, is_sized_text}
use Rattle.columns_core.specs.declared.array.Array.{Array}
use Rattle.columns_core.specs.declared.array.Array.TheVariants as array
use Rattle.columns_core.specs.declared.cell.Cell.{Cell, Null, Bool as Truth, Int, DaysMs, Text, Bytes, Cells'}
use Rattle.columns_core.specs.declared.data_type.DataType.{DataType, FixedSizeBinary}
use Rattle.columns_core.specs.declared.data_type.Field.{Field}
use Rattle.columns_core.specs.declared.error.Error.{Error}
use Rattle.columns_core.specs.declared.error.Error.TheVariants as error
use Rattle.put_program.specs.Put.{ColumnCells, are_written, is_short_file, put_description}
use Rattle.put_program.specs.Stored.{is_written}

-- ---- what fits together

abbrev pub is_fixed_size_binary : DataType → Bool
is_fixed_size_binary (FixedSizeBinary size) = true
is_fixed_size_binary _ = false

-- bytes that are there are so many
abbrev pub is_sized : ℕ → Option (List ℕ) → Bool
is_sized size None = true
is_sized size (Some bytes) = length bytes == size

-- bytes of a fixed size, each that is there of the size of the type
abbrev pub are_sized : ColumnOf (List ℕ) → Bool
are_sized column = is_fixed_size_binary column.data_type && list_all (is_sized (fixed_size column.data_type)) column.items

-- The array is of the kind that stores its type. Every array that a constructor makes is so; of cells of another kind other
-- values would be stored. No array of the last six kinds has a type that is written.
abbrev pub is_own : Array → Bool
is_own (array.Boolean column) = is_boolean column.data_type
is_own (array.Int8 column) = stores_i8 column.data_type
is_own (array.Int16 column) = stores_i16 column.data_type
is_own (array.Int32 column) = stores_i32 column.data_type
is_own (array.Int64 column) = stores_i64 column.data_type
is_own (array.UInt8 column) = stores_u8 column.data_type
is_own (array.UInt16 column) = stores_u16 column.data_type
is_own (array.UInt32 column) = stores_u32 column.data_type
is_own (array.UInt64 column) = stores_u64 column.data_type
is_own (array.Int128 column) = stores_i128 column.data_type
is_own (array.Utf8 column) = is_sized_text false column.data_type
is_own (array.LargeUtf8 column) = is_sized_text true column.data_type
is_own (array.Binary column) = is_binary false column.data_type
is_own (array.LargeBinary column) = is_binary true column.data_type
is_own (array.FixedSizeBinary column) = are_sized column
is_own (array.Null count) = true
is_own (array.DaysMs column) = not (is_written column.data_type)
is_own (array.Dictionary column) = not (is_written column.data_type)
is_own (array.List column) = not (is_written column.data_type)
is_own (array.Struct column) = not (is_written column.data_type)
is_own (array.Map column) = not (is_written column.data_type)

abbrev pub is_null_cell : Cell → Bool
is_null_cell Null = true
is_null_cell (Truth b) = false
is_null_cell (Int n) = false
is_null_cell (DaysMs days milliseconds) = false
is_null_cell (Text bytes) = false
is_null_cell (Bytes bytes) = false
is_null_cell (Cells' shape cells) = false

-- an array of the field's type, with nulls only where it may have them
pub record FitsField (field : Field) (array : Array) : Type 0 where
  pub same : data_type_of array ≡ field.data_type
  pub own : IsTrue (is_own array)
  pub whole : IsTrue (field.is_nullable || not (list_any is_null_cell (cells array)))

abbrev pub is_taken : List ℕ → List Field → Bool
is_taken name fields = list_any (λ (field : Field). bytes_eq field.name name) fields

-- no two of the names are equal
abbrev pub have_distinct_names : List Field → Bool
have_distinct_names [] = true
have_distinct_names (field ∷ fields) = not (is_taken field.name fields) && have_distinct_names fields

-- There is a field, no two fields have one name, pages have rows, and each chunk has an array for each field.
pub record FitsTogether (fields : List Field) (chunks : List (List Array)) (page_rows : ℕ) : Type 0 where
  pub some : 0 < length fields
  pub named : IsTrue (have_distinct_names fields)
  pub paged : 0 < page_rows
  pub each : All (AllZip FitsField fields) chunks

-- ---- what is refused

abbrev pub columns_of_chunks : List (List Array) → List (List ColumnCells)
columns_of_chunks chunks = map (map column_of) chunks

-- It fits together and each type is written, but readers do not take the file.
pub record IsTooLarge (fields : List Field) (chunks : List (List Array)) (page_rows : ℕ) : Type 0 where
  pub fits : FitsTogether fields chunks page_rows
  pub written : IsTrue (are_written fields)
  pub large : IsFalse (is_short_file (put_description fields (columns_of_chunks chunks) page_rows))

-- Each error comes only where its own cause stands, want of memory at any time, and no other comes.
abbrev pub RefusesToPut : List Field → List (List Array) → ℕ → Error → Type 0
RefusesToPut fields chunks page_rows (error.InvalidArgumentError part) = FitsTogether fields chunks page_rows → ⊥
RefusesToPut fields chunks page_rows (error.NotYetImplemented part) =
    FitsTogether fields chunks page_rows × IsFalse (are_written fields)
RefusesToPut fields chunks page_rows error.Overflow = IsTooLarge fields chunks page_rows
RefusesToPut fields chunks page_rows error.OutOfMemory = Unit {0}
RefusesToPut fields chunks page_rows (error.ExternalFormat part) = ⊥
RefusesToPut fields chunks page_rows (error.OutOfSpec part) = ⊥
RefusesToPut fields chunks page_rows error.Io = ⊥
