-- An array of any type as its data type and its list of cells.
use Rattle.std.specs.Prelude.{ℕ, pos, List, map, replicate, Option}
use Rattle.columns_core.specs.declared.data_type.DataType.{DataType}
use Rattle.columns_core.specs.declared.data_type.DataType as type
use Rattle.columns_core.specs.declared.cell.Cell.{Cell, Null, Bool, Int, Text, Bytes, Cells}
use Rattle.columns_core.specs.declared.array.Array.{Array}
use Rattle.columns_core.specs.declared.array.Array.TheVariants as array
use Rattle.columns_core.specs.Column.{cell_of}
use Rattle.columns_core.specs.Keyed.{named_cells}
use Rattle.columns_core.specs.ElementType.{days_ms_cell}

-- the cell of a number of an unsigned type
abbrev pub natural : Option ℕ → Cell
natural item = cell_of (λ n. Int (pos n)) item

abbrev pub data_type_of : Array → DataType
data_type_of (array.Null count) = type.Null
data_type_of (array.Boolean column) = column.data_type
data_type_of (array.Int8 column) = column.data_type
data_type_of (array.Int16 column) = column.data_type
data_type_of (array.Int32 column) = column.data_type
data_type_of (array.Int64 column) = column.data_type
data_type_of (array.UInt8 column) = column.data_type
data_type_of (array.UInt16 column) = column.data_type
data_type_of (array.UInt32 column) = column.data_type
data_type_of (array.UInt64 column) = column.data_type
data_type_of (array.Int128 column) = column.data_type
data_type_of (array.DaysMs column) = column.data_type
data_type_of (array.Utf8 column) = column.data_type
data_type_of (array.LargeUtf8 column) = column.data_type
data_type_of (array.Binary column) = column.data_type
data_type_of (array.LargeBinary column) = column.data_type
data_type_of (array.FixedSizeBinary column) = column.data_type
data_type_of (array.Dictionary column) = column.data_type
data_type_of (array.List column) = column.data_type
data_type_of (array.Struct column) = column.data_type
data_type_of (array.Map column) = column.data_type

abbrev pub cells : Array → List Cell
cells (array.Null count) = replicate count Null
cells (array.Boolean column) = map (cell_of Bool) column.items
cells (array.Int8 column) = map (cell_of Int) column.items
cells (array.Int16 column) = map (cell_of Int) column.items
cells (array.Int32 column) = map (cell_of Int) column.items
cells (array.Int64 column) = map (cell_of Int) column.items
cells (array.UInt8 column) = map natural column.items
cells (array.UInt16 column) = map natural column.items
cells (array.UInt32 column) = map natural column.items
cells (array.UInt64 column) = map natural column.items
cells (array.Int128 column) = map (cell_of Int) column.items
cells (array.DaysMs column) = map (cell_of days_ms_cell) column.items
cells (array.Utf8 column) = map (cell_of Text) column.items
cells (array.LargeUtf8 column) = map (cell_of Text) column.items
cells (array.Binary column) = map (cell_of Bytes) column.items
cells (array.LargeBinary column) = map (cell_of Bytes) column.items
cells (array.FixedSizeBinary column) = map (cell_of Bytes) column.items
cells (array.Dictionary column) = named_cells column
cells (array.List column) = map (cell_of Cells) column.items
cells (array.Struct column) = map (cell_of Cells) column.items
cells (array.Map column) = map (cell_of Cells) column.items

-- what a contract sees of an array
abbrev pub column_of : Array → DataType × List Cell
column_of array = (data_type_of array, cells array)
