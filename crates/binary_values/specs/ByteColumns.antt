-- An array of texts or of byte strings as its data type and its list of cells.
use Rattle.std.specs.Prelude.{List, map}
use Rattle.columns_core.specs.Column.{cell_of}
use Rattle.columns_core.specs.declared.cell.Cell.{Cell, Bytes, Text}
use Rattle.columns_core.specs.declared.data_type.DataType.{DataType}
use Rattle.binary_values.specs.declared.into_array.ByteColumn.{ByteColumn}
use Rattle.binary_values.specs.declared.into_array.ByteColumn.TheVariants as column

module _ {O : Type 0} where
  abbrev pub column_type : ByteColumn O → DataType
  column_type (column.Texts array) = array.data_type
  column_type (column.Strings array) = array.data_type

  abbrev pub column_cells : ByteColumn O → List Cell
  column_cells (column.Texts array) = map (cell_of Text) array.items
  column_cells (column.Strings array) = map (cell_of Bytes) array.items
