-- What a contract sees of an array: its data type and its cells.
use Rattle.std.specs.Prelude.{ℕ, List, map, replicate}
use Rattle.std.specs.Coded.{Coded, coded×, coded_list}
use Rattle.columns_core.specs.declared.data_type.DataType.{DataType}
use Rattle.columns_core.specs.declared.data_type.DataType as type
use Rattle.columns_core.specs.declared.cell.Cell.{Cell, Null}
use Rattle.columns_core.specs.Column.{Column, cell_of}
use Rattle.columns_core.specs.Keyed.{KeyedColumn, named_cells}

abbrev pub Shown : Type 0
Shown = DataType × List Cell

-- how it is stored, from how types and cells are
abbrev pub shown_code : Coded DataType → Coded Cell → Coded Shown
shown_code types cells = coded× types (coded_list cells)

-- of values whose cells are told
abbrev pub shown_by : {T : Type 0} → (T → Cell) → Column T → Shown
shown_by cell column = (column.data_type, map (cell_of cell) column.items)

-- of a dictionary, whatever its keys and entries
abbrev pub shown_keyed : KeyedColumn → Shown
shown_keyed dictionary = (dictionary.data_type, named_cells dictionary)

abbrev pub shown_nulls : ℕ → Shown
shown_nulls count = (type.Null, replicate count Null)
