-- Rows as lines of text: the cells of all columns, with a tab between each two of them.
use Rattle.std.specs.Prelude.{ℕ, List, [], ◌∷◌, ◌++◌, flat_map, slice_get}
use Rattle.std.specs.List.{join_by, range_with_len}
use Rattle.std.specs.Option.{option_map_or}
use Rattle.columns_core.specs.declared.cell.Cell.{Cell}
use Rattle.columns_core.specs.declared.data_type.DataType.{DataType}
use Rattle.pq_common.specs.CellText.{cell_text}

abbrev pub line : List ℕ → List ℕ
line text = text ++ 10 ∷ []

-- the text of the cell in a row, if there is one
abbrev pub text_in : ℕ → List Cell → List ℕ
text_in row cells = option_map_or cell_text (slice_get cells row) []

-- the cell of a column in a row
abbrev pub cell_at : ℕ → DataType × List Cell → List ℕ
cell_at row column = text_in row column.1

abbrev pub row_line : List (DataType × List Cell) → ℕ → List ℕ
row_line columns row = line (join_by (cell_at row) (9 ∷ []) columns)

-- the line of a row of one column, and those of so many rows from one on
abbrev pub line_of : DataType × List Cell → ℕ → List ℕ
line_of column row = row_line (column ∷ []) row

abbrev pub lines_of : DataType × List Cell → ℕ → ℕ → List ℕ
lines_of column from count = flat_map (line_of column) (range_with_len from count)
