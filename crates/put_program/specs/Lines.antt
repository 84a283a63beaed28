-- Lines of numbers and nulls, and the file that they ask for.
use Rattle.std.specs.Prelude.{ℕ, ℤ, Bool, pos, neg_ℤ, ◌==◌, List, [], ◌∷◌, codes, length, nat_lt, if◌then◌else◌, true, Option, Some, None, option_and_then, option_map}
use Rattle.std.specs.Str.{bytes_eq}
use Rattle.columns_core.specs.declared.cell.Cell.{Cell, Int, Null}
use Rattle.columns_core.specs.declared.data_type.DataType as type
use Rattle.columns_core.specs.declared.data_type.Field.{Field}
use Rattle.parquet_meta.specs.Lists.{all_of}
use Rattle.parquet_plain.specs.Description.{PlainFile}
use Rattle.pq_common.specs.Spelled.{digits_at_most, fits_signed, number, split_first}
use Rattle.put_program.specs.Put.{ColumnCells, put_description}

-- ---- words

-- the name of the column, and how many rows a page has
pub record Asked : Type 0 where
  pub name : List ℕ
  pub page_rows : ℕ

abbrev pub asked_with : List ℕ → ℕ → Asked
asked_with name page_rows = record { name = name; page_rows = page_rows }

-- the file, a name that is not empty, and a number
abbrev pub asked : List (List ℕ) → Option Asked
asked (file ∷ (name ∷ (page_rows ∷ []))) =
    if nat_lt 0 (length name) then option_map (asked_with name) (number page_rows) else None
asked _ = None

-- ---- lines

-- what stands behind a minus, if there is one
abbrev pub behind_minus : List ℕ → List ℕ
behind_minus [] = []
behind_minus (first ∷ rest) = if first == 45 then rest else first ∷ rest

-- an optional minus and 1 to 19 digits
abbrev pub any_line_number : List ℕ → Option ℤ
any_line_number [] = None
any_line_number (first ∷ rest) =
    if first == 45 then option_map (λ n. neg_ℤ (pos n)) (digits_at_most 19 rest)
    else option_map pos (digits_at_most 19 (first ∷ rest))

-- that stand for a number of 64 bits
abbrev pub line_number : List ℕ → Option ℤ
line_number line = option_and_then (fits_signed 64) (any_line_number line)

abbrev pub line_cell : List ℕ → Option Cell
line_cell line = if bytes_eq line (codes "null") then Some Null else option_map Int (line_number line)

-- one more byte in front of the first line, if there is one
abbrev pub with_front : ℕ → List (List ℕ) → Option (List (List ℕ))
with_front byte [] = None
with_front byte (line ∷ lines) = Some ((byte ∷ line) ∷ lines)

-- The lines of a text, each of them ended. "" gives no line, "\n" one empty line and "5\n" one line; "5" and
-- "5\n6" give None, since their last line is not ended.
abbrev pub lines_told : List ℕ → Option (List (List ℕ))
lines_told [] = Some []
lines_told (byte ∷ text) =
    if byte == 10 then option_map (λ lines. [] ∷ lines) (lines_told text)
    else option_and_then (with_front byte) (lines_told text)

abbrev pub is_line_end : ℕ → Bool
is_line_end byte = byte == 10

-- the cell of the first line, and the text behind its end
abbrev pub first_cell : List ℕ → Option (Cell × List ℕ)
first_cell text =
    option_and_then (λ (parts : List ℕ × List ℕ). option_map (λ cell. (cell, parts.1)) (line_cell parts.0))
    (split_first is_line_end text)

-- the cells that a text tells, if each of its lines is spelled and ended
abbrev pub cells_of_text : List ℕ → Option (List Cell)
cells_of_text text = option_and_then (all_of line_cell) (lines_told text)

-- ---- the file

abbrev pub field_of : List ℕ → Field
field_of name = record { name = name; data_type = type.Int64; is_nullable = true }

-- one group of all lines, and none where there is no line
abbrev pub groups_of_cells : List Cell → List (List ColumnCells)
groups_of_cells [] = []
groups_of_cells (cell ∷ cells) = ((type.Int64, cell ∷ cells) ∷ []) ∷ []

abbrev pub file_of_lines : Asked → List Cell → PlainFile
file_of_lines asked cells = put_description (field_of asked.name ∷ []) (groups_of_cells cells) asked.page_rows
