-- Texts or byte strings that are kept with their marks.
use Rattle.std.specs.Prelude.{◌≡◌, ℕ, Bool, true, false, IsTrue, IsUtf8, All, List, [], ◌∷◌, ◌++◌, length, map, sum_by, Option, Some, None, if◌then◌else◌}
use Rattle.columns_core.specs.Column.{cell_of, where_set}
use Rattle.columns_core.specs.Stored.{is_binary, is_sized_text as is_text_type}
use Rattle.columns_core.specs.declared.cell.Cell.{Cell, Bytes, Text}
use Rattle.columns_core.specs.declared.data_type.DataType.{DataType}
use Rattle.page_decoding.specs.Bytes.{cell_bytes}

abbrev pub string_cell : Bool → List ℕ → Cell
string_cell true = Text
string_cell false = Bytes

-- the types of their arrays, by offsets of 64 bits or of 32
abbrev pub stores_strings : Bool → Bool → DataType → Bool
stores_strings true is_large data_type = is_text_type is_large data_type
stores_strings false is_large data_type = is_binary is_large data_type

-- Each has a mark, texts are UTF-8, and those that are null are empty, so that all have the bytes of their cells.
pub record AreKept (is_text : Bool) (strings : List (List ℕ)) (marks : List Bool) : Type 0 where
  pub marked : length marks ≡ length strings
  pub judged : IsTrue is_text → All IsUtf8 strings
  pub counted : sum_by cell_bytes (map (cell_of (string_cell is_text)) (where_set strings marks)) ≡ sum_by length strings

-- the cells of strings and nulls, and of one more
abbrev pub cells_with : Bool × List (Option (List ℕ)) → Bool → List ℕ → List Cell
cells_with held there string =
    let to_cell = cell_of (string_cell held.0) in
    map to_cell held.1 ++ to_cell (if there then Some string else None) ∷ []
