-- Byte strings as cells of a column, and what stored ones give.
use Rattle.std.specs.Prelude.{◌≡◌, ◌⊎◌, ◌+◌, ◌<◌, ℕ, Bool, true, false, IsTrue, IsUtf8, All, List, [], length, map, sum_by, Option, Some, unwrap_or, option_map}
use Rattle.columns_core.specs.Causes.{Overflow, cause_of}
use Rattle.columns_core.specs.declared.cell.Cell.{Cell, Bytes, Text}
use Rattle.columns_core.specs.declared.data_type.DataType.{DataType}
use Rattle.columns_core.specs.declared.error.Error.{Error}
use Rattle.columns_core.specs.Stored.{is_binary, is_sized_text as is_text_type}
use Rattle.parquet_encoding.specs.Places.{bytes_in}
use Rattle.parquet_page.specs.Stored.{Octets}
use Rattle.page_decoding.specs.Bytes.{row_bytes}
use Rattle.page_decoding.specs.Outcome.{Outcome, IsCausedBy}
use Rattle.flat_values.specs.Conversion.{Conversion, AsText, Keep}
use Rattle.flat_values.specs.Outcomes.{stored_outcome}

abbrev pub byte_cell : Bool → List ℕ → Cell
byte_cell true = Text
byte_cell false = Bytes

abbrev pub byte_rule : Bool → Conversion
byte_rule true = AsText
byte_rule false = Keep

-- the types of their arrays, by offsets of 64 bits or of 32
abbrev pub stores_bytes : Bool → Bool → DataType → Bool
stores_bytes true is_large data_type = is_text_type is_large data_type
stores_bytes false is_large data_type = is_binary is_large data_type

-- texts are UTF-8
abbrev pub AreJudged : Bool → List (List ℕ) → Type 0
AreJudged is_text strings = IsTrue is_text → All IsUtf8 strings

-- the cells of a dictionary's entries
abbrev pub byte_entries : Bool → Option (List (List ℕ)) → Option (List Cell)
byte_entries is_text dict = option_map (map (byte_cell is_text)) dict

-- what the byte strings that stand at these places give
abbrev pub stored_outcomes : Bool → List ℕ → Option (List (ℕ × ℕ)) → List Outcome
stored_outcomes is_text bytes places = map (λ place. stored_outcome (byte_rule is_text) (Octets (bytes_in bytes place))) (unwrap_or places [])

-- An error is want of memory, or tells of something that is wrong with these rows, or of the sum of their bytes and those that are held.
abbrev pub IsCausedByBytes : ℕ → List (List ℕ) → List Outcome → Error → Type 0
IsCausedByBytes most held rows error =
    IsCausedBy rows error ⊎ ((cause_of error ≡ Some Overflow) × (most < sum_by length held + sum_by row_bytes rows))
