-- What the pages of a column of keys give: keys, and the entries that they name.
use Rattle.std.specs.Prelude.{ℕ, ◌^◌, ℤ, pos, is_some, Bool, List, [], length, map, Option, Some, None, IsSome, option_map, unwrap_or}
use Rattle.columns_core.specs.Column.{cell_of}
use Rattle.columns_core.specs.Entries.{entry_named}
use Rattle.columns_core.specs.declared.cell.Cell.{Cell, Null, Int}
use Rattle.columns_core.specs.declared.data_type.IntegerType.{IntegerType}
use Rattle.columns_core.specs.declared.data_type.IntegerType.TheVariants.{Int8, Int16, Int32, Int64, UInt8, UInt16, UInt32, UInt64}
use Rattle.parquet_page.specs.Content.{DataContent}
use Rattle.parquet_page.specs.Opened.{page_causes}
use Rattle.parquet_page.specs.Spelling.{placed_keys}
use Rattle.page_decoding.specs.Outcome.{Outcome, Given, Refused, page_outcomes}
use Rattle.page_decoding.specs.Standing.{Standing}
use Rattle.flat_values.specs.Decoded.{marked_cells}
use Rattle.flat_values.specs.Outcomes.{entry_outcome}

-- how many keys a type of keys has from 0 on
abbrev pub keys_of : IntegerType → ℕ
keys_of Int8 = 2 ^ 7
keys_of Int16 = 2 ^ 15
keys_of Int32 = 2 ^ 31
keys_of Int64 = 2 ^ 63
keys_of UInt8 = 2 ^ 8
keys_of UInt16 = 2 ^ 16
keys_of UInt32 = 2 ^ 32
keys_of UInt64 = 2 ^ 64

-- keys as numbers, null where the mask says that there is none
abbrev pub key_cells : {K : Type 0} → (K → ℤ) → List K → List Bool → List Cell
key_cells number keys mask = marked_cells (λ key. Int (number key)) keys mask

-- what a place gives as a key
abbrev pub key_place : Option ℕ → Outcome
key_place None = Given Null
key_place (Some key) = Given (Int (pos key))

-- what it gives as the entry that its key names
abbrev pub placed_entry : Option (List Cell) → Option ℕ → Outcome
placed_entry entries None = Given Null
placed_entry entries (Some key) = entry_outcome entries key

-- What the selected places of a page of keys give by what a place gives. A page that is not one of keys, and one without a dictionary
-- before it, is refused. So is a page of which some key, selected or not, is past the entries or past the keys of its type.
unfoldable pub selected_by : (Option ℕ → Outcome) → ℕ → Option (List Cell) → DataContent → List Outcome
selected_by place most entries page =
    page_outcomes (page_causes (Some most) (is_some entries) (option_map length entries) page) page.selected (map place (unwrap_or (placed_keys page) []))

abbrev pub selected_keys : ℕ → Option (List Cell) → DataContent → List Outcome
selected_keys = selected_by key_place

abbrev pub selected_entries : ℕ → Option (List Cell) → DataContent → List Outcome
selected_entries most entries = selected_by (placed_entry entries) most entries

-- ---- rows that wait

-- The entry that a key names. Keys that wait name entries, and the other cells that wait are null.
abbrev pub named_cell : List Cell → Cell → Cell
named_cell entries (Int key) = cell_of (λ cell. cell) (entry_named entries key)
named_cell entries cell = cell

abbrev pub named_row : List Cell → Outcome → Outcome
named_row entries (Given cell) = Given (named_cell entries cell)
named_row entries (Refused causes) = Refused causes

-- a key that is there names an entry
abbrev pub NamesEntry : List Cell → Outcome → Type 0
NamesEntry entries (Given (Int key)) = IsSome (entry_named entries key)
NamesEntry entries (Given cell) = Unit {0}
NamesEntry entries (Refused causes) = Unit {0}

-- how far the reading has come, with entries in the place of keys
abbrev pub named_standing : Standing → Standing
named_standing s = record s { waiting = map (named_row (unwrap_or s.dictionary [])) s.waiting }
