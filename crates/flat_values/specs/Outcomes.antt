-- What the values, the places and the dictionary of a column give to those who read it as a type.
use Rattle.std.specs.Prelude.{ℕ, if◌then◌else◌, is_some, List, [], ◌∷◌, length, map, slice_get, sum_by, Option, Some, None, option_map, unwrap_or, Result, Ok, Err}
use Rattle.std.specs.Option.{option_map_or}
use Rattle.columns_core.specs.Causes.{Cause, ExternalFormat, OutOfSpec, Overflow, unless}
use Rattle.columns_core.specs.declared.cell.Cell.{Cell, Null}
use Rattle.parquet_base.specs.Reading.{◌>>=◌}
use Rattle.parquet_meta.specs.declared.metadata.PhysicalType.{PhysicalType}
use Rattle.parquet_page.specs.Content.{DataContent, DictContent}
use Rattle.parquet_page.specs.Levels.{placed, present_count}
use Rattle.parquet_page.specs.Opened.{key_causes, page_causes}
use Rattle.parquet_page.specs.Spelling.{dictionary_entries, page_encoding, places_and_values}
use Rattle.parquet_page.specs.Stored.{Stored}
use Rattle.parquet_page.specs.Values.{Encoding, Keys, dictionary_keys, unless_none, values_in}
use Rattle.page_decoding.specs.Bytes.{cell_bytes, fits_most}
use Rattle.page_decoding.specs.Outcome.{Outcome, Given, Refused, all_given, page_outcomes}
use Rattle.flat_values.specs.Conversion.{Conversion, Item, Value, NotInRange, NotText, convert}

-- an item, or what is wrong with its value
abbrev pub outcome_of : Item → Outcome
outcome_of (Value cell) = Given cell
outcome_of NotInRange = Refused (Overflow ∷ [])
outcome_of NotText = Refused (OutOfSpec ∷ [])

-- what a stored value gives by a conversion
abbrev pub stored_outcome : Conversion → Stored → Outcome
stored_outcome rule stored = outcome_of (convert rule stored)

-- what a key gives: the entry that it names
abbrev pub entry_outcome : Option (List Cell) → ℕ → Outcome
entry_outcome entries key = option_map_or Given (slice_get (unwrap_or entries []) key) (Refused (OutOfSpec ∷ []))

-- what `count` stored values of a type in an encoding give, over the entries of a dictionary where there is one
unfoldable pub value_outcomes : Conversion → PhysicalType → Option (List Cell) → Encoding → List ℕ → ℕ → Option (List Outcome)
value_outcomes rule type entries Keys bytes count = option_map (map (entry_outcome entries)) (dictionary_keys bytes count)
value_outcomes rule type entries encoding bytes count = option_map (map (stored_outcome rule)) (values_in encoding type None bytes count)

-- what is wrong with them as a whole, where the dictionary has so many entries
unfoldable pub value_causes : PhysicalType → Option ℕ → Encoding → List ℕ → ℕ → List Cause
value_causes type entries Keys bytes count = option_map_or (key_causes None entries) (dictionary_keys bytes count) (ExternalFormat ∷ [])
value_causes type entries encoding bytes count = unless (is_some (values_in encoding type None bytes count)) ExternalFormat

-- a place without a value is null
abbrev pub placed_outcome : Option Outcome → Outcome
placed_outcome None = Given Null
placed_outcome (Some outcome) = outcome

-- what each place of a page gives
unfoldable pub place_outcomes : Conversion → Option (List Cell) → DataContent → Option (List Outcome)
place_outcomes rule entries page = do
  encoding ← page_encoding page
  parts ← places_and_values page
  values ← unless_none (present_count parts.0) (value_outcomes rule page.type.physical_type entries encoding parts.1 (present_count parts.0))
  places ← placed parts.0 values
  Some (map placed_outcome places)

-- what the selected places of a page give
unfoldable pub selected_outcomes : Conversion → Option (List Cell) → DataContent → List Outcome
selected_outcomes rule entries page =
    page_outcomes (page_causes None (is_some entries) (option_map length entries) page) page.selected (unwrap_or (place_outcomes rule entries page) [])

-- the entries of a dictionary page, converted, or what is wrong with it
unfoldable pub dictionary_cells : Conversion → PhysicalType → DictContent → Result (List Cell) (List Cause)
dictionary_cells rule type page = option_map_or (λ stored. all_given (map (stored_outcome rule) stored)) (dictionary_entries type page) (Err (ExternalFormat ∷ []))

-- entries whose bytes have to fit, where there is a most
abbrev pub fitted : Option ℕ → Result (List Cell) (List Cause) → Result (List Cell) (List Cause)
fitted None found = found
fitted (Some most) (Ok cells) = if fits_most (Some most) (sum_by cell_bytes cells) then Ok cells else Err (Overflow ∷ [])
fitted (Some most) (Err causes) = Err causes

-- the entries of a dictionary page, whose bytes have to fit
abbrev pub fitted_by : Option ℕ → Conversion → PhysicalType → DictContent → Result (List Cell) (List Cause)
fitted_by most rule type page = fitted most (dictionary_cells rule type page)
