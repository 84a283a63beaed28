-- What a place among the keys of a page has still to give, over the entries of a dictionary.
use Rattle.std.specs.Prelude.{ℕ, pos, min, List, length, map, Option, Some, None}
use Rattle.std.specs.List.{range_with_len}
use Rattle.columns_core.specs.Array.{cells}
use Rattle.columns_core.specs.declared.array.Array.{Array}
use Rattle.columns_core.specs.declared.cell.Cell.{Cell, Int}
use Rattle.page_decoding.specs.Outcome.{Outcome}
use Rattle.parquet_meta.specs.declared.metadata.PhysicalType.{PhysicalType}
use Rattle.parquet_page.specs.Content.{DataContent}
use Rattle.flat_values.specs.OneEncoding.{key_outcomes}
use Rattle.flat_values.specs.declared.keys.KeyPlace.{KeyPlace}

-- Keys below this are of their type and name an entry.
abbrev pub key_limit : ℕ → Option Array → ℕ
key_limit most None = 0
key_limit most (Some entries) = min (length (cells entries)) most

-- the dictionary of the numbers 0, 1, 2, ..
abbrev pub numbers_below : ℕ → List Cell
numbers_below count = map (λ key. Int (pos key)) (range_with_len 0 count)

-- the keys themselves
abbrev pub keys_given : ℕ → Option Array → List ℕ → KeyPlace → List Outcome
keys_given most entries bytes place = key_outcomes (numbers_below (key_limit most entries)) bytes place

-- the page as one of another stored type; where its keys stand does not depend on the type
abbrev pub stored_as : PhysicalType → DataContent → DataContent
stored_as physical page = record page { type = record page.type { physical_type = physical } }
