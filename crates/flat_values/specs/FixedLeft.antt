-- What a place among byte strings of one size has still to give, on the bytes that it is handed.
use Rattle.std.specs.Prelude.{◌≡◌, ℕ, List, map, Option, IsSome, IfSome, option_map}
use Rattle.columns_core.specs.declared.cell.Cell.{Cell, Bytes}
use Rattle.page_decoding.specs.Outcome.{Outcome}
use Rattle.parquet_encoding.specs.Places.{bytes_in}
use Rattle.parquet_encoding.specs.PlainLeft.{fixed_left, fixed_values, value_size}
use Rattle.parquet_page.specs.Stored.{Octets}
use Rattle.flat_values.specs.Conversion.{Conversion}
use Rattle.flat_values.specs.FixedItems.{FixedItems}
use Rattle.flat_values.specs.KeysLeft.{IsAmongKeys, keys}
use Rattle.flat_values.specs.Outcomes.{entry_outcome, stored_outcome}
use Rattle.flat_values.specs.declared.fixed.FixedPlace.{FixedPlace}
use Rattle.flat_values.specs.declared.fixed.FixedPlace.TheVariants.{Plain, Keys}

-- the cells of a dictionary's entries
abbrev pub entry_cells : Option FixedItems → Option (List Cell)
entry_cells dict = option_map (λ entries. map Bytes entries.items) dict

-- A dictionary has entries of this size.
abbrev pub HasEntriesOf : ℕ → Option FixedItems → Type 0
HasEntriesOf size dict = IfSome dict (λ entries. entries.size ≡ size)

-- what the byte strings that stand there give by a conversion, or the entries that keys name
abbrev pub fixed_outcomes : Conversion → Option (List Cell) → List ℕ → FixedPlace → List Outcome
fixed_outcomes rule entries bytes (Plain place) = map (λ piece. stored_outcome rule (Octets (bytes_in bytes piece))) (fixed_values place bytes)
fixed_outcomes rule entries bytes (Keys place) = map (entry_outcome entries) (keys place bytes)

-- the place is one among values of a size, or among keys, in these bytes
abbrev pub IsAmongFixed : ℕ → List ℕ → FixedPlace → Type 0
IsAmongFixed size bytes (Plain place) = IsSome (fixed_left place bytes) × (value_size place ≡ size)
IsAmongFixed size bytes (Keys place) = IsAmongKeys bytes place
