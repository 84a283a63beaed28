-- What a place among the byte strings of a page has still to give, on the bytes that it is handed.
use Rattle.std.specs.Prelude.{ℕ, Bool, List, map, Option, IsSome}
use Rattle.columns_core.specs.declared.cell.Cell.{Cell}
use Rattle.parquet_encoding.specs.JoinedLeft.{joined_left}
use Rattle.parquet_encoding.specs.PlainLeft.{strings_left}
use Rattle.page_decoding.specs.Outcome.{Outcome}
use Rattle.flat_values.specs.KeysLeft.{IsAmongKeys, keys}
use Rattle.flat_values.specs.Outcomes.{entry_outcome}
use Rattle.binary_values.specs.ByteStrings.{stored_outcomes}
use Rattle.binary_values.specs.declared.byte_place.BytePlace.{BytePlace}
use Rattle.binary_values.specs.declared.byte_place.BytePlace.TheVariants.{Plain, Lengths, Keys}

-- what the byte strings that stand there give, or the entries that keys name
abbrev pub byte_left : Bool → Option (List Cell) → List ℕ → BytePlace → List Outcome
byte_left is_text entries bytes (Plain place) = stored_outcomes is_text bytes (strings_left place bytes)
byte_left is_text entries bytes (Lengths place) = stored_outcomes is_text bytes (joined_left place bytes)
byte_left is_text entries bytes (Keys place) = map (entry_outcome entries) (keys place bytes)

-- the place is one among the byte strings, or the keys, in these bytes
abbrev pub IsAmongBytes : List ℕ → BytePlace → Type 0
IsAmongBytes bytes (Plain place) = IsSome (strings_left place bytes)
IsAmongBytes bytes (Lengths place) = IsSome (joined_left place bytes)
IsAmongBytes bytes (Keys place) = IsAmongKeys bytes place
