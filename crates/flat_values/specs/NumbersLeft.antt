-- What a place among the stored numbers of a page has still to give.
use Rattle.std.specs.Prelude.{ℕ, ℤ, List, [], drop, map, Option, IsSome, unwrap_or}
use Rattle.columns_core.specs.declared.cell.Cell.{Cell}
use Rattle.parquet_encoding.specs.DeltaLeft.{delta_left, numbers}
use Rattle.parquet_meta.specs.declared.metadata.PhysicalType.{PhysicalType}
use Rattle.parquet_page.specs.Stored.{Stored}
use Rattle.parquet_page.specs.Values.{plain_values}
use Rattle.page_decoding.specs.Outcome.{Outcome}
use Rattle.flat_values.specs.Conversion.{Conversion}
use Rattle.flat_values.specs.KeysLeft.{IsAmongKeys, keys}
use Rattle.flat_values.specs.Outcomes.{entry_outcome, stored_outcome}
use Rattle.flat_values.specs.declared.numbers.NumberPlace.{NumberPlace}
use Rattle.flat_values.specs.declared.numbers.NumberPlace.TheVariants.{Plain, Keys, Deltas}
use Rattle.flat_values.specs.declared.numbers.PlainPlace.{PlainPlace}

-- the plain values behind those that were passed
abbrev pub plain_left : PhysicalType → List ℕ → PlainPlace → List Stored
plain_left type bytes place = drop place.next (unwrap_or (plain_values type bytes place.count) [])

-- numbers of packed deltas stand for stored values
abbrev pub number_left : Conversion → PhysicalType → (ℤ → Stored) → Option (List Cell) → List ℕ → NumberPlace → List Outcome
number_left rule type delta entries bytes (Plain place) = map (stored_outcome rule) (plain_left type bytes place)
number_left rule type delta entries bytes (Keys place) = map (entry_outcome entries) (keys place bytes)
number_left rule type delta entries bytes (Deltas place) = map (λ number. stored_outcome rule (delta number)) (numbers place bytes)

-- the place is one among the values in these bytes
abbrev pub IsAmongNumbers : PhysicalType → List ℕ → NumberPlace → Type 0
IsAmongNumbers type bytes (Plain place) = IsSome (plain_values type bytes place.count)
IsAmongNumbers type bytes (Keys place) = IsAmongKeys bytes place
IsAmongNumbers type bytes (Deltas place) = IsSome (delta_left place bytes)
