-- The places that a decoder of joined byte strings has still to give, on the bytes that it is handed.
use Rattle.std.specs.Prelude.{ℕ, ◌-◌, ℤ, nat_le, List, [], ◌∷◌, Option, Some, unwrap_or, option_map}
use Rattle.parquet_base.specs.Reading.{◌>>=◌, given}
use Rattle.parquet_encoding.specs.Places.{bytes_from, places_of}
use Rattle.parquet_encoding.specs.DeltaLength.{length_of, strings_of}
use Rattle.parquet_encoding.specs.DeltaLeft.{delta_left}
use Rattle.parquet_encoding.specs.declared.delta_length.DeltaLength.{DeltaLength}

-- those of strings with the lengths that are left, from its place on
unfoldable pub joined_left : DeltaLength → List ℕ → Option (List (ℕ × ℕ))
joined_left decoder bytes = do
  lengths ← delta_left decoder.lengths bytes
  rest ← bytes_from decoder.next bytes
  option_map (places_of 0 decoder.next) (strings_of lengths rest)

abbrev pub joined_values : DeltaLength → List ℕ → List (ℕ × ℕ)
joined_values decoder bytes = unwrap_or (joined_left decoder bytes) []

-- a length for which there are so many bytes
abbrev pub length_within : ℕ → ℤ → Option ℕ
length_within room number = do
  long ← length_of number
  given (nat_le long room) long

-- of so many bytes, those that strings of these lengths leave
unfoldable pub room_left : ℕ → List ℤ → Option ℕ
room_left room [] = Some room
room_left room (number ∷ numbers) = do
  long ← length_within room number
  room_left (room - long) numbers
