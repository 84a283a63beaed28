-- Byte strings, all of them joined behind their lengths, which are delta binary packed numbers.
use Rattle.std.specs.Prelude.{ℕ, ◌-◌, ℤ, pos, negsuc, nat_le, List, [], ◌∷◌, length, take, drop, Option, Some, None, option_map}
use Rattle.parquet_base.specs.Reading.{◌>>=◌, given}
use Rattle.parquet_encoding.specs.Places.{places_of}
use Rattle.parquet_encoding.specs.DeltaBinary.{delta_binary}

-- a length is from 0 to 2147483647
abbrev pub length_of : ℤ → Option ℕ
length_of (pos n) = given (nat_le n 2147483647) n
length_of (negsuc n) = None

-- the strings of these lengths, one behind the other; bytes may follow them
unfoldable pub strings_of : List ℤ → List ℕ → Option (List (List ℕ))
strings_of [] bytes = Some []
strings_of (number ∷ numbers) bytes = do
  long ← length_of number
  own ← given (nat_le long (length bytes)) (take long bytes)
  others ← strings_of numbers (drop long bytes)
  Some (own ∷ others)

-- the `count` strings
unfoldable pub delta_length : List ℕ → ℕ → Option (List (List ℕ))
delta_length bytes count = do
  lengths ← delta_binary count bytes
  strings_of lengths.0 lengths.1

-- where they stand
unfoldable pub delta_length_places : List ℕ → ℕ → Option (List (ℕ × ℕ))
delta_length_places bytes count = do
  lengths ← delta_binary count bytes
  option_map (places_of 0 (length bytes - length lengths.1)) (strings_of lengths.0 lengths.1)
