-- Places in bytes.
use Rattle.std.specs.Prelude.{◌≡◌, ℕ, ◌+◌, ◌<◌, ◌≤◌, List, [], ◌∷◌, length, drop, slice_range, nat_le, Option, Some}
use Rattle.parquet_base.specs.Reading.{given}
use Rattle.parquet_base.specs.Varint.{varint}

-- the bytes from a start on, of a length
abbrev pub bytes_in : List ℕ → ℕ × ℕ → List ℕ
bytes_in bytes place = slice_range bytes place.0 (place.0 + place.1)

-- the bytes from a place on; none where it lies behind their end
abbrev pub bytes_from : ℕ → List ℕ → Option (List ℕ)
bytes_from place bytes = given (nat_le place (length bytes)) (drop place bytes)

-- Where pieces stand that lie one behind the other from a place on, each behind a head of so many bytes: start and length.
unfoldable pub places_of : ℕ → ℕ → List (List ℕ) → List (ℕ × ℕ)
places_of head from [] = []
places_of head from (piece ∷ pieces) = (from + head, length piece) ∷ places_of head (from + head + length piece) pieces

-- the number that stands at a place, and the place after it
pub record VarintAt (bytes : List ℕ) (place : ℕ) (read : ℕ × ℕ) : Type 0 where
  pub value : varint (drop place bytes) ≡ Some (read.0, drop read.1 bytes)
  pub after : place < read.1
  pub within : read.1 ≤ length bytes
