-- What decoders of plain values have still to give, on the bytes that they are handed.
use Rattle.std.specs.Prelude.{◌≡◌, ℕ, ◌+◌, ◌*◌, ◌≤◌, nat_le, Bool, List, [], length, drop, map, Option, Some, unwrap_or, option_map}
use Rattle.parquet_encoding.specs.Bits.{packed}
use Rattle.parquet_base.specs.Reading.{◌>>=◌, given}
use Rattle.parquet_encoding.specs.Places.{bytes_in, bytes_from, places_of}
use Rattle.parquet_encoding.specs.Plain.{plain_fixed, plain_bytes, first_string, truth}
use Rattle.parquet_encoding.specs.declared.plain_fixed.PlainFixed.{PlainFixed}
use Rattle.parquet_encoding.specs.declared.plain_bytes.PlainBytes.{PlainBytes}
use Rattle.parquet_encoding.specs.declared.plain_bits.PlainBits.{PlainBits}

-- the places of the values that stand from its place on
unfoldable pub fixed_left : PlainFixed → List ℕ → Option (List (ℕ × ℕ))
fixed_left decoder bytes = do
  rest ← bytes_from decoder.next bytes
  option_map (places_of 0 decoder.next) (plain_fixed decoder.size rest decoder.left)

abbrev pub fixed_values : PlainFixed → List ℕ → List (ℕ × ℕ)
fixed_values decoder bytes = unwrap_or (fixed_left decoder bytes) []

-- the bytes of each value
abbrev pub value_size : PlainFixed → ℕ
value_size decoder = decoder.size

-- the places of the byte strings that stand from its place on
unfoldable pub strings_left : PlainBytes → List ℕ → Option (List (ℕ × ℕ))
strings_left decoder bytes = do
  rest ← bytes_from decoder.next bytes
  option_map (places_of 4 decoder.next) (plain_bytes rest decoder.left)

abbrev pub strings : PlainBytes → List ℕ → List (ℕ × ℕ)
strings decoder bytes = unwrap_or (strings_left decoder bytes) []

-- the byte string whose length stands at a place
pub record StringAt (bytes : List ℕ) (at : ℕ) (place : ℕ × ℕ) : Type 0 where
  pub read : first_string (drop at bytes) ≡ Some (bytes_in bytes place, drop (place.0 + place.1) bytes)
  pub behind : place.0 ≡ at + 4
  pub within : place.0 + place.1 ≤ length bytes

-- the truth values in the bits from its place on; none where these do not lie in the bytes
unfoldable pub bits_left : PlainBits → List ℕ → Option (List Bool)
bits_left decoder bytes = given (nat_le (decoder.next + decoder.left) (8 * length bytes)) (map truth (packed bytes 1 decoder.next decoder.left))

abbrev pub truths : PlainBits → List ℕ → List Bool
truths decoder bytes = unwrap_or (bits_left decoder bytes) []
