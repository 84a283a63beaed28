-- Plain values, one behind the other.
use Rattle.std.specs.Prelude.{ℕ, zero, suc, ◌+◌, ◌*◌, ◌/◌, ◌==◌, nat_le, List, [], ◌∷◌, length, take, drop, map, Bool, Option, Some, None}
use Rattle.std.specs.Simd.{first_chunks}
use Rattle.parquet_base.specs.Reading.{Read, ◌>>=◌, given}
use Rattle.parquet_base.specs.Bytes.{little_endian}
use Rattle.parquet_encoding.specs.Bits.{packed}

-- values of one size: bytes and count agree exactly
unfoldable pub plain_fixed : ℕ → List ℕ → ℕ → Option (List (List ℕ))
plain_fixed size bytes count = given (length bytes == count * size) (first_chunks size count bytes)

-- the byte string at the front, behind its length in four bytes, and the bytes after it
unfoldable pub first_string : Read (List ℕ)
first_string bytes = do
  long ← given (nat_le 4 (length bytes)) (little_endian (take 4 bytes))
  body ← given (nat_le (4 + long) (length bytes)) (drop 4 bytes)
  Some (take long body, drop long body)

-- byte strings: bytes and count agree exactly
unfoldable pub plain_bytes : List ℕ → ℕ → Option (List (List ℕ))
plain_bytes [] zero = Some []
plain_bytes (byte ∷ bytes) zero = None
plain_bytes bytes (suc count) = do
  first ← first_string bytes
  others ← plain_bytes first.1 count
  Some (first.0 ∷ others)

-- a bit as a truth value
abbrev pub truth : ℕ → Bool
truth bit = bit == 1

-- truth values by bits: there are bytes for all of them
unfoldable pub plain_bits : List ℕ → ℕ → Option (List Bool)
plain_bits bytes count = given (nat_le ((count + 7) / 8) (length bytes)) (map truth (packed bytes 1 0 count))
