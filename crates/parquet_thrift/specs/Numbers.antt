-- Numbers and byte strings of the compact protocol.
use Rattle.std.specs.Prelude.{ℕ, ◌-◌, ◌^◌, ℤ, pos, negsuc, List, [], ◌∷◌, length, take, drop, Some, None, nat_lt, if◌then◌else◌}
use Rattle.parquet_base.specs.Reading.{Read, ◌>>=◌}
use Rattle.parquet_base.specs.Varint.{varint, zigzag}

-- A signed number is in a type of so many bits exactly where its zigzag form is below 2 ^ bits.
unfoldable pub signed : ℕ → Read ℤ
signed bits bytes = do
  n ← varint bytes
  if nat_lt n.0 (2 ^ bits) then Some (zigzag n.0, n.1) else None

-- one raw byte, in two's complement
unfoldable pub signed_byte : Read ℤ
signed_byte [] = None
signed_byte (byte ∷ bytes) = Some (if nat_lt byte 128 then pos byte else negsuc (255 - byte), bytes)

-- so many bytes as they stand
unfoldable pub raw : ℕ → Read (List ℕ)
raw count bytes = if nat_lt (length bytes) count then None else Some (take count bytes, drop count bytes)

-- a length, and that many bytes
unfoldable pub bytes_of_length : Read (List ℕ)
bytes_of_length bytes = do
  n ← varint bytes
  raw n.0 n.1
