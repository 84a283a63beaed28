-- Numbers in a variable number of bytes (ULEB128), and the zigzag form of signed ones.
use Rattle.std.specs.Prelude.{ℕ, zero, suc, ◌+◌, ◌-◌, ◌*◌, ◌/◌, ◌%◌, ◌^◌, ℤ, pos, negsuc, [], ◌∷◌, Some, None, nat_lt, ◌==◌, if◌then◌else◌}
use Rattle.parquet_base.specs.Reading.{Read, ◌>>=◌, map_value}

-- A byte below 128 is the last; one from 128 on has the low seven bits of the number, and the rest stands in
-- the bytes after it.
unfoldable pub varint_within : ℕ → Read ℕ
varint_within zero bytes = None
varint_within (suc most) [] = None
varint_within (suc most) (byte ∷ bytes) =
    if nat_lt byte 128 then Some (byte, bytes)
    else map_value (λ high. byte - 128 + 128 * high) (varint_within most bytes)

-- at most ten bytes, and a number below 2 ^ 64; padding is allowed
unfoldable pub varint : Read ℕ
varint bytes = do
  n ← varint_within 10 bytes
  if nat_lt n.0 (2 ^ 64) then Some n else None

-- 0, -1, 1, -2, 2 and on
abbrev pub zigzag : ℕ → ℤ
zigzag n = if n % 2 == 0 then pos (n / 2) else negsuc (n / 2)
