-- Numbers in the bits of bytes: the first byte lowest, and each byte from its lowest bit on.
use Rattle.std.specs.Prelude.{ℕ, zero, suc, ◌+◌, ◌/◌, ◌%◌, ◌^◌, List, [], ◌∷◌}
use Rattle.parquet_base.specs.Bytes.{little_endian}

-- the number in the `width` bits from bit `place` on
abbrev pub bits_at : List ℕ → ℕ → ℕ → ℕ
bits_at bytes place width = little_endian bytes / 2 ^ place % 2 ^ width

-- `count` numbers of `width` bits, one behind the other, from bit `place` on
unfoldable pub packed : List ℕ → ℕ → ℕ → ℕ → List ℕ
packed bytes width place zero = []
packed bytes width place (suc count) = bits_at bytes place width ∷ packed bytes width (place + width) count
