-- Truth values packed in bytes, each byte from its lowest bit on.
use Rattle.std.specs.Prelude.{◌≡◌, ◌<◌, ℕ, zero, suc, ◌+◌, ◌/◌, ◌%◌, ◌^◌, Bool, ◌==◌, List, [], ◌∷◌, length}
use Rattle.parquet_base.specs.Bytes.{little_endian}

-- the lowest bits of a number, so many of them
unfoldable pub low_bits : ℕ → ℕ → List Bool
low_bits number zero = []
low_bits number (suc count) = (number % 2 == 1) ∷ low_bits (number / 2) count

-- the bits of bytes from a place on, so many of them
abbrev pub bits_of : List ℕ → ℕ → ℕ → List Bool
bits_of bytes place count = low_bits (little_endian bytes / 2 ^ place) count

-- so many bits need all of the bytes, and the bits behind them are 0
pub record IsPacked (bytes : List ℕ) (count : ℕ) : Type 0 where
  pub needed : length bytes ≡ (count + 7) / 8
  pub below : little_endian bytes < 2 ^ count
