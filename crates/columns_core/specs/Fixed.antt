-- Bytes cut into values of one size.
use Rattle.std.specs.Prelude.{◌≡◌, ◌<◌, ℕ, ◌*◌, ◌/◌, ◌%◌, Bool, List, length, map, take, drop, Option}
use Rattle.std.specs.List.{range_with_len}
use Rattle.columns_core.specs.Column.{FitsMask}

-- as many as there is room for
abbrev pub fixed_pieces : ℕ → List ℕ → List (List ℕ)
fixed_pieces size bytes = map (λ i. take size (drop (i * size) bytes)) (range_with_len 0 (length bytes / size))

-- values of a size above 0 with no bytes behind them, and a mask that has a place for each
pub record ArePieces (size : ℕ) (bytes : List ℕ) (mask : Option (List Bool)) : Type 0 where
  pub has_size : 0 < size
  pub whole : length bytes % size ≡ 0
  pub fits : FitsMask (fixed_pieces size bytes) mask
