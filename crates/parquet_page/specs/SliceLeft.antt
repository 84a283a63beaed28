-- The selected rows that a walk over intervals has still to give.
use Rattle.std.specs.Prelude.{◌≡◌, ℕ, ◌+◌, ◌-◌, ◌<◌, ◌^◌, max, min, true, List, [], ◌∷◌, ◌++◌, drop, length, Option, Some, None}
use Rattle.std.specs.List.{range_with_len}
use Rattle.parquet_base.specs.Intervals.{end, is_well_shaped_from, rows_of}
use Rattle.parquet_base.specs.declared.interval.Interval.{Interval}
use Rattle.parquet_page.specs.declared.slice_filtered.SliceFiltered.{SliceFiltered}

-- the rows of intervals from one on, which may lie in the first interval
abbrev pub rows_from : ℕ → List Interval → List ℕ
rows_from row [] = []
rows_from row (run ∷ runs) = let first = max row run.start in range_with_len first (end run - first) ++ rows_of runs

-- the row is before the end of the first interval, and the intervals are well shaped
abbrev pub StandsBefore : ℕ → List Interval → Type 0
StandsBefore row [] = Unit {0}
StandsBefore row (run ∷ runs) = (row < end run) × (is_well_shaped_from run.start (run ∷ runs) (2 ^ 64 - 1) ≡ true)

-- the rows that a walk has still to give
abbrev pub rows_left : SliceFiltered → List Interval → List ℕ
rows_left walk rows = rows_from walk.place (drop walk.interval rows)

-- the rows are those of this walk
pub record IsWalkOver (walk : SliceFiltered) (rows : List Interval) : Type 0 where
  pub stands : StandsBefore walk.place (drop walk.interval rows)
  pub counted : walk.left ≡ length (rows_left walk rows)

-- how many rows of the first interval lie at or behind a row
abbrev pub first_count : ℕ → List Interval → ℕ
first_count row [] = 0
first_count row (run ∷ runs) = end run - max row run.start

-- how many rows a walk has still to give of the interval at which it stands
abbrev pub first_left : SliceFiltered → List Interval → ℕ
first_left walk rows = first_count walk.place (drop walk.interval rows)

-- The next values are passed over, and the rows behind them are the first of those that were left: all of one interval, or as
-- many of them as are asked for. Without an answer none was left.
abbrev pub GivesSliceRows : ℕ → List Interval → SliceFiltered → SliceFiltered → Option (ℕ × ℕ) → Type 0
GivesSliceRows limit rows old new None = (rows_left old rows ≡ []) × (new ≡ old)
GivesSliceRows limit rows old new (Some run) =
    (rows_left old rows ≡ range_with_len (old.place + run.0) run.1 ++ rows_left new rows) × (new.place ≡ old.place + run.0 + run.1) × (0 < run.1) × (run.1 ≡ min limit (first_left old rows))
