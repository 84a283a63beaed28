-- The items of a page's selected rows.
use Rattle.std.specs.Prelude.{ℕ, ◌+◌, if◌then◌else◌, List, [], ◌∷◌, Option, Some, None}
use Rattle.parquet_base.specs.Intervals.{covers}
use Rattle.parquet_base.specs.declared.interval.Interval.{Interval}

-- those of a list whose rows are covered, where its first has this row
abbrev pub covered_from : {A : Type 0} → List Interval → ℕ → List A → List A
covered_from rows row [] = []
covered_from rows row (item ∷ items) = if covers rows row then item ∷ covered_from rows (row + 1) items else covered_from rows (row + 1) items

-- those of the selected rows; without any selection all
abbrev pub selected_of : {A : Type 0} → Option (List Interval) → List A → List A
selected_of None items = items
selected_of (Some rows) items = covered_from rows 0 items
