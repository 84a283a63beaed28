-- What is to be done with each place of a page, so that the selected ones are left.
use Rattle.std.specs.Prelude.{ℕ, ◌+◌, Bool, true, false, List, [], ◌∷◌, ◌++◌, Option, Some, None}
use Rattle.parquet_base.specs.Intervals.{covers}
use Rattle.parquet_base.specs.declared.interval.Interval.{Interval}
use Rattle.parquet_page.specs.Selected.{covered_from}

-- A selected place gives its stored value or null. A place that is not selected gives nothing, but where it has a stored value this
-- is passed over.
pub data Step : Type 0 where
  Keep : Step
  KeepNull : Step
  Pass : Step

-- without a selection every row is selected
abbrev pub is_selected : Option (List Interval) → ℕ → Bool
is_selected None row = true
is_selected (Some rows) row = covers rows row

-- the steps of one place
abbrev pub steps_at : Bool → Bool → List Step
steps_at true true = Keep ∷ []
steps_at true false = KeepNull ∷ []
steps_at false true = Pass ∷ []
steps_at false false = []

-- the steps of places of which the first has this row
abbrev pub plan_from : Option (List Interval) → ℕ → List Bool → List Step
plan_from selected row [] = []
plan_from selected row (present ∷ places) = steps_at (is_selected selected row) present ++ plan_from selected (row + 1) places

-- the steps of a page
abbrev pub plan : Option (List Interval) → List Bool → List Step
plan selected places = plan_from selected 0 places

-- Stored values along steps. A value that is not there gives nothing.
abbrev pub along : {A : Type 0} → List Step → List A → List (Option A)
along [] values = []
along (Keep ∷ steps) [] = []
along (Keep ∷ steps) (value ∷ values) = Some value ∷ along steps values
along (KeepNull ∷ steps) values = None ∷ along steps values
along (Pass ∷ steps) [] = []
along (Pass ∷ steps) (value ∷ values) = along steps values

-- the items of selected rows, where the first has this row
abbrev pub selected_from : {A : Type 0} → Option (List Interval) → ℕ → List A → List A
selected_from None row items = items
selected_from (Some rows) row items = covered_from rows row items

-- how many rows are given
abbrev pub kept_count : List Step → ℕ
kept_count [] = 0
kept_count (Keep ∷ steps) = 1 + kept_count steps
kept_count (KeepNull ∷ steps) = 1 + kept_count steps
kept_count (Pass ∷ steps) = kept_count steps
