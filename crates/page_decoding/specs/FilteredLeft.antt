-- What a walk over the selected rows of a page has still to give.
use Rattle.std.specs.Prelude.{◌≡◌, ℕ, zero, suc, ◌+◌, ◌<◌, ◌≤◌, ◌^◌, ◌⊎◌, Bool, if◌then◌else◌, List, [], ◌∷◌, ◌++◌, filter, length, Option, Some, None, IsSome, unwrap_or}
use Rattle.std.specs.List.{range_with_len}
use Rattle.parquet_base.specs.Intervals.{interval}
use Rattle.parquet_base.specs.declared.interval.Interval.{Interval}
use Rattle.parquet_page.specs.Content.{DataContent, header_values}
use Rattle.parquet_page.specs.Plan.{Keep, KeepNull, Pass, Step, is_selected, plan, plan_from}
use Rattle.parquet_page.specs.Runs.{run_rows}
use Rattle.parquet_page.specs.SliceLeft.{IsWalkOver, first_left, rows_left}
use Rattle.parquet_page.specs.Stretches.{BeginsOtherwise, BeginsWith}
use Rattle.parquet_page.specs.ValidityLeft.{optional_left, step_of}
use Rattle.parquet_page.specs.ValidityParts.{HasBothKinds, part_rows, part_steps}
use Rattle.parquet_page.specs.declared.run.Run.{Run}
use Rattle.parquet_page.specs.declared.run.Run.TheVariants.{Present, Null, Passed}
use Rattle.parquet_page.specs.declared.validity.OptionalPageValidity.{OptionalPageValidity}
use Rattle.parquet_page.specs.declared.validity_part.ValidityPart.{ValidityPart}
use Rattle.parquet_page.specs.declared.validity_part.ValidityPart.TheVariants.{Run as OfRun, Word as OfWord}
use Rattle.page_decoding.specs.declared.filtered_validity.FilteredOptionalPageValidity.{FilteredOptionalPageValidity}

-- selected rows as intervals; without a selection all of so many rows are selected
abbrev pub intervals_of : ℕ → Option (List Interval) → List Interval
intervals_of zero None = []
intervals_of (suc rows) None = interval 0 (suc rows) ∷ []
intervals_of rows (Some selected) = selected

abbrev pub selected_rows : DataContent → List Interval
selected_rows page = intervals_of (header_values page.header) page.selected

-- the places that a walk over all rows has still to give
abbrev pub optional_places : OptionalPageValidity → DataContent → List Bool
optional_places walk page = unwrap_or (optional_left walk page) []

-- what is to be done with the places that are left
abbrev pub filtered_steps : FilteredOptionalPageValidity → DataContent → List Step
filtered_steps walk page = plan_from page.selected walk.row (optional_places walk.places page)

-- how many stored values steps take or pass over
abbrev pub stored_values : List Step → ℕ
stored_values [] = 0
stored_values (Keep ∷ steps) = 1 + stored_values steps
stored_values (KeepNull ∷ steps) = stored_values steps
stored_values (Pass ∷ steps) = 1 + stored_values steps

-- the page is that of this walk, and the intervals have still the selected ones of the rows from where it stands up to the last
pub record IsPageOf (walk : FilteredOptionalPageValidity) (page : DataContent) : Type 0 where
  pub levels : IsSome (optional_left walk.places page)
  pub intervals : IsWalkOver walk.rows (selected_rows page)
  pub place : walk.place ≡ walk.rows.place
  pub row : walk.row + length (optional_places walk.places page) ≡ header_values page.header
  pub fits : header_values page.header < 2 ^ 64
  pub rows : rows_left walk.rows (selected_rows page) ≡ filter (is_selected page.selected) (range_with_len walk.row (length (optional_places walk.places page)))

-- a run of selected rows that is all that is left of an interval
abbrev pub EndsInterval : FilteredOptionalPageValidity → DataContent → Run → Type 0
EndsInterval walk page run = (0 < run_rows run) × (run_rows run ≡ first_left walk.rows (selected_rows page))

-- A run has as many rows as are asked for or as are left of an interval, or another step stands behind it. One that is passed over has no selected row, so another
-- step stands behind it.
abbrev pub IsLongestOf : ℕ → FilteredOptionalPageValidity → DataContent → Option Run → List Step → Type 0
IsLongestOf limit walk page None behind = Unit {0}
IsLongestOf limit walk page (Some run) behind = (run_rows run ≡ limit) ⊎ (EndsInterval walk page run ⊎ BeginsOtherwise (step_of run) behind)

-- A run is as long as it can be, and a word has rows of both kinds.
abbrev pub IsLongestPartOf : ℕ → DataContent → FilteredOptionalPageValidity → FilteredOptionalPageValidity → Option ValidityPart → Type 0
IsLongestPartOf limit page old new None = Unit {0}
IsLongestPartOf limit page old new (Some (OfRun run)) = IsLongestOf limit old page (Some run) (filtered_steps new page)
IsLongestPartOf limit page old new (Some (OfWord word)) = HasBothKinds word

-- so many stored values are passed over, if there are any
abbrev pub PassesOver : ℕ → Option Run → Type 0
PassesOver count None = count ≡ 0
PassesOver count (Some run) = (run ≡ Passed count) × (0 < count)

-- a run of rows that are all of one kind, as many as there are of it up to a limit
pub record IsRunOf (limit : ℕ) (old new : List Bool) (run : Run) : Type 0 where
  pub kind : Bool
  pub is : run ≡ (if kind then Present (run_rows run) else Null (run_rows run))
  pub some : 0 < run_rows run
  pub begins : BeginsWith limit kind (run_rows run) old new

-- places that stand at the front and are those of a part, so many at most
pub record IsPartOf (limit : ℕ) (old new : List Bool) (part : ValidityPart) : Type 0 where
  pub places : List Bool
  pub split : old ≡ places ++ new
  pub steps : plan None places ≡ part_steps part
  pub count : length places ≡ part_rows part
  pub some : 0 < part_rows part
  pub most : part_rows part ≤ limit

-- a run of all rows of one kind up to a limit, or a word of both kinds
abbrev pub IsWholePart : ℕ → DataContent → OptionalPageValidity → OptionalPageValidity → ValidityPart → Type 0
IsWholePart limit page old new (OfRun run) = IsRunOf limit (optional_places old page) (optional_places new page) run
IsWholePart limit page old new (OfWord word) = HasBothKinds word

-- so many of the selected rows are given, up to the row at which the others are looked for
pub record AreGiven (count : ℕ) (old new : List ℕ) (place : ℕ) : Type 0 where
  pub first : ℕ
  pub split : old ≡ range_with_len first count ++ new
  pub behind : place ≡ first + count
