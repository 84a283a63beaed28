-- What a walk over all rows of a page has still to give.
use Rattle.std.specs.Prelude.{ℕ, ◌⊎◌, ◌≡◌, Bool, List, [], Option, None, Some, is_some, option_map, unwrap_or}
use Rattle.columns_core.specs.Causes.{Cause, ExternalFormat, NotYetImplemented, and_then, unless}
use Rattle.parquet_base.specs.Reading.{◌>>=◌}
use Rattle.parquet_page.specs.Content.{DataContent}
use Rattle.parquet_page.specs.Levels.{body_parts}
use Rattle.parquet_page.specs.LevelsLeft.{places_left}
use Rattle.parquet_page.specs.Stretches.{BeginsOtherwise}
use Rattle.parquet_page.specs.Plan.{Keep, KeepNull, Pass, Step, plan}
use Rattle.parquet_page.specs.Runs.{run_rows}
use Rattle.parquet_page.specs.Spelling.{has_readable_levels, places_and_values}
use Rattle.parquet_page.specs.ValidityParts.{HasBothKinds}
use Rattle.parquet_page.specs.declared.level_runs.LevelRuns.{LevelRuns}
use Rattle.parquet_page.specs.declared.run.Run.{Run}
use Rattle.parquet_page.specs.declared.run.Run.TheVariants.{Present, Null, Passed}
use Rattle.parquet_page.specs.declared.validity.OptionalPageValidity.{OptionalPageValidity}
use Rattle.parquet_page.specs.declared.validity_part.ValidityPart.{ValidityPart}
use Rattle.parquet_page.specs.declared.validity_part.ValidityPart.TheVariants.{Run as OfRun, Word as OfWord}

-- which places of a page have a value
abbrev pub page_places : DataContent → Option (List Bool)
page_places page = option_map (λ parts. parts.0) (places_and_values page)

-- what is wrong with the levels of a page
abbrev pub levels_causes : DataContent → List Cause
levels_causes page = and_then (unless (has_readable_levels page.type.repetition page.header) NotYetImplemented) (unless (is_some (page_places page)) ExternalFormat)

-- the places that are left of a page
abbrev pub page_left : LevelRuns → DataContent → Option (List Bool)
page_left runs page = do
  body ← body_parts page.type.repetition page.header page.body
  places_left runs body.definition

abbrev pub optional_left : OptionalPageValidity → DataContent → Option (List Bool)
optional_left walk page = page_left walk.runs page

-- what is to be done with them
abbrev pub optional_steps : OptionalPageValidity → DataContent → List Step
optional_steps walk page = plan None (unwrap_or (optional_left walk page) [])

-- the step that a run repeats
abbrev pub step_of : Run → Step
step_of (Present rows) = Keep
step_of (Null rows) = KeepNull
step_of (Passed values) = Pass

-- a run has as many rows as are asked for, or another step stands behind it
abbrev pub IsLongest : ℕ → Option Run → List Step → Type 0
IsLongest limit None behind = Unit {0}
IsLongest limit (Some run) behind = (run_rows run ≡ limit) ⊎ BeginsOtherwise (step_of run) behind

-- A run is as long as it can be, and a word has rows of both kinds.
abbrev pub IsLongestPart : ℕ → Option ValidityPart → List Step → Type 0
IsLongestPart limit None behind = Unit {0}
IsLongestPart limit (Some (OfRun run)) behind = IsLongest limit (Some run) behind
IsLongestPart limit (Some (OfWord word)) behind = HasBothKinds word
