-- Runs of a page's rows.
use Rattle.std.specs.Prelude.{◌≡◌, ℕ, ◌<◌, ◌≤◌, List, [], ◌++◌, replicate, Option, Some, None}
use Rattle.parquet_page.specs.Plan.{Keep, KeepNull, Pass, Step}
use Rattle.parquet_page.specs.declared.run.Run.{Run}
use Rattle.parquet_page.specs.declared.run.Run.TheVariants.{Present, Null, Passed}

-- the steps that a run stands for
abbrev pub expand : Run → List Step
expand (Present rows) = replicate rows Keep
expand (Null rows) = replicate rows KeepNull
expand (Passed values) = replicate values Pass

abbrev pub run_items : Run → ℕ
run_items (Present rows) = rows
run_items (Null rows) = rows
run_items (Passed values) = values

-- how many rows a run gives
abbrev pub run_rows : Run → ℕ
run_rows (Present rows) = rows
run_rows (Null rows) = rows
run_rows (Passed values) = 0

-- The steps begin with a run that gives so many rows at most; without a run none is left.
abbrev pub GivesRun : ℕ → List Step → List Step → Option Run → Type 0
GivesRun limit old new None = (old ≡ []) × (new ≡ [])
GivesRun limit old new (Some run) = (old ≡ expand run ++ new) × (0 < run_items run) × (run_rows run ≤ limit)
