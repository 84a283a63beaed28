-- Rows of a page in parts: runs, and words of bits.
use Rattle.std.specs.Prelude.{◌≡◌, ℕ, ◌<◌, ◌≤◌, Bool, List, [], ◌++◌, Option, Some, None}
use Rattle.columns_core.specs.Bits.{low_bits}
use Rattle.parquet_page.specs.Levels.{present_count}
use Rattle.parquet_page.specs.Plan.{Step, plan}
use Rattle.parquet_page.specs.Runs.{expand, run_items, run_rows}
use Rattle.parquet_page.specs.declared.validity_part.ValidityPart.{ValidityPart}
use Rattle.parquet_page.specs.declared.validity_part.ValidityPart.TheVariants.{Run, Word}
use Rattle.parquet_page.specs.declared.validity_part.ValidityWord.{ValidityWord}

-- which rows of a word have a value
abbrev pub word_places : ValidityWord → List Bool
word_places word = low_bits word.bits word.rows

-- some of its rows have a value, and some are null
abbrev pub HasBothKinds : ValidityWord → Type 0
HasBothKinds word = (0 < present_count (word_places word)) × (present_count (word_places word) < word.rows)

-- all of its rows are given
abbrev pub word_steps : ValidityWord → List Step
word_steps word = plan None (word_places word)

-- the steps that a part stands for
abbrev pub part_steps : ValidityPart → List Step
part_steps (Run run) = expand run
part_steps (Word word) = word_steps word

abbrev pub part_length : ValidityPart → ℕ
part_length (Run run) = run_items run
part_length (Word word) = word.rows

-- how many rows a part gives
abbrev pub part_rows : ValidityPart → ℕ
part_rows (Run run) = run_rows run
part_rows (Word word) = word.rows

-- The steps begin with a part that gives so many rows at most; without a part none is left.
abbrev pub GivesPart : ℕ → List Step → List Step → Option ValidityPart → Type 0
GivesPart limit old new None = (old ≡ []) × (new ≡ [])
GivesPart limit old new (Some part) = (old ≡ part_steps part ++ new) × (0 < part_length part) × (part_rows part ≤ limit)
