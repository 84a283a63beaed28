-- The places that a walk over definition levels has still to tell of.
use Rattle.std.specs.Prelude.{ℕ, ◌==◌, nat_le, Bool, List, [], map, Option, unwrap_or}
use Rattle.std.specs.List.{list_all}
use Rattle.parquet_base.specs.Reading.{◌>>=◌, given}
use Rattle.parquet_encoding.specs.HybridLeft.{hybrid_left}
use Rattle.parquet_page.specs.declared.level_runs.LevelRuns.{LevelRuns}

-- A place has a value where its level is the top one. There is no level above it.
abbrev pub level_places : ℕ → Option (List ℕ) → Option (List Bool)
level_places top left = do
  numbers ← left
  given (list_all (λ level. nat_le level top) numbers) (map (λ level. level == top) numbers)

abbrev pub places_left : LevelRuns → List ℕ → Option (List Bool)
places_left runs levels = level_places runs.top (hybrid_left runs.levels levels)

abbrev pub places : LevelRuns → List ℕ → List Bool
places runs levels = unwrap_or (places_left runs levels) []
