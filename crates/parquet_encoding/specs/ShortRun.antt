-- Runs behind a header of one byte.
use Rattle.std.specs.Prelude.{ℕ, ◌+◌, ◌<◌, ◌≤◌, List, length, get_or}
use Rattle.parquet_encoding.specs.Hybrid.{run_of, run_count, run_size}

-- At a place stands a run of at least one and at most so many values behind a header of one byte, and lies whole in the bytes.
-- (A number of one byte is one below 128, and the header of a run of no values is 0 or 1.)
pub record IsShortRun (bytes : List ℕ) (place width most : ℕ) : Type 0 where
  pub there : place < length bytes
  pub some : 2 ≤ get_or bytes place 0
  pub short : get_or bytes place 0 < 128
  pub few : run_count (run_of (get_or bytes place 0)) ≤ most
  pub lies : place + 1 + run_size (run_of (get_or bytes place 0)) width ≤ length bytes
