-- The values that a decoder of the hybrid encoding has still to give, on the bytes that it is handed.
use Rattle.std.specs.Prelude.{ℕ, List, [], ◌++◌, length, drop, Option, Some, None, unwrap_or}
use Rattle.parquet_base.specs.Reading.{◌>>=◌}
use Rattle.parquet_encoding.specs.Hybrid.{runs}
use Rattle.parquet_encoding.specs.HybridRun.{count_of, run_left}
use Rattle.parquet_encoding.specs.declared.hybrid.HybridRle.{HybridRle}
use Rattle.parquet_encoding.specs.declared.run.HybridRun.{HybridRun}

-- those of the run at which it stands, and those of the runs behind it; none where they are not in the bytes
unfoldable pub hybrid_left : HybridRle → List ℕ → Option (List ℕ)
hybrid_left decoder bytes = do
  here ← run_left decoder.run bytes
  others ← runs (length bytes) decoder.width (drop decoder.next bytes) decoder.behind
  Some (here ++ others)

abbrev pub hybrid_values : HybridRle → List ℕ → List ℕ
hybrid_values decoder bytes = unwrap_or (hybrid_left decoder bytes) []

-- how many values a run has, if there is one
abbrev pub given_count : Option HybridRun → ℕ
given_count None = 0
given_count (Some run) = count_of run
