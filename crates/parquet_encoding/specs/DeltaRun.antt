-- Deltas that lie side by side in bytes.
use Rattle.std.specs.Prelude.{ℕ, ◌+◌, ◌*◌, ◌≤◌, ℤ, List, length}
use Rattle.parquet_encoding.specs.Bits.{packed}
use Rattle.parquet_encoding.specs.DeltaBinary.{deltas_of}
use Rattle.parquet_encoding.specs.declared.delta_run.DeltaRun.{DeltaRun}

-- its bits lie in the bytes
abbrev pub DeltasLieIn : List ℕ → DeltaRun → Type 0
DeltasLieIn bytes run = 8 * run.place + (run.bit + run.count * run.width) ≤ 8 * length bytes

-- its deltas
abbrev pub run_deltas : DeltaRun → List ℕ → List ℤ
run_deltas run bytes = deltas_of run.least (packed bytes run.width (8 * run.place + run.bit) run.count)
