-- Numbers of a fixed width that lie side by side in bytes.
use Rattle.std.specs.Prelude.{ℕ, ◌+◌, ◌*◌, ◌≤◌, List, length}
use Rattle.parquet_encoding.specs.Bits.{packed}
use Rattle.parquet_encoding.specs.declared.packed_run.PackedRun.{PackedRun}

-- its bits lie in the bytes
abbrev pub LiesIn : List ℕ → PackedRun → Type 0
LiesIn bytes run = 8 * run.place + (run.bit + run.count * run.width) ≤ 8 * length bytes

-- its numbers
abbrev pub packed_values : PackedRun → List ℕ → List ℕ
packed_values run bytes = packed bytes run.width (8 * run.place + run.bit) run.count
