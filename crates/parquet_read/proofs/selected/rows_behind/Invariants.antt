use Rattle.std.proofs.Common.{◌≡◌, ◌-◌, drop}
use Rattle.parquet_base.specs.Intervals.{row_count}
use Rattle.parquet_read.proofs.selected.rows_behind.Given as goal

abbrev pub invariant-loop-run : goal.invariant-loop-run
invariant-loop-run l = l.left - row_count (drop l.run-index l.runs) ≡ l.rows - row_count l.runs
