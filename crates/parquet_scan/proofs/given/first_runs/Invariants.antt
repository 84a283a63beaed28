use Rattle.std.proofs.Common.{◌≡◌, ◌-◌, ◌++◌, drop}
use Rattle.parquet_base.specs.Intervals.{row_count}
use Rattle.parquet_scan.proofs.ClippedLemmas.{clipped}
use Rattle.parquet_scan.proofs.given.first_runs.Given as goal

-- the runs so far stand in front of those that are still to come
abbrev pub invariant-loop-run : goal.invariant-loop-run
invariant-loop-run l = record {
  runs : l.first.items ++ clipped l.left (drop l.run-index l.runs) ≡ clipped l.limit l.runs;
  left : l.left - row_count (drop l.run-index l.runs) ≡ l.limit - row_count l.runs;
}
