use Rattle.std.proofs.Common.{◌≡◌, ◌++◌, drop}
use Rattle.parquet_base.specs.Intervals.{overlaps}
use Rattle.parquet_base.proofs.interval.overlaps.Given as goal

-- what lies in the page of the intervals so far, and of those that are left
abbrev pub invariant-loop-run : goal.invariant-loop-run
invariant-loop-run l = l.pieces.items ++ overlaps l.page (drop l.run-index l.run-items) ≡ overlaps l.page l.intervals
