use Rattle.std.proofs.Common.{◌+◌, ◌-◌, ◌≤◌, ◌&&◌, drop, length}
use Rattle.parquet_base.specs.Intervals.{covers}
use Rattle.parquet_base.proofs.SegmentLemmas.{CommonLeft}
use Rattle.parquet_base.proofs.interval.common_runs.Given as goal

-- the runs so far are those of the rows before what is left of both lists
abbrev pub invariant-loop-i : goal.invariant-loop-i
invariant-loop-i l = record {
  left : CommonLeft (λ row. covers l.first row && covers l.second row) (drop l.i l.first) (drop l.j l.second) l.rows l.runs.items;
  first_within : l.i ≤ length l.first;
  second_within : l.j ≤ length l.second;
}

abbrev pub decreases-loop-i : goal.decreases-loop-i
decreases-loop-i l = (length l.first - l.i) + (length l.second - l.j)
