use Rattle.std.proofs.Common.{◌≡◌, ◌≤◌, drop}
use Rattle.parquet_base.specs.Intervals.{is_well_shaped, is_well_shaped_from}
use Rattle.parquet_base.proofs.interval.is_well_shaped.Given as goal

-- the runs so far are well shaped, and it is left to ask the others
abbrev pub invariant-loop-run : goal.invariant-loop-run
invariant-loop-run l = record {
  left : is_well_shaped_from l.from (drop l.run-index l.intervals) l.rows ≡ is_well_shaped l.intervals l.rows;
  within : l.from ≤ l.rows;
}
