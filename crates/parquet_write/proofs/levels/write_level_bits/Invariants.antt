use Rattle.std.proofs.Common.{◌-◌, ◌≤◌, is_some, map}
use Rattle.std.specs.List.{slice_range}
use Rattle.parquet_write.proofs.LevelLemmas.{IsPacking}
use Rattle.parquet_write.proofs.levels.write_level_bits.Given as goal

abbrev pub invariant-loop-row : goal.invariant-loop-row
invariant-loop-row g l = record {
  from : l.from ≤ l.row;
  within : l.row ≤ l.to;
  packing : IsPacking (map is_some (slice_range (g.I.Items.items l.items) l.from l.to)) l.initial.levels.items l.levels.items (l.row - l.from);
}

abbrev pub decreases-loop-row : goal.decreases-loop-row
decreases-loop-row g l = l.to - l.row
