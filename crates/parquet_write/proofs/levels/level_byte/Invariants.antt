use Rattle.std.proofs.Common.{◌-◌, ◌≤◌, is_some, map}
use Rattle.parquet_write.proofs.LevelLemmas.{IsByte}
use Rattle.parquet_write.proofs.levels.level_byte.Given as goal

abbrev pub invariant-loop-row : goal.invariant-loop-row
invariant-loop-row g l = record {
  from : l.from ≤ l.row;
  levels : IsByte (map is_some (g.I.Items.items l.items)) l.to l.byte l.row;
}

abbrev pub decreases-loop-row : goal.decreases-loop-row
decreases-loop-row g l = l.row - l.from
