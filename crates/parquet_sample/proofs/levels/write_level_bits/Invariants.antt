use Rattle.std.proofs.Common.{◌-◌}
use Rattle.parquet_sample.specs.Rows.{are_present}
use Rattle.parquet_sample.proofs.levels.write_level_bits.Given as goal
use Rattle.parquet_write.proofs.LevelLemmas.{IsPacking}

abbrev pub invariant-loop-row : goal.invariant-loop-row
invariant-loop-row l = IsPacking (are_present l.first l.rows) l.initial.levels.items l.levels.items l.row

abbrev pub decreases-loop-row : goal.decreases-loop-row
decreases-loop-row l = l.rows - l.row
