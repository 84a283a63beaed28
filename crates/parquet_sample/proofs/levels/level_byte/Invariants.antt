use Rattle.parquet_sample.specs.Rows.{are_present}
use Rattle.parquet_sample.proofs.levels.level_byte.Given as goal
use Rattle.parquet_write.proofs.LevelLemmas.{IsByte}

abbrev pub invariant-loop-left : goal.invariant-loop-left
invariant-loop-left l = IsByte (are_present l.first l.rows) l.rows l.byte l.left

abbrev pub decreases-loop-left : goal.decreases-loop-left
decreases-loop-left l = l.left
