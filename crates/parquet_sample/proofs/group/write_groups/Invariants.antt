use Rattle.std.proofs.Common.{◌-◌}
use Rattle.parquet_sample.proofs.GroupLemmas.{IsGrouping}
use Rattle.parquet_sample.proofs.group.write_groups.Given as goal

abbrev pub invariant-loop-row : goal.invariant-loop-row
invariant-loop-row l = IsGrouping l.initial.parts l.parts l.first l.rows l.groups.items l.row

abbrev pub decreases-loop-row : goal.decreases-loop-row
decreases-loop-row l = l.rows - l.row
