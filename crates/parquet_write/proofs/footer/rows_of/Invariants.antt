use Rattle.std.proofs.Common.{◌≡◌, sum_by, take}
use Rattle.parquet_write.specs.declared.facts.GroupFacts.{GroupFacts}
use Rattle.parquet_write.proofs.footer.rows_of.Given as goal

abbrev pub invariant-loop-group : goal.invariant-loop-group
invariant-loop-group l = l.rows ≡ sum_by (λ (group : GroupFacts). group.rows) (take l.group-index l.groups)
