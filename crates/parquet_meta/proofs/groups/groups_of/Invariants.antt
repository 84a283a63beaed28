use Rattle.parquet_meta.specs.File.{group_of}
use Rattle.parquet_meta.proofs.ListLemmas.{IsMaking}
use Rattle.parquet_meta.proofs.groups.groups_of.Given as goal

abbrev pub invariant-groups : goal.invariant-groups
invariant-groups l = IsMaking (group_of l.fn.leaves) l.fn.groups.items l.group-iterator.rest.items l.found.items
