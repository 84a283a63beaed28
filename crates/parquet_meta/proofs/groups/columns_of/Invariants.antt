use Rattle.parquet_meta.proofs.UnplacedLemmas.{IsPlacing}
use Rattle.parquet_meta.proofs.groups.columns_of.Given as goal

abbrev pub invariant-leaves : goal.invariant-leaves
invariant-leaves l = IsPlacing l.leaves l.initial.columns.items l.types.items l.index l.columns.items
