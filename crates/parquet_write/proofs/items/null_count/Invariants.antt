use Rattle.parquet_write.proofs.ItemLemmas.{AreNulls}
use Rattle.parquet_write.proofs.items.null_count.Given as goal

abbrev pub invariant-loop-row : goal.invariant-loop-row
invariant-loop-row g l = AreNulls (g.I.Items.items l.items) l.from l.nulls l.row
