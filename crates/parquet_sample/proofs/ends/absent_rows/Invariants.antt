use Rattle.parquet_sample.proofs.NullLemmas.{AreNulls}
use Rattle.parquet_sample.proofs.ends.absent_rows.Given as goal

abbrev pub invariant-loop-n : goal.invariant-loop-n
invariant-loop-n l = AreNulls l.first l.nulls l.n
