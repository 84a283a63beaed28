use Rattle.parquet_sample.specs.Rows.{id_bytes}
use Rattle.parquet_sample.proofs.RangeLemmas.{AreRows}
use Rattle.parquet_sample.proofs.body.write_ids.Given as goal

abbrev pub invariant-loop-n : goal.invariant-loop-n
invariant-loop-n l = AreRows id_bytes l.initial.body.items l.first l.body.items l.n
