use Rattle.parquet_sample.specs.Rows.{qty_bytes}
use Rattle.parquet_sample.proofs.RangeLemmas.{AreRows}
use Rattle.parquet_sample.proofs.body.write_qtys.Given as goal

abbrev pub invariant-loop-n : goal.invariant-loop-n
invariant-loop-n l = AreRows qty_bytes l.initial.body.items l.first l.body.items l.n
