use Rattle.parquet_plain.specs.Orders.{numbers_at_most}
use Rattle.parquet_sample.specs.Ends.{bounds_at}
use Rattle.parquet_sample.specs.declared.column.SampleColumn.TheVariants.{Qty}
use Rattle.parquet_sample.specs.Sample.{qty_item}
use Rattle.parquet_sample.proofs.BoundLemmas.{AreBounds}
use Rattle.parquet_sample.proofs.number_ends.qty_ends.Given as goal

abbrev pub invariant-loop-n : goal.invariant-loop-n
invariant-loop-n l = AreBounds numbers_at_most qty_item l.first (bounds_at Qty l.ends) l.n
