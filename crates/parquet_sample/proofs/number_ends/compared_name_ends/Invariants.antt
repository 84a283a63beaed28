use Rattle.parquet_sample.specs.Ends.{bounds_at}
use Rattle.parquet_sample.specs.Sample.{name_item, texts_at_most}
use Rattle.parquet_sample.specs.declared.column.SampleColumn.TheVariants.{Name}
use Rattle.parquet_sample.proofs.BoundLemmas.{AreBounds}
use Rattle.parquet_sample.proofs.number_ends.compared_name_ends.Given as goal

abbrev pub invariant-loop-n : goal.invariant-loop-n
invariant-loop-n l = AreBounds texts_at_most name_item l.first (bounds_at Name l.ends) l.n
