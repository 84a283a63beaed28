use Rattle.std.proofs.Common.{arith}
use Rattle.parquet_sample.specs.Ends.{bounds_at}
use Rattle.parquet_sample.specs.Sample.{name_item, texts_at_most}
use Rattle.parquet_sample.specs.declared.column.SampleColumn.TheVariants.{Name}
use Rattle.parquet_sample.proofs.BoundLemmas.{bounds_begin, bounds_end, bounds_go_on}
use Rattle.parquet_sample.proofs.number_ends.compared_name_ends.Goals as goal

pub loop-n-init : goal.loop-n-init
loop-n-init c = bounds_begin texts_at_most name_item c.args.first

pub loop-n-preserved : goal.loop-n-preserved
loop-n-preserved c = bounds_go_on texts_at_most name_item c.args.first (bounds_at Name c.loop-n.ends) _ c.loop-n.n (omega arith) c.loop-n.invariant c.with_name-ends.ensures

pub returns : goal.returns
returns c = bounds_end texts_at_most name_item c.args.first c.args.rows (bounds_at Name c.loop-n.ends) c.loop-n.n (omega arith) c.loop-n.invariant
