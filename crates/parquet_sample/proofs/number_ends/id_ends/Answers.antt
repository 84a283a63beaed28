use Rattle.std.proofs.Common.{arith}
use Rattle.parquet_plain.specs.Orders.{numbers_at_most}
use Rattle.parquet_sample.specs.Ends.{bounds_at}
use Rattle.parquet_sample.specs.declared.column.SampleColumn.TheVariants.{Id}
use Rattle.parquet_sample.specs.Sample.{id_item}
use Rattle.parquet_sample.proofs.BoundLemmas.{bounds_begin, bounds_end, bounds_go_on}
use Rattle.parquet_sample.proofs.number_ends.id_ends.Goals as goal

pub loop-n-init : goal.loop-n-init
loop-n-init c = bounds_begin numbers_at_most id_item c.args.first

pub loop-n-preserved : goal.loop-n-preserved
loop-n-preserved c = bounds_go_on numbers_at_most id_item c.args.first (bounds_at Id c.loop-n.ends) _ c.loop-n.n (omega arith) c.loop-n.invariant c.with_number-ends.ensures

pub returns : goal.returns
returns c = bounds_end numbers_at_most id_item c.args.first c.args.rows (bounds_at Id c.loop-n.ends) c.loop-n.n (omega arith) c.loop-n.invariant
