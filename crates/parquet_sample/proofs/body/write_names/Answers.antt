use Rattle.std.proofs.Common.{arith}
use Rattle.parquet_sample.specs.Rows.{text_bytes}
use Rattle.parquet_sample.proofs.RangeLemmas.{rows_begin, rows_end, rows_go_on}
use Rattle.parquet_sample.proofs.body.write_names.Goals as goal

pub loop-n-init : goal.loop-n-init
loop-n-init c = rows_begin text_bytes c.args.body.now.items c.args.first

pub loop-n-preserved : goal.loop-n-preserved
loop-n-preserved c = rows_go_on text_bytes c.args.body.now.items c.args.first c.loop-n.body.items _ c.loop-n.n (omega arith) c.loop-n.invariant c.in_ok-write_name.ensures.written

pub returns : goal.returns
returns c = record { written = rows_end text_bytes c.args.body.now.items c.args.first c.args.rows c.loop-n.body.items c.loop-n.n (omega arith) c.loop-n.invariant }
