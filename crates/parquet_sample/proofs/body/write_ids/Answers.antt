use Rattle.std.proofs.Common.{ℕ, List, ◌++◌, ap, ◌∙◌, arith}
use Rattle.parquet_sample.specs.Rows.{id_bytes}
use Rattle.parquet_sample.proofs.RangeLemmas.{rows_begin, rows_end, rows_go_on}
use Rattle.parquet_sample.proofs.body.write_ids.Goals as goal

pub loop-n-init : goal.loop-n-init
loop-n-init c = rows_begin id_bytes c.args.body.now.items c.args.first

pub loop-n-preserved : goal.loop-n-preserved
loop-n-preserved c = rows_go_on id_bytes c.args.body.now.items c.args.first c.loop-n.body.items _ c.loop-n.n (omega arith) c.loop-n.invariant (c.in_ok-extend_from_slice.ensures.items ∙ ap (λ (bs : List ℕ). c.loop-n.body.items ++ bs) c.to_le_bytes.ensures)

pub returns : goal.returns
returns c = record { written = rows_end id_bytes c.args.body.now.items c.args.first c.args.rows c.loop-n.body.items c.loop-n.n (omega arith) c.loop-n.invariant }
