use Rattle.std.proofs.Common.{◌∙◌, arith}
use Rattle.parquet_base.proofs.SegmentLemmas.{all_rows, no_rows}
use Rattle.parquet_base.proofs.interval.whole.Goals as goal
use Rattle.parquet_base.proofs.interval.whole.Goals.{then-rows-gt0+in_ok-push_run, else-rows-gt0}

pub returns : goal.returns
returns c = elim c.if-rows-gt0.branch [
  | then-rows-gt0+in_ok-push_run w ↦ rw w.runs-is (w.in_ok-push_run.ensures.ok ∙ all_rows _ c.args.rows c.new-runs.ensures.items)
  | else-rows-gt0 w ↦ rw w.runs-is (no_rows _ c.args.rows c.new-runs.ensures.items (omega arith))
]
