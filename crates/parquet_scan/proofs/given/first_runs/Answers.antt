use Rattle.std.proofs.Common.{◌∙◌, ap, arith}
use Rattle.parquet_base.specs.Intervals.{is_well_shaped, rows_of}
use Rattle.parquet_scan.proofs.ClippedLemmas.{clipped_done, clipped_rows, clipped_shape, none_left}
use Rattle.parquet_scan.proofs.given.first_runs.Goals as goal

pub returns-clause-rows : goal.returns-clause-rows
returns-clause-rows c =
    ap rows_of (clipped_done c.loop-run.first.items c.args.runs.now c.loop-run.left c.args.limit c.loop-run.run-index (omega arith) c.loop-run.invariant.runs) ∙ clipped_rows c.args.limit c.args.runs.now

pub returns-clause-left : goal.returns-clause-left
returns-clause-left c = none_left c.args.runs.now c.loop-run.run-index c.loop-run.left c.args.limit (omega arith) c.loop-run.invariant.left

pub returns-clause-shaped : goal.returns-clause-shaped
returns-clause-shaped c rows shaped =
    ap (λ runs. is_well_shaped runs rows) (clipped_done c.loop-run.first.items c.args.runs.now c.loop-run.left c.args.limit c.loop-run.run-index (omega arith) c.loop-run.invariant.runs)
    ∙ clipped_shape 0 c.args.limit c.args.runs.now rows shaped
