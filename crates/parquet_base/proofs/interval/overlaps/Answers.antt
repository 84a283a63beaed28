use Rattle.std.proofs.Common.{arith}
use Rattle.parquet_base.specs.Intervals.{interval}
use Rattle.parquet_base.proofs.OverlapLemmas.{pieces-done, pieces-behind}
use Rattle.parquet_base.proofs.ShapeLemmas.{shape-end}
use Rattle.parquet_base.proofs.interval.overlaps.Goals as goal
use Rattle.parquet_base.proofs.interval.overlaps.Goals.{else-loop-run-test, then-loop-run-test+then-run-page}

pub overlap_of-requires-clause-run : goal.overlap_of-requires-clause-run
overlap_of-requires-clause-run c =
    let within = shape-end 0 c.behind_row-run-items.result.now _ c.loop-run.run-index (interval 0 0) c.behind_row-run-items.ensures.shaped c.loop-run-test.true in
    omega (arith, within)

pub returns : goal.returns
returns c =
    let runs = c.behind_row-run-items.result.now in
    elim c.loop-run-test.branch [
      | else-loop-run-test w ↦ pieces-done c.args.page runs c.loop-run.run-index c.loop-run.pieces.items _ w.loop-run-test.false c.loop-run.invariant
      | then-loop-run-test+then-run-page w ↦ pieces-behind c.args.page runs c.loop-run.run-index _ (interval 0 0) c.loop-run.pieces.items _ c.behind_row-run-items.ensures.shaped w.loop-run-test.true w.if-run-page.true c.loop-run.invariant
    ]
