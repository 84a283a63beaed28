use Rattle.std.proofs.Common.{arith}
use Rattle.parquet_base.proofs.SegmentLemmas.{pages_at, page_kept, page_left_out, page_empty, adjacent-le, runs_below}
use Rattle.parquet_base.proofs.interval.page_runs.Goals as goal
use Rattle.parquet_base.proofs.interval.page_runs.Goals.{then-keep-i+then-page-gt0+in_ok-push_run, else-keep-i, else-keep-i-via-then-keep-i+else-page-gt0, else-keep-i-via-else-keep-i}

pub push_run-requires-clause-fits : goal.push_run-requires-clause-fits
push_run-requires-clause-fits c =
    let here = pages_at _ c.args.pages.now c.args.keep.now c.args.rows _ c.loop-i.i c.requires.same_length c.loop-i-test.true c.loop-i.invariant in
    omega (arith, adjacent-le _ _ c.args.rows (here.adjacent).1)

pub push_run-requires-clause-behind : goal.push_run-requires-clause-behind
push_run-requires-clause-behind c =
    let here = pages_at _ c.args.pages.now c.args.keep.now c.args.rows _ c.loop-i.i c.requires.same_length c.loop-i-test.true c.loop-i.invariant in
    rw here.so_far (rw (here.adjacent).0 (runs_below _ here.at))

pub loop-i-preserved : goal.loop-i-preserved
loop-i-preserved c =
    let here = pages_at _ c.args.pages.now c.args.keep.now c.args.rows _ c.loop-i.i c.requires.same_length c.loop-i-test.true c.loop-i.invariant in
    elim c.if-keep-i.branch [
      | then-keep-i+then-page-gt0+in_ok-push_run w ↦ rw w.runs-is (page_kept _ _ _ _ _ _ _ here _ w.if-keep-i.true w.in_ok-push_run.ensures.ok)
      | else-keep-i w ↦ rw w.runs-is (elim w.else-keep-i.branch [
        | else-keep-i-via-then-keep-i+else-page-gt0 w' ↦ page_empty _ _ _ _ _ _ _ here (omega arith)
        | else-keep-i-via-else-keep-i w' ↦ page_left_out _ _ _ _ _ _ _ here w'.if-keep-i.false
      ])
    ]
