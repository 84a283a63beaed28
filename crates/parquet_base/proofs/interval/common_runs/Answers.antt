use Rattle.std.proofs.Common.{inl, inr, drop, arith, refl}
use Rattle.std.proofs.lemmas.List.{drop_all}
use Rattle.parquet_base.proofs.SegmentLemmas.{common_at, common_below, common_done, advance, advance_second, first_stays, second_stays}
use Rattle.parquet_base.proofs.interval.common_runs.Goals as goal
use Rattle.parquet_base.proofs.interval.common_runs.Goals.{then-start-end+in_ok-push_run, else-start-end, then-loop-i-test+else-j-second, else-loop-i-test}

pub push_run-requires-clause-behind : goal.push_run-requires-clause-behind
push_run-requires-clause-behind c =
    let here = common_at _ c.args.first.now c.args.second.now c.args.rows _ c.loop-i.i c.loop-i.j c.loop-i-test.true c.if-j-second.true c.loop-i.invariant.left in
    common_below _ _ _ _ _ _ _ _ here c.max-start.ensures

pub loop-i-preserved-then-a_end-b_end : goal.loop-i-preserved-then-a_end-b_end
loop-i-preserved-then-a_end-b_end c =
    let here = common_at _ c.args.first.now c.args.second.now c.args.rows _ c.loop-i.i c.loop-i.j c.loop-i-test.true c.if-j-second.true c.loop-i.invariant.left in
    record {
      left = second_stays _ _ c.args.second.now _ _ c.loop-i.j c.if-j-second.true
          (advance _ _ _ _ _ _ _ c.if-start-end.runs.items _ _ here c.max-start.ensures c.min-end.ensures c.if-a_end-b_end.true
          (λ h. elim c.if-start-end.branch [ then-start-end+in_ok-push_run w ↦ rw w.runs-is w.in_ok-push_run.ensures.ok | else-start-end w ↦ absurd (omega arith) ])
          (λ h. elim c.if-start-end.branch [ then-start-end+in_ok-push_run w ↦ absurd (omega arith) | else-start-end w ↦ rw w.runs-is refl ]));
      first_within = omega arith;
      second_within = omega arith;
    }

pub loop-i-preserved : goal.loop-i-preserved
loop-i-preserved c =
    let here = common_at _ c.args.first.now c.args.second.now c.args.rows _ c.loop-i.i c.loop-i.j c.loop-i-test.true c.if-j-second.true c.loop-i.invariant.left in
    record {
      left = first_stays _ c.args.first.now _ _ _ c.loop-i.i c.loop-i-test.true
          (advance_second _ _ _ _ _ _ _ c.if-start-end.runs.items _ _ here c.max-start.ensures c.min-end.ensures (omega arith)
          (λ h. elim c.if-start-end.branch [ then-start-end+in_ok-push_run w ↦ rw w.runs-is w.in_ok-push_run.ensures.ok | else-start-end w ↦ absurd (omega arith) ])
          (λ h. elim c.if-start-end.branch [ then-start-end+in_ok-push_run w ↦ absurd (omega arith) | else-start-end w ↦ rw w.runs-is refl ]));
      first_within = omega arith;
      second_within = omega arith;
    }

pub returns : goal.returns
returns c = common_done _ (drop c.loop-i.i c.args.first.now) (drop c.loop-i.j c.args.second.now) _ _
    (elim c.loop-i-test.branch [
      | then-loop-i-test+else-j-second w ↦ inr (drop_all c.loop-i.j c.args.second.now (omega arith))
      | else-loop-i-test w ↦ inl (drop_all c.loop-i.i c.args.first.now (omega arith))
    ])
    c.loop-i.invariant.left
