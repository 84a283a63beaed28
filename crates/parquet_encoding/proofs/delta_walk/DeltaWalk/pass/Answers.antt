use Rattle.std.proofs.Common.{◌≡◌, ◌∙◌, ap, [], take, drop, unwrap_or, arith}
use Rattle.parquet_encoding.specs.DeltaRun.{run_deltas}
use Rattle.parquet_encoding.specs.DeltaWalk.{deltas}
use Rattle.parquet_encoding.proofs.SumLemmas.{none_behind, passes_run, same_number}
use Rattle.parquet_encoding.proofs.WalkLemmas.{passes_none, passes_more}
use Rattle.parquet_encoding.proofs.delta_walk.DeltaWalk.pass.Goals as goal

pub loop-done-init : goal.loop-done-init
loop-done-init c = record { value = none_behind _; left = passes_none _ c.requires.spelled; few = omega arith }

pub loop-done-preserved : goal.loop-done-preserved
loop-done-preserved c =
    let bytes = c.args.bytes.now in
    let values = deltas c.args.self.now bytes in
    let done = c.loop-done.done in
    let run = c.next_run-run.result in
    let own : run_deltas run bytes ≡ take run.count (drop done values) = c.next_run-run.ensures.deltas ∙ ap (λ o. take run.count (unwrap_or o [])) c.loop-done.invariant.left in
    record {
      value = same_number c.pass-value.result (record { sfits = c.pass-value.type_inv })
          ∙ passes_run _ _ c.pass-value.result values (run_deltas run bytes) done run.count c.loop-done.invariant.value own c.pass-value.ensures;
      left = passes_more _ _ values done run.count c.loop-done.invariant.left c.next_run-run.ensures.rest;
      few = omega (arith, c.next_run-run.ensures.most);
    }
