use Rattle.std.proofs.Common.{◌≡◌, ◌+◌, ◌-◌, ◌∙◌, ap, [], length, take, drop, unwrap_or, arith}
use Rattle.parquet_encoding.specs.DeltaRun.{run_deltas}
use Rattle.parquet_encoding.specs.DeltaWalk.{deltas}
use Rattle.parquet_encoding.proofs.SumLemmas.{none_behind, none_before, passes_run, writes_run, same_number, length-before}
use Rattle.parquet_encoding.proofs.DeltaWalkLemmas.{length-run_deltas}
use Rattle.parquet_encoding.proofs.WalkLemmas.{passes_none, passes_more, length-put_mid}
use Rattle.parquet_encoding.proofs.delta_walk.DeltaWalk.sums.Goals as goal

pub loop-done-init : goal.loop-done-init
loop-done-init c = record { value = none_behind _; left = passes_none _ c.requires.spelled; written = none_before _; few = omega arith }

pub loop-done-preserved : goal.loop-done-preserved
loop-done-preserved c =
    let bytes = c.args.bytes.now in
    let values = deltas c.args.self.now bytes in
    let done = c.loop-done.done in
    let out = c.loop-done.out in
    let part = c.sums-value.new.out in
    let run = c.next_run-run.result in
    let k = done + run.count - done in
    let own : run_deltas run bytes ≡ take run.count (drop done values) = c.next_run-run.ensures.deltas ∙ ap (λ o. take run.count (unwrap_or o [])) c.loop-done.invariant.left in
    let long = length-run_deltas bytes run in
    let size : length part ≡ run.count = ap length c.sums-value.ensures.sums ∙ length-before _ (run_deltas run bytes) ∙ long in
    record {
      value = same_number c.sums-value.result (record { sfits = c.sums-value.type_inv })
          ∙ passes_run _ _ c.sums-value.result values (run_deltas run bytes) done run.count c.loop-done.invariant.value own c.sums-value.ensures.behind;
      left = passes_more _ _ values done run.count c.loop-done.invariant.left c.next_run-run.ensures.rest;
      written = writes_run _ _ values (run_deltas run bytes) out part done run.count k c.loop-done.invariant.value own long c.sums-value.ensures.sums c.loop-done.invariant.few c.loop-done.invariant.written;
      few = omega (arith, c.next_run-run.ensures.most, length-put_mid done k out part, size);
    }
