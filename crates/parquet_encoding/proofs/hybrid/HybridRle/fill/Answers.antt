use Rattle.std.proofs.Common.{◌≡◌, ◌-◌, ◌∙◌, length, take, drop, Some, unwrap_or, [], ap, arith}
use Rattle.std.proofs.lemmas.List.{length-drop, take_all, drop-drop}
use Rattle.parquet_encoding.specs.HybridLeft.{hybrid_values}
use Rattle.parquet_encoding.proofs.WalkLemmas.{fills_more}
use Rattle.parquet_encoding.proofs.hybrid.HybridRle.fill.Goals as goal

pub loop-done-preserved : goal.loop-done-preserved
loop-done-preserved c =
    let bytes = c.args.bytes.now in
    let values = hybrid_values c.args.self.now bytes in
    let first = c.args.out.now in
    let now = c.loop-done.out in
    let done = c.loop-done.done in
    let count = c.fill_run-count.result in
    let left : hybrid_values c.loop-done.self bytes ≡ drop done values = ap (λ o. unwrap_or o []) c.loop-done.invariant.left in
    let all : take (length now - done) (drop done now) ≡ drop done now = take_all (length now - done) (drop done now) (omega (arith, length-drop done now)) in
    record {
      left = c.fill_run-count.ensures.rest ∙ ap Some (ap (drop count) left ∙ drop-drop count done values);
      filled = fills_more values first now (hybrid_values c.loop-done.self bytes) c.fill_run-count.new.out _ done count (length now - done)
          c.loop-done.invariant.filled c.loop-done.invariant.few c.loop-done.invariant.room left all c.fill_run-count.ensures.values c.fill_run-count.ensures.few c.fill_run-count.ensures.room (omega arith);
      few = omega (arith, ap length left, length-drop done values);
      room = omega (arith, ap length all, length-drop done now, c.fill_run-count.ensures.room);
    }
