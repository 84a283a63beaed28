use Rattle.std.proofs.Common.{◌∙◌, ◌<◌, List, Option, [], ℕ, ap, arith, length, sym}
use Rattle.std.specs.Prelude.{is_some, nat_le, unwrap_or}
use Rattle.std.specs.List.{list_all}
use Rattle.std.proofs.lemmas.List.{length-take}
use Rattle.parquet_encoding.specs.HybridLeft.{hybrid_values}
use Rattle.parquet_encoding.specs.HybridRun.{count_of, run_values}
use Rattle.parquet_encoding.proofs.RunLemmas.{length-run_values}
use Rattle.parquet_page.proofs.LevelLemmas.{fewer_behind, high_front, low_behind}
use Rattle.parquet_page.proofs.level_runs.are_at_most.Goals as goal

pub returns-then-low-eq0 : goal.returns-then-low-eq0
returns-then-low-eq0 c =
    let bytes = c.args.bytes.now in
    let run = c.in-Some.run' in
    let high = c.low_front-low.ensures.high c.if-low-eq0.true in
    sym (c.loop-run.invariant.same ∙ high_front (λ level. nat_le level c.args.top) (count_of run) (hybrid_values c.loop-run.behind bytes) (run_values run bytes) c.in-Some.ensures.values high)

pub loop-run-smaller : goal.loop-run-smaller
loop-run-smaller c =
    let bytes = c.args.bytes.now in
    let run = c.in-Some.run' in
    let numbers = hybrid_values c.loop-run.behind bytes in
    let long = ap length c.in-Some.ensures.values ∙ length-take (count_of run) numbers in
    let some : 0 < length numbers = omega (arith, long, length-run_values bytes run, c.in-Some.ensures.some) in
    fewer_behind c.low_front-low.result numbers _ c.skip.ensures c.if-low-eq0.false some

pub loop-run-preserved : goal.loop-run-preserved
loop-run-preserved c =
    let bytes = c.args.bytes.now in
    let run = c.in-Some.run' in
    let numbers = hybrid_values c.loop-run.behind bytes in
    let low = c.low_front-low.result in
    record {
      spelled = ap is_some c.skip.ensures;
      same = c.loop-run.invariant.same
          ∙ low_behind (λ level. nat_le level c.args.top) low (count_of run) numbers (run_values run bytes) c.in-Some.ensures.values c.low_front-low.ensures.within c.low_front-low.ensures.low
          ∙ ap (λ (o : Option (List ℕ)). list_all (λ level. nat_le level c.args.top) (unwrap_or o [])) (sym c.skip.ensures);
    }
