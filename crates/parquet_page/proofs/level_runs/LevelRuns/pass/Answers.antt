use Rattle.std.proofs.Common.{◌∙◌, arith, sym}
use Rattle.parquet_encoding.specs.HybridLeft.{hybrid_left}
use Rattle.parquet_page.proofs.LevelLemmas.{passes}
use Rattle.parquet_page.proofs.level_runs.LevelRuns.pass.Goals as goal

pub loop-left-preserved : goal.loop-left-preserved
loop-left-preserved c =
    let bytes = c.args.levels.now in
    let self = c.loop-left.self in
    let before = c.loop-left.invariant in
    let turn = passes self.top c.in-Some.passed c.in-Some.places c.loop-left.left (hybrid_left self.levels bytes) (hybrid_left c.skip.new.self bytes) before.spelled c.skip.ensures c.in-Some.ensures.most c.in-Some.ensures.tops in
    record {
      spelled = turn.spelled;
      counted = omega (arith, before.counted, turn.counted);
      behind = sym turn.behind ∙ before.behind;
      most = omega (arith, before.most, turn.few, c.in-Some.ensures.most);
    }
