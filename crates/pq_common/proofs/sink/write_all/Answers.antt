use Rattle.std.proofs.Common.{◌∙◌, arith}
use Rattle.pq_common.proofs.Appended.{appended_more}
use Rattle.pq_common.proofs.sink.write_all.Goals as goal

pub loop-at-preserved : goal.loop-at-preserved
loop-at-preserved g c = record {
  within = grind arith;
  appended = appended_more _ _ _ c.args.text.now c.loop-at.at c.in_ok-at.field-0 c.loop-at.invariant.appended c.in_ok-at.ensures.taken;
  quiet = c.in_ok-at.ensures.quiet ∙ c.loop-at.invariant.quiet;
}
