use Rattle.std.proofs.Common.{sym, ◌∙◌}
use Rattle.parquet_encoding.specs.HybridLeft.{hybrid_values}
use Rattle.flat_values.proofs.KeyLemmas.{past-behind, past-here}
use Rattle.flat_values.proofs.keys.has_past.Goals as goal

pub returns-then-past : goal.returns-then-past
returns-then-past c =
    sym (past-here c.args.entries (hybrid_values c.loop-past.left c.args.bytes.now) (hybrid_values c.next_past.new.keys c.args.bytes.now) c.in-Some.past c.in-Some.ensures.passed c.if-past.true) ∙ c.loop-past.invariant.same

pub loop-past-preserved : goal.loop-past-preserved
loop-past-preserved c = record {
  spelled = c.in-Some.ensures.spelled;
  same = past-behind c.args.entries (hybrid_values c.loop-past.left c.args.bytes.now) (hybrid_values c.next_past.new.keys c.args.bytes.now) c.in-Some.past c.in-Some.ensures.passed c.if-past.false ∙ c.loop-past.invariant.same;
}
