use Rattle.std.proofs.Common.{◌∙◌, sym}
use Rattle.parquet_encoding.proofs.StepLemmas.{not_ok}
use Rattle.parquet_encoding.proofs.HybridLemmas.{walks_on, walk_stops, walk_ends}
use Rattle.parquet_encoding.proofs.hybrid.check_runs.Goals as goal

pub loop-left-preserved : goal.loop-left-preserved
loop-left-preserved c = record {
  within = c.in_ok-count.ensures.ok.within;
  same = walks_on c.args.width c.args.bytes.now c.loop-left.place c.loop-left.left (c.in_ok-count.count, c.in_ok-count.end) c.loop-left-test.true c.in_ok-count.ensures.ok ∙ c.loop-left.invariant.same;
}

pub returns-in_err-count : goal.returns-in_err-count
returns-in_err-count c =
    not_ok _ c.from_residual.ensures.0 ∙ sym (walk_stops c.args.width c.args.bytes.now c.loop-left.place c.loop-left.left c.loop-left-test.true c.in_err-count.ensures.err) ∙ c.loop-left.invariant.same

pub returns : goal.returns
returns c = sym (walk_ends _ c.args.width _ c.loop-left.left c.loop-left-test.false) ∙ c.loop-left.invariant.same
