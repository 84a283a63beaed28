use Rattle.std.proofs.Common.{◌++◌, arith, codes}
use Rattle.std.specs.List.{flat_map}
use Rattle.std.proofs.lemmas.List.{at_drop_more}
use Rattle.pq_common.proofs.TakenLemmas.{piece_refused, piece_taken}
use Rattle.scan_program.specs.Report.{interval_text}
use Rattle.scan_program.proofs.groups.push_others.Goals as goal

pub returns-in_err-push_other : goal.returns-in_err-push_other
returns-in_err-push_other g c =
    piece_refused g.K.Sink _ _ _ _ c.loop-run.block _ _ _ _ _ _ _ c.from_residual.ensures.0
    (at_drop_more (flat_map (λ run. codes " " ++ interval_text run)) c.args.runs.now c.loop-run.run-index _ (omega arith)) c.loop-run.invariant c.in_err-push_other.ensures

pub loop-run-preserved : goal.loop-run-preserved
loop-run-preserved g c =
    piece_taken g.K.Sink _ _ _ _ c.loop-run.block _ _ _ _ _
    (at_drop_more (flat_map (λ run. codes " " ++ interval_text run)) c.args.runs.now c.loop-run.run-index _ (omega arith)) c.loop-run.invariant c.in_ok-push_other.ensures
