use Rattle.std.proofs.Common.{ap}
use Rattle.scan_program.specs.Report.{interval_text, intervals_text}
use Rattle.pq_common.proofs.TakenLemmas.{begun, last_taken, piece_refused, piece_taken}
use Rattle.scan_program.proofs.groups.push_intervals.Goals as goal

pub returns-in_err-push_interval-in-Some : goal.returns-in_err-push_interval-in-Some
returns-in_err-push_interval-in-Some g c =
    piece_refused g.K.Sink _ _ _ _ c.args.block.now _ (interval_text c.in-Some.first.now) _ _ _ _ _ c.from_residual.ensures.0
    (ap intervals_text c.in-Some.ensures.cases.0) (begun g.K.Sink _ _) c.in_err-push_interval-in-Some.ensures

pub returns-in_ok-push_interval-in-Some : goal.returns-in_ok-push_interval-in-Some
returns-in_ok-push_interval-in-Some g c =
    let first = piece_taken g.K.Sink _ _ _ _ c.args.block.now _ (interval_text c.in-Some.first.now) _ _ _
    (ap intervals_text c.in-Some.ensures.cases.0) (begun g.K.Sink _ _) c.in_ok-push_interval-in-Some.ensures in
    last_taken g.K.Sink _ _ _ _ _ _ _ first c.push_others.ensures
