use Rattle.std.proofs.Common.{codes, refl}
use Rattle.pq_common.proofs.TakenLemmas.{begun, last_taken, piece_refused, piece_taken}
use Rattle.scan_program.specs.Report.{intervals_text}
use Rattle.scan_program.proofs.groups.push_runs.Goals as goal

pub returns-in_err-push : goal.returns-in_err-push
returns-in_err-push g c =
    piece_refused g.K.Sink _ _ _ _ c.args.block.now _ (codes " ") _ _ _ _ _ c.from_residual.ensures.0 refl (begun g.K.Sink _ _) c.in_err-push.ensures

pub returns-in_err-push_intervals : goal.returns-in_err-push_intervals
returns-in_err-push_intervals g c =
    let blank = piece_taken g.K.Sink _ _ _ _ c.args.block.now _ (codes " ") _ _ _ refl (begun g.K.Sink _ _) c.in_ok-push.ensures in
    piece_refused g.K.Sink _ _ _ _ c.push.new.self _ (intervals_text c.args.runs.now) _ (codes "\n") _ _ _ c.from_residual-in_err-push_intervals.ensures.0 refl blank c.in_err-push_intervals.ensures

pub returns : goal.returns
returns g c =
    let blank = piece_taken g.K.Sink _ _ _ _ c.args.block.now _ (codes " ") _ _ _ refl (begun g.K.Sink _ _) c.in_ok-push.ensures in
    let runs = piece_taken g.K.Sink _ _ _ _ c.push.new.self _ (intervals_text c.args.runs.now) _ (codes "\n") _ refl blank c.in_ok-push_intervals.ensures in
    last_taken g.K.Sink _ _ _ _ _ _ _ runs c.push-2.ensures
