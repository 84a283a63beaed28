use Rattle.std.proofs.Common.{append_assoc, codes}
use Rattle.std.specs.Fmt.{decimal}
use Rattle.pq_common.proofs.TakenLemmas.{begun, last_taken, piece_refused, piece_taken}
use Rattle.scan_program.proofs.groups.push_interval.Goals as goal

pub returns-in_err-push_unsigned : goal.returns-in_err-push_unsigned
returns-in_err-push_unsigned g c =
    piece_refused g.K.Sink _ _ _ _ c.args.block.now _ (decimal c.args.run.start) _ _ _ _ _ c.from_residual.ensures.0 (append_assoc (decimal c.args.run.start) (codes "+") (decimal c.args.run.length)) (begun g.K.Sink _ _) c.in_err-push_unsigned.ensures

pub returns : goal.returns
returns g c =
    let start = piece_taken g.K.Sink _ _ _ _ c.args.block.now _ (decimal c.args.run.start) _ _ _ (append_assoc (decimal c.args.run.start) (codes "+") (decimal c.args.run.length)) (begun g.K.Sink _ _) c.in_ok-push_unsigned.ensures in
    last_taken g.K.Sink _ _ _ _ _ _ _ start c.push_labelled.ensures
