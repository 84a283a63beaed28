use Rattle.std.proofs.Common.{codes, refl}
use Rattle.pq_common.proofs.TakenLemmas.{begun, last_taken, piece_refused, piece_taken}
use Rattle.pq_common.proofs.rows.push_other.Goals as goal

pub returns-in_err-push : goal.returns-in_err-push
returns-in_err-push g c =
    piece_refused g.K.Sink _ _ _ _ c.args.block.now _ (codes "\t") _ _ _ _ _ c.from_residual.ensures.0 refl (begun g.K.Sink _ _) c.in_err-push.ensures

pub returns : goal.returns
returns g c =
    let tab = piece_taken g.K.Sink _ _ _ _ c.args.block.now _ (codes "\t") _ _ _ refl (begun g.K.Sink _ _) c.in_ok-push.ensures in
    last_taken g.K.Sink _ _ _ _ _ _ _ tab c.push_cell.ensures
