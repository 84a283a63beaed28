use Rattle.std.proofs.Common.{refl}
use Rattle.pq_common.specs.CellText.{quoted}
use Rattle.pq_common.proofs.TakenLemmas.{begun, last_taken, piece_refused, piece_taken}
use Rattle.pq_common.proofs.text_column.push_quoted_line.Goals as goal

pub returns-in_err-push_quoted : goal.returns-in_err-push_quoted
returns-in_err-push_quoted g c =
    piece_refused g.K.Sink _ _ _ _ c.args.block.now _ (quoted c.args.bytes.now) _ _ _ _ _ c.from_residual.ensures.0 refl (begun g.K.Sink _ _) c.in_err-push_quoted.ensures

pub returns : goal.returns
returns g c =
    let text = piece_taken g.K.Sink _ _ _ _ c.args.block.now _ (quoted c.args.bytes.now) _ _ _ refl (begun g.K.Sink _ _) c.in_ok-push_quoted.ensures in
    last_taken g.K.Sink _ _ _ _ _ _ _ text c.push.ensures
