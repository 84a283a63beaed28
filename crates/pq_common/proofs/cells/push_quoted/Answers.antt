use Rattle.std.proofs.Common.{codes, refl}
use Rattle.std.specs.List.{flat_map}
use Rattle.pq_common.specs.CellText.{quoted_byte}
use Rattle.pq_common.proofs.TakenLemmas.{begun, last_taken, piece_refused, piece_taken}
use Rattle.pq_common.proofs.cells.push_quoted.Goals as goal

pub returns-in_err-push : goal.returns-in_err-push
returns-in_err-push g c =
    piece_refused g.K.Sink _ _ _ _ c.args.block.now _ (codes "\"") _ _ _ _ _ c.from_residual.ensures.0 refl (begun g.K.Sink _ _) c.in_err-push.ensures

pub returns-in_err-push_pieces : goal.returns-in_err-push_pieces
returns-in_err-push_pieces g c =
    let quote = piece_taken g.K.Sink _ _ _ _ c.args.block.now _ (codes "\"") _ _ _ refl (begun g.K.Sink _ _) c.in_ok-push.ensures in
    piece_refused g.K.Sink _ _ _ _ c.push.new.self _ (flat_map quoted_byte c.args.bytes.now) _ (codes "\"") _ _ _ c.from_residual-in_err-push_pieces.ensures.0 refl quote c.in_err-push_pieces.ensures

pub returns : goal.returns
returns g c =
    let quote = piece_taken g.K.Sink _ _ _ _ c.args.block.now _ (codes "\"") _ _ _ refl (begun g.K.Sink _ _) c.in_ok-push.ensures in
    let text = piece_taken g.K.Sink _ _ _ _ c.push.new.self _ (flat_map quoted_byte c.args.bytes.now) _ (codes "\"") _ refl quote c.in_ok-push_pieces.ensures in
    last_taken g.K.Sink _ _ _ _ _ _ _ text c.push-2.ensures
