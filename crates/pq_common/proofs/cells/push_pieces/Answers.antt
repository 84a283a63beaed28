use Rattle.std.proofs.Common.{◌≡◌, ◌∙◌, ◌++◌, sym, ap}
use Rattle.std.specs.List.{flat_map}
use Rattle.pq_common.specs.CellText.{quoted_byte}
use Rattle.pq_common.proofs.TakenLemmas.{piece_taken, piece_refused}
use Rattle.pq_common.proofs.cells.push_pieces.Goals as goal

pub returns-in_err-push : goal.returns-in_err-push
returns-in_err-push g c =
    let comes = flat_map quoted_byte c.in-Some.behind.now in
    let parts : flat_map quoted_byte c.loop-piece.rest.now ≡ c.bytes.result.now ++ comes = c.in-Some.ensures.some ∙ ap (λ piece. piece ++ comes) (sym c.bytes.ensures) in
    piece_refused g.K.Sink _ _ _ _ c.loop-piece.block _ c.bytes.result.now _ comes _ _ _ c.from_residual.ensures.0 parts c.loop-piece.invariant c.in_err-push.ensures

pub loop-piece-preserved : goal.loop-piece-preserved
loop-piece-preserved g c =
    let comes = flat_map quoted_byte c.in-Some.behind.now in
    let parts : flat_map quoted_byte c.loop-piece.rest.now ≡ c.bytes.result.now ++ comes = c.in-Some.ensures.some ∙ ap (λ piece. piece ++ comes) (sym c.bytes.ensures) in
    piece_taken g.K.Sink _ _ _ _ c.loop-piece.block _ c.bytes.result.now _ comes _ parts c.loop-piece.invariant c.in_ok-push.ensures
