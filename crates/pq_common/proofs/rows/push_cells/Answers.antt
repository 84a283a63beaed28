use Rattle.std.proofs.Common.{[], ◌∷◌}
use Rattle.columns_core.specs.Array.{column_of}
use Rattle.pq_common.specs.Rows.{cell_at}
use Rattle.pq_common.proofs.TakenLemmas.{begun, last_taken, piece_refused, piece_taken}
use Rattle.pq_common.proofs.Joined.{first_of_joined}
use Rattle.pq_common.proofs.rows.push_cells.Goals as goal

pub returns-in_err-push_cell-in-Some : goal.returns-in_err-push_cell-in-Some
returns-in_err-push_cell-in-Some g c =
    piece_refused g.K.Sink _ _ _ _ c.args.block.now _ _ _ _ _ _ _ c.from_residual.ensures.0
    (first_of_joined column_of (cell_at c.args.row) (9 ∷ []) c.args.arrays.now c.in-Some.others.now c.in-Some.first.now c.in-Some.ensures.cases.0) (begun g.K.Sink _ _) c.in_err-push_cell-in-Some.ensures

pub returns-in_ok-push_cell-in-Some : goal.returns-in_ok-push_cell-in-Some
returns-in_ok-push_cell-in-Some g c =
    let first = piece_taken g.K.Sink _ _ _ _ c.args.block.now _ _ _ _ _
    (first_of_joined column_of (cell_at c.args.row) (9 ∷ []) c.args.arrays.now c.in-Some.others.now c.in-Some.first.now c.in-Some.ensures.cases.0) (begun g.K.Sink _ _) c.in_ok-push_cell-in-Some.ensures in
    last_taken g.K.Sink _ _ _ _ _ _ _ first c.push_others.ensures
