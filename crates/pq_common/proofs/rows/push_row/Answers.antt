use Rattle.std.proofs.Common.{[], ◌∷◌, codes, map, refl}
use Rattle.std.specs.List.{join_by}
use Rattle.columns_core.specs.Array.{column_of}
use Rattle.pq_common.specs.Rows.{cell_at}
use Rattle.pq_common.proofs.TakenLemmas.{begun, last_taken, piece_refused, piece_taken}
use Rattle.pq_common.proofs.rows.push_row.Goals as goal

pub returns-in_err-push_cells : goal.returns-in_err-push_cells
returns-in_err-push_cells g c =
    piece_refused g.K.Sink _ _ _ _ c.args.block.now _ (join_by (cell_at c.args.row) (9 ∷ []) (map column_of c.args.arrays.now)) _ (codes "\n") _ _ _
    c.from_residual.ensures.0 refl (begun g.K.Sink _ _) c.in_err-push_cells.ensures

pub returns : goal.returns
returns g c =
    let cells = piece_taken g.K.Sink _ _ _ _ c.args.block.now _ (join_by (cell_at c.args.row) (9 ∷ []) (map column_of c.args.arrays.now)) _ (codes "\n") _
    refl (begun g.K.Sink _ _) c.in_ok-push_cells.ensures in
    last_taken g.K.Sink _ _ _ _ _ _ _ cells c.push.ensures
