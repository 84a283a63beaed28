use Rattle.std.proofs.Common.{◌∷◌, arith}
use Rattle.columns_core.specs.Array.{column_of}
use Rattle.pq_common.specs.Rows.{cell_at}
use Rattle.pq_common.proofs.TakenLemmas.{next_item, piece_refused, piece_taken}
use Rattle.pq_common.proofs.rows.push_others.Goals as goal

pub returns-in_err-push_other : goal.returns-in_err-push_other
returns-in_err-push_other g c =
    piece_refused g.K.Sink _ _ _ _ c.loop-array.block _ _ _ _ _ _ _ c.from_residual.ensures.0
    (next_item (λ array. 9 ∷ cell_at c.args.row (column_of array)) c.args.arrays.now c.loop-array.array-index c.array-item.result (omega arith) c.array-item.is) c.loop-array.invariant c.in_err-push_other.ensures

pub loop-array-preserved : goal.loop-array-preserved
loop-array-preserved g c =
    piece_taken g.K.Sink _ _ _ _ c.loop-array.block _ _ _ _ _
    (next_item (λ array. 9 ∷ cell_at c.args.row (column_of array)) c.args.arrays.now c.loop-array.array-index c.array-item.result (omega arith) c.array-item.is) c.loop-array.invariant c.in_ok-push_other.ensures
