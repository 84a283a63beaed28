use Rattle.std.proofs.Common.{arith, map}
use Rattle.columns_core.specs.Array.{column_of}
use Rattle.pq_common.specs.Rows.{row_line}
use Rattle.pq_common.proofs.RowLemmas.{row_left}
use Rattle.pq_common.proofs.TakenLemmas.{piece_refused, piece_taken}
use Rattle.pq_common.proofs.rows.push_each.Goals as goal

pub returns-in_err-push_row : goal.returns-in_err-push_row
returns-in_err-push_row g c =
    piece_refused g.K.Sink _ _ _ _ c.loop-row.block _ _ _ _ _ _ _ c.from_residual.ensures.0
    (row_left (row_line (map column_of c.args.arrays.now)) c.loop-row.row c.args.to (omega arith)) c.loop-row.invariant.left c.in_err-push_row.ensures

pub loop-row-preserved : goal.loop-row-preserved
loop-row-preserved g c = record {
  within = omega arith;
  left = piece_taken g.K.Sink _ _ _ _ c.loop-row.block _ _ _ _ _
      (row_left (row_line (map column_of c.args.arrays.now)) c.loop-row.row c.args.to (omega arith)) c.loop-row.invariant.left c.in_ok-push_row.ensures;
}
