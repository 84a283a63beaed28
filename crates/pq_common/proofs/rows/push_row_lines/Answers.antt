use Rattle.std.proofs.Common.{◌≡◌, ◌∙◌, ℕ, ◌+◌, ◌-◌, ◌≤◌, List, ◌++◌, ap, arith, map}
use Rattle.std.specs.List.{flat_map, range_with_len}
use Rattle.columns_core.specs.Array.{column_of}
use Rattle.pq_common.specs.Rows.{row_line}
use Rattle.pq_common.proofs.RowLemmas.{rows_left}
use Rattle.pq_common.proofs.TakenLemmas.{piece_refused, piece_taken}
use Rattle.pq_common.proofs.rows.push_row_lines.Goals as goal

-- the lines of some rows, and those of the rows behind them
parts : (f : ℕ → List ℕ) (row count rows : ℕ) → row + count ≤ rows
    → flat_map f (range_with_len row (rows - row))
    ≡ flat_map f (range_with_len row (row + count - row)) ++ flat_map f (range_with_len (row + count) (rows - (row + count)))
parts f row count rows within =
    let some : count ≡ row + count - row = omega arith in
    rows_left f row count rows within ∙ ap (λ n. flat_map f (range_with_len row n) ++ flat_map f (range_with_len (row + count) (rows - (row + count)))) some

pub returns-in_err-push_some : goal.returns-in_err-push_some
returns-in_err-push_some g c =
    piece_refused g.K.Sink _ _ _ _ c.loop-row.block _ _ _ _ _ _ _ c.from_residual.ensures.0
    (parts (row_line (map column_of c.args.arrays.now)) c.loop-row.row c.min.result c.args.rows (omega arith)) c.loop-row.invariant.left c.in_err-push_some.ensures

pub loop-row-preserved-then-branch : goal.loop-row-preserved-then-branch
loop-row-preserved-then-branch g c = record {
  some = omega arith;
  most = omega arith;
  within = omega arith;
  left = piece_taken g.K.Sink _ _ _ _ c.loop-row.block _ _ _ _ _
      (parts (row_line (map column_of c.args.arrays.now)) c.loop-row.row c.min.result c.args.rows (omega arith)) c.loop-row.invariant.left c.in_ok-push_some.ensures;
}

pub loop-row-preserved : goal.loop-row-preserved
loop-row-preserved g c = record {
  some = omega arith;
  most = omega arith;
  within = omega arith;
  left = piece_taken g.K.Sink _ _ _ _ c.loop-row.block _ _ _ _ _
      (parts (row_line (map column_of c.args.arrays.now)) c.loop-row.row c.min.result c.args.rows (omega arith)) c.loop-row.invariant.left c.in_ok-push_some.ensures;
}
