use Rattle.std.proofs.Common.{◌≡◌, ◌∙◌, ℕ, ◌+◌, ◌-◌, ◌≤◌, List, ◌++◌, ap, arith, drop, length, length-drop, sym, take}
use Rattle.std.proofs.lemmas.List.{take_all}
use Rattle.columns_core.specs.Array.{column_of}
use Rattle.columns_core.specs.declared.array.Array.TheVariants.{Int32}
use Rattle.columns_core.specs.declared.cell.Cell.{Cell}
use Rattle.columns_core.specs.declared.data_type.DataType.{DataType}
use Rattle.pq_common.specs.Rows.{line_of, lines_of}
use Rattle.pq_common.proofs.RowLemmas.{rows_left}
use Rattle.pq_common.proofs.TakenLemmas.{piece_refused, piece_taken}
use Rattle.pq_common.proofs.column.push_number_lines.Goals as goal

-- the lines that are left are those at the end of the buffer, and others behind them
parts : (column : DataType × List Cell) (lines : List ℕ) (start row count rows : ℕ) → length lines ≤ 4096 → row + count ≤ rows
    → drop start lines ≡ lines_of column row (row + count - row)
    → lines_of column row (rows - row) ≡ take (4096 - start) (drop start lines) ++ lines_of column (row + count) (rows - (row + count))
parts column lines start row count rows short within written =
    let whole = take_all (4096 - start) (drop start lines) (omega (arith, short, length-drop start lines)) in
    let some : row + count - row ≡ count = omega arith in
    rows_left (line_of column) row count rows within
    ∙ ap (λ piece. piece ++ lines_of column (row + count) (rows - (row + count))) (sym (whole ∙ written ∙ ap (lines_of column row) some))

pub returns-in_err-push : goal.returns-in_err-push
returns-in_err-push g c =
    piece_refused g.K.Sink _ _ _ _ c.loop-row.block _ _ _ _ _ _ _ c.from_residual.ensures.0
    (parts (column_of (Int32 c.args.array.now)) c.write_lines-start.new.block c.write_lines-start.result c.loop-row.row c.min-count.result (length c.args.array.now.items) (omega arith) (omega arith) c.write_lines-start.ensures.written)
    c.loop-row.invariant.left c.in_err-push.ensures

pub loop-row-preserved : goal.loop-row-preserved
loop-row-preserved g c = record {
  within = omega arith;
  left = piece_taken g.K.Sink _ _ _ _ c.loop-row.block _ _ _ _ _
      (parts (column_of (Int32 c.args.array.now)) c.write_lines-start.new.block c.write_lines-start.result c.loop-row.row c.min-count.result (length c.args.array.now.items) (omega arith) (omega arith) c.write_lines-start.ensures.written)
      c.loop-row.invariant.left c.in_ok-push.ensures;
}
