use Rattle.std.proofs.Common.{◌≡◌, ◌∙◌, ℕ, ◌+◌, ◌-◌, ◌<◌, ◌++◌, List, [], ap, arith, length, map}
use Rattle.std.specs.Prelude.{Option, Some, option_copied, option_map, slice_get}
use Rattle.std.specs.Option.{option_map_or}
use Rattle.std.proofs.lemmas.List.{append-nil}
use Rattle.std.proofs.lemmas.Option.{slice_get-map}
use Rattle.columns_core.specs.Column.{cell_of}
use Rattle.columns_core.specs.declared.cell.Cell.{Text}
use Rattle.columns_core.specs.declared.data_type.DataType.{DataType}
use Rattle.pq_common.specs.CellText.{cell_text}
use Rattle.pq_common.specs.Rows.{line, line_of, lines_of, text_in}
use Rattle.pq_common.proofs.RowLemmas.{row_left}
use Rattle.pq_common.proofs.TakenLemmas.{piece_refused, piece_taken}
use Rattle.pq_common.proofs.text_column.push_text_lines.Goals as goal

-- the lines that are left are that of the item in the row, and others behind it
parts : (data_type : DataType) (items : List (Option (List ℕ))) (row : ℕ) (name : Option (List ℕ)) → row < length items → slice_get items row ≡ Some name
    → lines_of (data_type, map (cell_of Text) items) row (length items - row)
    ≡ line (cell_text (cell_of Text name)) ++ lines_of (data_type, map (cell_of Text) items) (row + 1) (length items - (row + 1))
parts data_type items row name within is =
    let cells = map (cell_of Text) items in
    let first : line_of (data_type, cells) row ≡ line (cell_text (cell_of Text name)) =
    ap line (append-nil (text_in row cells))
    ∙ ap (λ found. line (option_map_or cell_text found [])) (slice_get-map (cell_of Text) items row ∙ ap (option_map (cell_of Text)) is) in
    row_left (line_of (data_type, cells)) row (length items) within
    ∙ ap (λ first. first ++ lines_of (data_type, cells) (row + 1) (length items - (row + 1))) first

pub returns-in_err-push_text_line : goal.returns-in_err-push_text_line
returns-in_err-push_text_line g c =
    piece_refused g.K.Sink _ _ _ _ c.loop-row.block _ _ _ _ _ _ _ c.from_residual.ensures.0
    (parts c.args.array.now.data_type c.args.array.now.items c.loop-row.row (option_copied c.get.result) (omega arith) c.get.ensures) c.loop-row.invariant.left c.in_err-push_text_line.ensures

pub loop-row-preserved : goal.loop-row-preserved
loop-row-preserved g c = record {
  within = omega arith;
  left = piece_taken g.K.Sink _ _ _ _ c.loop-row.block _ _ _ _ _
      (parts c.args.array.now.data_type c.args.array.now.items c.loop-row.row (option_copied c.get.result) (omega arith) c.get.ensures) c.loop-row.invariant.left c.in_ok-push_text_line.ensures;
}
