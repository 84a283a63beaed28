use Rattle.std.proofs.Common.{◌≡◌, ◌∙◌, ◌++◌, ◌<◌, ◌≤◌, ℕ, List, [], ◌∷◌, ap, sym, subst, arith, get_or, length, flat_map}
use Rattle.std.proofs.lemmas.Grind.{common_steps}
use Rattle.std.proofs.lemmas.List.{length-map}
use Rattle.std.specs.List.{range_with_len}
use Rattle.columns_core.specs.Array.{column_of}
use Rattle.columns_core.specs.Chunk.{array_rows}
use Rattle.columns_core.specs.Column.{cell_of}
use Rattle.columns_core.specs.declared.array.Array.{Array}
use Rattle.columns_core.specs.declared.array.Array.TheVariants as array
use Rattle.columns_core.specs.declared.cell.Cell.{Int, Text}
use Rattle.parquet_scan.specs.Cells.{columns_of_chunk}
use Rattle.pq_common.specs.Rows.{lines_of, row_line}
use Rattle.pq_common.specs.Taken.{TakesBytes}
use Rattle.scan_program.proofs.chunks.push_lines.Goals as goal

-- a lone column
lone : (arrays : List Array) (own : Array) → 1 ≤ length arrays → length arrays < 2 → get_or arrays 0 own ≡ own → arrays ≡ own ∷ []
lone [] own some few at = absurd (omega arith)
lone (first ∷ []) own some few at = ap (λ array. array ∷ []) at
lone (first ∷ second ∷ rest) own some few at = absurd (omega arith)

abbrev chunk_rows : List Array → List ℕ
chunk_rows arrays = flat_map (row_line (columns_of_chunk arrays)) (range_with_len 0 (array_rows arrays))

-- its lines are those of the chunk
rows_of_lone : (own : Array) (chunk : List Array) (count : ℕ) → array_rows (own ∷ []) ≡ count → chunk ≡ own ∷ [] → lines_of (column_of own) 0 count ≡ chunk_rows chunk
rows_of_lone own chunk count many is = ap (λ n. lines_of (column_of own) 0 n) (sym many) ∙ ap chunk_rows (sym is)

pub returns-in-Int32 : goal.returns-in-Int32
returns-in-Int32 g c =
    let own = array.Int32 c.in-Int32.numbers in
    let at : get_or c.arrays.result.now 0 own ≡ own = grind (arith, common_steps) in
    let is = lone c.arrays.result.now own c.in-Int32.len_at_least c.in-Int32.len_below at in
    let lines = rows_of_lone own c.args.chunk.now (length c.in-Int32.numbers.items) (length-map c.in-Int32.numbers.items (cell_of Int)) (sym c.arrays.ensures.arrays ∙ is) in
    subst (λ lines. TakesBytes g.K.Sink c.args.out.now c.push_number_lines.new.out (c.args.block.now ++ lines) c.push_number_lines.new.block c.push_number_lines.result) lines (rw is at c.push_number_lines.ensures)

pub returns-in-Utf8 : goal.returns-in-Utf8
returns-in-Utf8 g c =
    let own = array.Utf8 c.in-Utf8.texts in
    let at : get_or c.arrays.result.now 0 own ≡ own = grind (arith, common_steps) in
    let is = lone c.arrays.result.now own c.in-Utf8.len_at_least c.in-Utf8.len_below at in
    let lines = rows_of_lone own c.args.chunk.now (length c.in-Utf8.texts.items) (length-map c.in-Utf8.texts.items (cell_of Text)) (sym c.arrays.ensures.arrays ∙ is) in
    subst (λ lines. TakesBytes g.K.Sink c.args.out.now c.push_text_lines.new.out (c.args.block.now ++ lines) c.push_text_lines.new.block c.push_text_lines.result) lines (rw is at c.push_text_lines.ensures)

pub returns-in-LargeUtf8 : goal.returns-in-LargeUtf8
returns-in-LargeUtf8 g c =
    let own = array.LargeUtf8 c.in-LargeUtf8.texts in
    let at : get_or c.arrays.result.now 0 own ≡ own = grind (arith, common_steps) in
    let is = lone c.arrays.result.now own c.in-LargeUtf8.len_at_least c.in-LargeUtf8.len_below at in
    let lines = rows_of_lone own c.args.chunk.now (length c.in-LargeUtf8.texts.items) (length-map c.in-LargeUtf8.texts.items (cell_of Text)) (sym c.arrays.ensures.arrays ∙ is) in
    subst (λ lines. TakesBytes g.K.Sink c.args.out.now c.push_text_lines-in-LargeUtf8.new.out (c.args.block.now ++ lines) c.push_text_lines-in-LargeUtf8.new.block c.push_text_lines-in-LargeUtf8.result) lines (rw is at c.push_text_lines-in-LargeUtf8.ensures)
