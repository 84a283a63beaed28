use Rattle.std.proofs.Common.{◌≡◌, ◌∙◌, ℕ, List, ◌++◌, ◌∷◌, [], ap, codes, map, refl, sym}
use Rattle.std.specs.Fmt.{decimal}
use Rattle.std.specs.List.{flat_map, range_with_len}
use Rattle.columns_core.specs.Array.{column_of}
use Rattle.columns_core.specs.Chunk.{array_rows}
use Rattle.columns_core.specs.declared.array.Array.{Array}
use Rattle.parquet_scan.specs.Cells.{columns_of_chunk}
use Rattle.pq_common.specs.Rows.{line, row_line}
use Rattle.pq_common.proofs.TakenLemmas.{begun, last_taken, piece_refused, piece_taken}
use Rattle.scan_program.specs.Report.{chunk_length, chunk_lines}
use Rattle.scan_program.proofs.chunks.push_chunk.Goals as goal

rows_are : (arrays : List Array) → chunk_length (map column_of arrays) ≡ array_rows arrays
rows_are [] = refl
rows_are (first ∷ rest) = refl

-- the line of the chunk, and those of its rows
parts : (arrays : List Array) (rows : ℕ) → rows ≡ array_rows arrays
    → chunk_lines (columns_of_chunk arrays) ≡ line (codes "chunk " ++ decimal rows) ++ flat_map (row_line (columns_of_chunk arrays)) (range_with_len 0 (array_rows arrays))
parts arrays rows is =
    ap (λ n. line (codes "chunk " ++ decimal n) ++ flat_map (row_line (columns_of_chunk arrays)) (range_with_len 0 n)) (rows_are arrays)
    ∙ ap (λ n. line (codes "chunk " ++ decimal n) ++ flat_map (row_line (columns_of_chunk arrays)) (range_with_len 0 (array_rows arrays))) (sym is)

pub returns-in_err-push_chunk_line : goal.returns-in_err-push_chunk_line
returns-in_err-push_chunk_line g c =
    piece_refused g.K.Sink _ _ _ _ c.args.block.now _ _ _ _ _ _ _ c.from_residual.ensures.0 (parts c.args.chunk.now c.len.result c.len.ensures) (begun g.K.Sink _ _) c.in_err-push_chunk_line.ensures

pub returns : goal.returns
returns g c =
    let chunk = piece_taken g.K.Sink _ _ _ _ c.args.block.now _ _ _ _ _ (parts c.args.chunk.now c.len.result c.len.ensures) (begun g.K.Sink _ _) c.in_ok-push_chunk_line.ensures in
    last_taken g.K.Sink _ _ _ _ _ _ _ chunk c.push_lines.ensures
