use Rattle.std.proofs.Common.{◌≡◌, ◌∙◌, ℕ, List, [], ◌∷◌, ◌++◌, ap, append_assoc, drop, map, sym}
use Rattle.std.specs.List.{flat_map, join_by}
use Rattle.std.proofs.lemmas.Option.{IfSome_then}
use Rattle.columns_core.specs.Array.{column_of}
use Rattle.columns_core.specs.declared.array.Array.{Array}
use Rattle.pq_common.specs.Rows.{cell_at, row_line}
use Rattle.pq_common.proofs.Joined.{first_of_joined}
use Rattle.pq_common.proofs.rows.write_row.Goals as goal

-- the first cell, the others each behind a tab, and the end of the line
parts : (arrays others : List Array) (first : Array) (row : ℕ) (behind : List ℕ) → arrays ≡ first ∷ others
    → row_line (map column_of arrays) row ++ behind
    ≡ cell_at row (column_of first) ++ (flat_map (λ array. 9 ∷ cell_at row (column_of array)) others ++ (10 ∷ behind))
parts arrays others first row behind is =
    let cells = join_by (cell_at row) (9 ∷ []) (map column_of arrays) in
    let rest = flat_map (λ (array : Array). 9 ∷ cell_at row (column_of array)) others in
    append_assoc cells (10 ∷ []) behind
    ∙ ap (λ text. text ++ (10 ∷ behind)) (first_of_joined column_of (cell_at row) (9 ∷ []) arrays others first is)
    ∙ append_assoc (cell_at row (column_of first)) rest (10 ∷ behind)

pub returns-in_ok-start-in-Some-clause-written : goal.returns-in_ok-start-in-Some-clause-written
returns-in_ok-start-in-Some-clause-written c =
    let first = cell_at c.args.row (column_of c.in-Some.first.now) in
    let others = flat_map (λ (array : Array). 9 ∷ cell_at c.args.row (column_of array)) c.in-Some.others.now in
    let written = c.in_ok-start-in-Some.ensures.written ∙ ap (λ behind. others ++ behind) c.in_ok-behind.ensures.written in
    let line = parts c.args.arrays.now c.in-Some.others.now c.in-Some.first.now c.args.row (drop c.args.end c.args.line.now) c.in-Some.ensures.cases.0 in
    IfSome_then c.write_cell.result c.write_cell.ensures.written (λ start cell. cell ∙ ap (λ behind. first ++ behind) written ∙ sym line)
