-- All arrays of a column, joined, have the cells of the rows that are wanted.
use Rattle.std.proofs.Common.{◌≡◌, ◌∙◌, List, [], ◌∷◌, ◌++◌, map, refl, sym, ap}
use Rattle.std.proofs.lemmas.List.{map-append}
use Rattle.columns_core.specs.Array.{cells}
use Rattle.columns_core.specs.declared.array.Array.{Array}
use Rattle.page_decoding.specs.Outcome.{Given, cells_in}
use Rattle.page_decoding.specs.Queue.{IsChunkSize, joined}
use Rattle.page_decoding.proofs.CutLemmas.{cut-joined}
use Rattle.flat_values.specs.ColumnLeft.{ColumnLeft, wanted}
use Rattle.flat_values.proofs.OutcomeLemmas.{cells_in-given}
use Rattle.flat_binary.specs.Collected.{AreCollected}
use Rattle.flat_binary.specs.Cuts.{HasSameCells, joined_cells}

rows-joined : (arrays : List Array) → map Given (joined_cells arrays) ≡ joined (map (λ array. map Given (cells array)) arrays)
rows-joined [] = refl
rows-joined (array ∷ arrays) =
    map-append Given (cells array) (joined_cells arrays) ∙ ap (λ rest. map Given (cells array) ++ rest) (rows-joined arrays)

rows-given : (left : ColumnLeft) (arrays : List Array) → IsChunkSize left.size → AreCollected left arrays → map Given (joined_cells arrays) ≡ wanted left
rows-given left arrays some are = rows-joined arrays ∙ ap joined are.chunks ∙ cut-joined left.size (wanted left) some

pub has_same_cells : HasSameCells
has_same_cells left size arrays others some other_some are other =
    let rows : map Given (joined_cells arrays) ≡ map Given (joined_cells others) = rows-given left arrays some are ∙ sym (rows-given (record left { size = size }) others other_some other) in
    sym (cells_in-given (joined_cells arrays)) ∙ ap cells_in rows ∙ cells_in-given (joined_cells others)
