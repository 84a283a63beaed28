-- The rows of pages have the cells that the pages hold.
use Rattle.std.proofs.Common.{◌≡◌, ℕ, zero, suc, ◌+◌, ◌-◌, ◌≤◌, ◌<◌, Bool, cond, List, [], ◌∷◌, Option, Some, refl, sym, subst, ap, ◌∙◌, arith, length, map}
use Rattle.std.specs.Prelude.{filter_map, find, slice_get, flat_map, option_and_then, sum_by}
use Rattle.std.specs.List.{AllZip, range_with_len}
use Rattle.std.proofs.lemmas.List.{map-append}
use Rattle.std.proofs.lemmas.List.Sums.{sum_by-cons}
use Rattle.columns_core.specs.declared.cell.Cell.{Cell}
use Rattle.columns_core.specs.declared.data_type.DataType.{DataType}
use Rattle.parquet_base.specs.Intervals.{holds}
use Rattle.parquet_base.proofs.RangeLemmas.{range-split}
use Rattle.parquet_base.proofs.SegmentLemmas.{holds_after, holds_inside}
use Rattle.parquet_meta.specs.declared.metadata.PrimitiveType.{PrimitiveType}
use Rattle.parquet_page.specs.Chunk.{PlacedPage, placed_pages}
use Rattle.flat_values.specs.Conversion.{Conversion, Value}
use Rattle.column_ends.specs.Converted.{as_cell}
use Rattle.parquet_scan.specs.Cells.{item_among, item_at, item_in, rows_of_placed}
use Rattle.parquet_plain.specs.Description.{PlainPage, page_bytes}
use Rattle.parquet_plain.specs.Found.{chunk_page}
use Rattle.sample_laws.proofs.PageLaws.{Holds, IsReadBy, items-are, reading_of}

-- rows from one on, with the items of a list
pub list-rows : {X : Type 0} (f : ℕ → Option X) (row : ℕ) (xs : List X) → ((k : ℕ) → k < length xs → f (row + k) ≡ slice_get xs k) → map f (range_with_len row (length xs)) ≡ map Some xs
list-rows f row [] at = refl
list-rows {X = X} f row (x ∷ xs) at =
    let none : row + 0 ≡ row = omega arith in
    let first : f row ≡ Some x = ap f (sym none) ∙ at 0 (omega arith) in
    let rest : map f (range_with_len (row + 1) (length xs)) ≡ map Some xs = list-rows f (row + 1) xs (λ k lt. ap f (next k) ∙ at (suc k) (omega (arith, lt))) in
    rw (first, rest) refl
  where
    next : (k : ℕ) → row + 1 + k ≡ row + suc k
    next k = omega arith

-- the rows of each of these lists have its cells
abbrev pub HaveCells : (ℕ → Option Cell) → ℕ → List (List Cell) → Type 0
HaveCells f row [] = Unit {0}
HaveCells f row (own ∷ cells) = (map f (range_with_len row (length own)) ≡ map Some own) × HaveCells f (row + length own) cells

abbrev pub cell_among : PrimitiveType → DataType → ℕ → ℕ → List PlainPage → ℕ → Option Cell
cell_among type data_type start row pages wanted = option_and_then as_cell (item_among (reading_of type data_type) (placed_pages start row (map chunk_page pages)) wanted)

as-cells : (cells : List Cell) (k : ℕ) → option_and_then as_cell (slice_get (map Value cells) k) ≡ slice_get cells k
as-cells [] k = refl
as-cells (cell ∷ cells) zero = refl
as-cells (cell ∷ cells) (suc k) = as-cells cells k

pub rows-are : (type : PrimitiveType) (data_type : DataType) (rule : Conversion) (f : ℕ → Option Cell) (start row : ℕ) (pages : List PlainPage) (cells : List (List Cell)) → IsReadBy type data_type rule → AllZip (Holds type rule) pages cells
    → ((r : ℕ) → row ≤ r → f r ≡ cell_among type data_type start row pages r) → HaveCells f row cells
rows-are type data_type rule f start row [] [] read all same = tt
rows-are type data_type rule f start row [] (own ∷ cells) read all same = absurd all
rows-are type data_type rule f start row (page ∷ pages) [] read all same = absurd all
rows-are type data_type rule f start row (page ∷ pages) (own ∷ cells) read all same =
    let held : Holds type rule page own = all.0 in
    let placed : PlacedPage = record { start = start; first_row = row; page = chunk_page page } in
    let others : List PlacedPage = placed_pages (start + length (page_bytes page)) (row + page.rows) (map chunk_page pages) in
    let by : Bool → ℕ → Option Cell = λ (b : Bool) (r : ℕ). option_and_then as_cell (option_and_then (item_in (reading_of type data_type) r) (cond b (Some placed) (find (λ (other : PlacedPage). holds (rows_of_placed other) r) others))) in (
      list-rows f row own (λ k lt.
          same (row + k) (omega arith) ∙ ap (λ (b : Bool). by b (row + k)) (holds_inside (rows_of_placed placed) (row + k) (omega arith) (omega (arith, lt, held.many))) ∙ own-row row k held),
      subst (λ (n : ℕ). HaveCells f (row + n) cells) (sym held.many)
          (rows-are type data_type rule f (start + length (page_bytes page)) (row + page.rows) pages cells read all.1 (λ r le. same r (omega (arith, le)) ∙ ap (λ (b : Bool). by b r) (holds_after (rows_of_placed placed) r le))),
    )
  where
    own-row : (first k : ℕ) → Holds type rule page own → option_and_then as_cell (item_at (reading_of type data_type) (first + k - first) (chunk_page page)) ≡ slice_get own k
    own-row first k held =
        let here : first + k - first ≡ k = omega arith in
        rw (items-are type data_type rule page own read held, here) (as-cells own k)

-- all of them
pub joined-rows : (f : ℕ → Option Cell) (row : ℕ) (cells : List (List Cell)) → HaveCells f row cells → map f (range_with_len row (sum_by length cells)) ≡ map Some (flat_map (λ own. own) cells)
joined-rows f row [] all = refl
joined-rows f row (own ∷ cells) all =
    ap (λ (n : ℕ). map f (range_with_len row n)) (sum_by-cons {X = List Cell} length own cells)
    ∙ ap (map f) (range-split row (length own) (sum_by length cells))
    ∙ map-append f (range_with_len row (length own)) (range_with_len (row + length own) (sum_by length cells))
    ∙ rw (all.0, joined-rows f (row + length own) cells all.1) (sym (map-append Some own (flat_map (λ other. other) cells)))

-- cells that are there are found
pub found-rows : {X : Type 0} (f : ℕ → Option X) (rows : List ℕ) (xs : List X) → map f rows ≡ map Some xs → filter_map f rows ≡ xs
found-rows f [] [] e = refl
found-rows f [] (x ∷ xs) e = absurd cc
found-rows f (row ∷ rows) [] e = absurd cc
found-rows f (row ∷ rows) (x ∷ xs) e =
    let first : f row ≡ Some x = cc in
    let others : map f rows ≡ map Some xs = cc in
    rw (first, found-rows f rows xs others) refl
