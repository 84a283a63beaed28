-- Pages of the sample.
use Rattle.std.proofs.Common.{◌≡◌, ℕ, ◌+◌, ◌-◌, ◌<◌, ◌≤◌, List, ◌∷◌, ◌++◌, Option, Some, sym, ap, ◌∙◌, arith, min, length, map, drop}
use Rattle.std.specs.List.{range_with_len, slice_range}
use Rattle.std.proofs.lemmas.List.FromFn.{length-map-range_with_len}
use Rattle.parquet_base.specs.Pieces.{cut}
use Rattle.parquet_page.specs.Stored.{Stored}
use Rattle.parquet_plain.specs.Bodies.{body_bytes}
use Rattle.parquet_plain.specs.Columns.{written_page}
use Rattle.parquet_plain.specs.Description.{page_bytes, rows_of_chunk}
use Rattle.parquet_plain.specs.Structs.{page_header_bytes}
use Rattle.parquet_plain.proofs.PieceLemmas.{next_rows}
use Rattle.parquet_sample.specs.Parts.{sample_chunk, sample_page}
use Rattle.parquet_sample.specs.Writing.{body_from, sample_item, items_from, written_of}
use Rattle.parquet_sample.specs.declared.column.SampleColumn.{SampleColumn}
use Rattle.parquet_sample.specs.declared.column.SampleColumn.TheVariants.{Id, Qty, Name}
use Rattle.parquet_sample.proofs.ItemLemmas.{body-is}
use Rattle.parquet_sample.proofs.RangeLemmas.{drop-rows, slice-rows}
use Rattle.parquet_write.proofs.PagingLemmas.{rows_of_chunk-is}

-- ---- pieces

-- the first rows of a list made of rows are a piece of their own
pub next_piece : {X : Type 0} (f : ℕ → X) (size first rows row count : ℕ) → 0 < size → row < rows → count ≡ min size (rows - row) →
    cut (Some size) (map f (range_with_len (first + row) (rows - row))) ≡ map f (range_with_len (first + row) count) ∷ cut (Some size) (map f (range_with_len (first + (row + count)) (rows - (row + count))))
next_piece {X = X} f size first rows row count some lt e =
    let items : List X = map f (range_with_len first rows) in
    let many = length-map-range_with_len f first rows in
    ap (cut (Some size)) (sym (drop-rows f first rows row (omega arith)))
    ∙ next_rows size row (row + count) items some (omega (arith, many)) (omega (arith, many, e))
    ∙ ap (λ (piece : List X). piece ∷ cut (Some size) (drop (row + count) items)) (slice-rows f first rows row count (omega (arith, e)))
    ∙ ap (λ (rest : List X). map f (range_with_len (first + row) count) ∷ cut (Some size) rest) (drop-rows f first rows (row + count) (omega (arith, e)))

-- ---- pages

pub some_rows : (column : SampleColumn) → 0 < (written_of column).page_rows
some_rows Id = omega arith
some_rows Qty = omega arith
some_rows Name = omega arith

pub page-is : (column : SampleColumn) (first rows : ℕ) → page_bytes (sample_page column first rows) ≡ page_header_bytes rows (length (body_from column first rows)) ++ body_from column first rows
unfolding written_page page_bytes
page-is column first rows =
    let items : List (Option Stored) = items_from column first rows in
    ap (λ (n : ℕ). page_header_bytes n (length (body_bytes (written_of column).column.type.physical_type (written_of column).column.type.repetition items)) ++ body_bytes (written_of column).column.type.physical_type (written_of column).column.type.repetition items) (length-map-range_with_len (sample_item column) first rows)
    ∙ ap (λ (bs : List ℕ). page_header_bytes rows (length bs) ++ bs) (body-is column first rows)

-- the rows from one on
pub items_slice : (column : SampleColumn) (first rows row count : ℕ) → row + count ≤ rows → slice_range (items_from column first rows) row (row + count) ≡ items_from column (first + row) count
items_slice column first rows row count le = slice-rows (sample_item column) first rows row count le

pub items_count : (column : SampleColumn) (first rows : ℕ) → length (items_from column first rows) ≡ rows
items_count column first rows = length-map-range_with_len (sample_item column) first rows

pub rows_of_chunk-sample : (column : SampleColumn) (first rows : ℕ) → rows_of_chunk (sample_chunk column first rows) ≡ rows
rows_of_chunk-sample column first rows = rows_of_chunk-is (written_of column) (items_from column first rows) (some_rows column) ∙ items_count column first rows
