-- Nothing is wrong with pages that hold their cells.
use Rattle.std.proofs.Common.{◌≡◌, ℕ, zero, suc, ◌+◌, ◌-◌, ◌≤◌, Bool, true, false, cond, List, [], ◌∷◌, Option, Some, None, refl, arith, length, map}
use Rattle.std.specs.Prelude.{All, find, slice_get, option_and_then}
use Rattle.std.specs.List.{AllZip}
use Rattle.std.specs.Option.{option_map_or}
use Rattle.std.proofs.lemmas.List.Elements.{All-head, All-tail, All-cons, All-nil}
use Rattle.columns_core.specs.declared.cell.Cell.{Cell}
use Rattle.columns_core.specs.declared.data_type.DataType.{DataType}
use Rattle.parquet_base.specs.Intervals.{holds}
use Rattle.parquet_meta.specs.declared.metadata.PrimitiveType.{PrimitiveType}
use Rattle.parquet_page.specs.Chunk.{NoDictionary, PlacedPage, placed_pages}
use Rattle.parquet_page.specs.Opened.{carried_encoding, page_causes}
use Rattle.parquet_page.specs.Spelling.{spelled}
use Rattle.parquet_page.specs.Stored.{Stored}
use Rattle.parquet_page.specs.Values.{Plain}
use Rattle.page_decoding.specs.Bytes.{cell_bytes, fits_most}
use Rattle.flat_binary.specs.Decoding.{key_limit_of}
use Rattle.flat_values.specs.Conversion.{Conversion, Item, Value, convert_place}
use Rattle.flat_values.specs.Items.{page_items}
use Rattle.flat_values.specs.MostBytes.{most_bytes}
use Rattle.flat_values.specs.Pairs.{conversion}
use Rattle.column_ends.specs.Converted.{item_causes}
use Rattle.parquet_scan.specs.Causes.{causes_of_data, item_bytes}
use Rattle.parquet_scan.specs.Cells.{Reading, content_of, is_null_type, items_in, item_at, item_in, item_among, rows_of_placed}
use Rattle.parquet_plain.specs.Description.{PlainPage, page_bytes}
use Rattle.parquet_plain.specs.Found.{chunk_page}

-- A column is read by a rule, not as nulls nor as keys of a dictionary; the texts of 20000 rows fit its array.
pub record IsReadBy (type : PrimitiveType) (data_type : DataType) (rule : Conversion) : Type 0 where
  pub carried : conversion type data_type ≡ Some rule
  pub keyless : key_limit_of data_type ≡ None
  pub seen : is_null_type data_type ≡ false
  pub roomy : (count : ℕ) → count ≤ 2147483647 → fits_most (most_bytes data_type) count ≡ true

-- a column without a dictionary
abbrev pub reading_of : PrimitiveType → DataType → Reading
reading_of type data_type = record { stored = type; dictionary = NoDictionary; data_type = data_type }

-- the bytes of a text of the sample
abbrev pub most : ℕ
most = 20

-- A page holds cells: its body spells places, plainly, and each is converted to its cell.
pub record Holds (type : PrimitiveType) (rule : Conversion) (page : PlainPage) (cells : List Cell) : Type 0 where
  pub places : List (Option Stored)
  pub many : length cells ≡ page.rows
  pub plain : carried_encoding false false (content_of type (chunk_page page)) ≡ Some Plain
  pub spells : spelled (content_of type (chunk_page page)) None ≡ Some places
  pub converted : map (convert_place rule) places ≡ map Value cells
  pub few : All (λ cell. cell_bytes cell ≤ most) cells

-- ---- a page

pub no_page_causes : (type : PrimitiveType) (data_type : DataType) (rule : Conversion) (page : PlainPage) (cells : List Cell) → IsReadBy type data_type rule → Holds type rule page cells
    → causes_of_data (reading_of type data_type) (chunk_page page) ≡ []
unfolding page_causes
no_page_causes type data_type rule page cells read held = rw (read.keyless, held.plain, held.spells) refl

pub items-are : (type : PrimitiveType) (data_type : DataType) (rule : Conversion) (page : PlainPage) (cells : List Cell) → IsReadBy type data_type rule → Holds type rule page cells
    → items_in (reading_of type data_type) (chunk_page page) ≡ Some (map Value cells)
unfolding page_items
items-are type data_type rule page cells read held = rw (read.carried, held.spells, held.converted) refl

-- nothing is wrong with an item, if there is one, and it is short
pub record IsLight (item : Option Item) : Type 0 where
  pub quiet : option_map_or item_causes item [] ≡ []
  pub short : option_map_or item_bytes item 0 ≤ most

pub no-item : IsLight None
no-item = record { quiet = refl; short = omega arith }

light-place : (cells : List Cell) (place : ℕ) → All (λ cell. cell_bytes cell ≤ most) cells → IsLight (slice_get (map Value cells) place)
light-place [] place all = no-item
light-place (cell ∷ cells) zero all = record { quiet = refl; short = All-head (λ c. cell_bytes c ≤ most) cell cells all }
light-place (cell ∷ cells) (suc place) all = light-place cells place (All-tail (λ c. cell_bytes c ≤ most) cell cells all)

pub light-at : (type : PrimitiveType) (data_type : DataType) (rule : Conversion) (page : PlainPage) (cells : List Cell) (place : ℕ) → IsReadBy type data_type rule → Holds type rule page cells
    → IsLight (item_at (reading_of type data_type) place (chunk_page page))
light-at type data_type rule page cells place read held = rw (items-are type data_type rule page cells read held) (light-place cells place held.few)

-- ---- pages one after another

pub light-among : (type : PrimitiveType) (data_type : DataType) (rule : Conversion) (start row : ℕ) (pages : List PlainPage) (cells : List (List Cell)) (wanted : ℕ) → IsReadBy type data_type rule → AllZip (Holds type rule) pages cells
    → IsLight (item_among (reading_of type data_type) (placed_pages start row (map chunk_page pages)) wanted)
light-among type data_type rule start row [] cells wanted read all = no-item
light-among type data_type rule start row (page ∷ pages) [] wanted read all = absurd all
light-among type data_type rule start row (page ∷ pages) (own ∷ cells) wanted read all =
    by_test (find (λ (other : PlacedPage). holds (rows_of_placed other) wanted) (placed_pages (start + length (page_bytes page)) (row + page.rows) (map chunk_page pages))) (holds (rows_of_placed placed) wanted)
    (light-at type data_type rule page own (wanted - row) read all.0)
    (light-among type data_type rule (start + length (page_bytes page)) (row + page.rows) pages cells wanted read all.1)
  where
    placed : PlacedPage
    placed = record { start = start; first_row = row; page = chunk_page page }

    by_test : (others : Option PlacedPage) (b : Bool) → IsLight (item_at (reading_of type data_type) (wanted - row) (chunk_page page)) → IsLight (option_and_then (item_in (reading_of type data_type) wanted) others)
        → IsLight (option_and_then (item_in (reading_of type data_type) wanted) (cond b (Some placed) others))
    by_test others true one other = one
    by_test others false one other = other

pub no_placed_causes : (type : PrimitiveType) (data_type : DataType) (rule : Conversion) (start row : ℕ) (pages : List PlainPage) (cells : List (List Cell)) → IsReadBy type data_type rule → AllZip (Holds type rule) pages cells
    → All (λ (placed : PlacedPage). causes_of_data (reading_of type data_type) placed.page ≡ []) (placed_pages start row (map chunk_page pages))
no_placed_causes type data_type rule start row [] cells read all = All-nil (λ (placed : PlacedPage). causes_of_data (reading_of type data_type) placed.page ≡ [])
no_placed_causes type data_type rule start row (page ∷ pages) [] read all = absurd all
no_placed_causes type data_type rule start row (page ∷ pages) (own ∷ cells) read all =
    All-cons (λ (placed : PlacedPage). causes_of_data (reading_of type data_type) placed.page ≡ []) (record { start = start; first_row = row; page = chunk_page page })
    (placed_pages (start + length (page_bytes page)) (row + page.rows) (map chunk_page pages)) (no_page_causes type data_type rule page own read all.0)
    (no_placed_causes type data_type rule (start + length (page_bytes page)) (row + page.rows) pages cells read all.1)
