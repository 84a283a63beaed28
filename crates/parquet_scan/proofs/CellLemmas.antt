-- The cells of a column whose pages stand one after another.
use Rattle.std.proofs.Common.{◌≡◌, ℕ, zero, suc, ◌+◌, ◌-◌, ◌<◌, ◌≤◌, Bool, true, false, cond, List, [], ◌∷◌, ◌++◌, length, map, take, replicate, refl, sym, ◌∙◌, ap, subst, arith, inl, inr, append_assoc, append-nil, drop}
use Rattle.std.specs.Prelude.{All, Option, Some, None, ◌⊎◌, option_and_then, option_map, slice_get, filter, find, sum_by, flat_map, is_some, if◌then◌else◌, IfSome, nat_le}
use Rattle.std.specs.Option.{option_map_or}
use Rattle.std.specs.List.{range_with_len}
use Rattle.std.proofs.lemmas.Bool.{cases_lt, le-leb, le-ltb, lt-leb, lt-ltb}
use Rattle.std.proofs.lemmas.Grind.{flat_map-append}
use Rattle.std.proofs.lemmas.List.{length-map, length-replicate, map-append, take-map, take_all}
use Rattle.std.proofs.lemmas.List.Folds.{flat_map-map}
use Rattle.std.proofs.lemmas.List.FromFn.{length-map-range_with_len, take-map-range_with_len}
use Rattle.std.proofs.lemmas.List.Sums.{sum_by-cons}
use Rattle.std.proofs.lemmas.Simd.{map-map}
use Rattle.columns_core.specs.Causes.{Cause, ExternalFormat, IsOneOf, Overflow, cause_of, is_empty, unless}
use Rattle.columns_core.specs.declared.cell.Cell.{Cell}
use Rattle.columns_core.specs.declared.data_type.DataType.{DataType}
use Rattle.columns_core.specs.declared.error.Error.{Error}
use Rattle.parquet_base.specs.Intervals.{holds}
use Rattle.parquet_base.specs.Pieces.{cut}
use Rattle.parquet_base.proofs.RangeLemmas.{range-split}
use Rattle.parquet_base.proofs.SegmentLemmas.{holds_inside, holds_after}
use Rattle.parquet_encoding.proofs.StepLemmas.{nothing}
use Rattle.parquet_meta.specs.Chunks.{chunk_causes}
use Rattle.parquet_meta.specs.Places.{bytes_at}
use Rattle.parquet_meta.specs.declared.metadata.ColumnChunkMetaData.{ColumnChunkMetaData}
use Rattle.parquet_meta.specs.declared.metadata.Place.{Place}
use Rattle.parquet_meta.specs.declared.metadata.PrimitiveType.{PrimitiveType}
use Rattle.parquet_meta.specs.declared.metadata.RowGroupMetaData.{RowGroupMetaData}
use Rattle.parquet_page.specs.Chunk.{ChunkPage, Dictionary, NoDictionary, PlacedPage, PageWalk, chunk_dictionary, chunk_pages, dictionary_size, pages_of_chunk, placed_pages}
use Rattle.parquet_page.specs.Content.{Content, header_values}
use Rattle.parquet_page.specs.Lent.{Lent, behind_dictionary, chunk_lent, lent_data_of, lent_data}
use Rattle.parquet_page.proofs.RowSums.{page_values as values_of, walk_sum, is_whole}
use Rattle.page_decoding.specs.Bytes.{IsCausedByChunks, cell_bytes, fits_most}
use Rattle.page_decoding.specs.Column.{followed_by, rows}
use Rattle.page_decoding.specs.Outcome.{Outcome, Given, causes_in, cells_in}
use Rattle.page_decoding.specs.Queue.{IsChunkSize}
use Rattle.page_decoding.proofs.BytesLemmas.{take-append}
use Rattle.page_decoding.proofs.NextLemmas.{given-whole, nothing_wrong, take-nil}
use Rattle.page_decoding.proofs.RowLemmas.{one_of-left, one_of-right}
use Rattle.flat_values.specs.Agreement.{AreEntriesOf}
use Rattle.flat_values.specs.Conversion.{Conversion, Item, Value}
use Rattle.flat_values.specs.MostBytes.{most_bytes}
use Rattle.flat_values.specs.Outcomes.{outcome_of}
use Rattle.flat_values.specs.Pairs.{conversion}
use Rattle.flat_values.proofs.OutcomeLemmas.{cells_in-given}
use Rattle.column_ends.specs.Converted.{item_causes}
use Rattle.parquet_scan.specs.Causes.{begins_below, causes_of_chunk, causes_of_data, causes_of_dictionary, causes_of_walk, given_causes, has_dictionary, pair_causes, piece_causes, row_causes, rows_held, walked_causes}
use Rattle.parquet_scan.specs.Cells.{Reading, chunk_of, dictionary_content, item_among, item_in, items_in, rows_of_placed, walked_item, walked_reading}
use Rattle.parquet_scan.specs.Costs.{lent_of_chunk, with_dictionary_page}
use Rattle.flat_binary.specs.PagesWanted.{pages_wanted}
use Rattle.parquet_scan.specs.Decoded.{column_entries, column_outcomes, column_rows, pages_by, pages_for, rows_by}
use Rattle.parquet_scan.proofs.CauseLemmas.{ComesFrom, then_next}
use Rattle.parquet_scan.proofs.PageLemmas.{HasWrongFirst, IsOver, IsRefused, content_with, dictionary_first, first_taken, first_taken_wrong, items_many, page_given, page_refused, pair_rule, some_cause}
use Rattle.parquet_scan.proofs.PieceLemmas.{AreUnder, IsGivenCut, bytes_as, bytes_if_there, cut-lengths, cut-map, given-cut, passes_in, pieces-as, pieces_fit, under-items, under-more, under-refused, under-take}

-- ---- rows, one after another

pub map_rows : {X : Type 0} (f g : ℕ → X) (a n : ℕ) → ((row : ℕ) → a ≤ row → row < a + n → f row ≡ g row) → map f (range_with_len a n) ≡ map g (range_with_len a n)
map_rows f g a zero h = refl
map_rows f g a (suc n) h =
    let first : f a ≡ g a = h a (omega arith) (omega arith) in
    let rest : map f (range_with_len (a + 1) n) ≡ map g (range_with_len (a + 1) n) = map_rows f g (a + 1) n (λ row above below. h row (omega (arith, above)) (omega (arith, below))) in
    λ i. first i ∷ rest i

-- functions that agree on rows agree on those of them that pass a test
pub map_passing : {X : Type 0} (f g : ℕ → X) (test : ℕ → Bool) (a n : ℕ) → ((row : ℕ) → a ≤ row → row < a + n → f row ≡ g row)
    → map f (filter test (range_with_len a n)) ≡ map g (filter test (range_with_len a n))
map_passing f g test a zero same = refl
map_passing f g test a (suc n) same = by (test a) (same a (omega arith) (omega arith)) (map_passing f g test (a + 1) n (λ row above below. same row (omega (arith, above)) (omega (arith, below)))) where
  by : (b : Bool) → f a ≡ g a → map f (filter test (range_with_len (a + 1) n)) ≡ map g (filter test (range_with_len (a + 1) n))
      → map f (if b then a ∷ filter test (range_with_len (a + 1) n) else filter test (range_with_len (a + 1) n)) ≡ map g (if b then a ∷ filter test (range_with_len (a + 1) n) else filter test (range_with_len (a + 1) n))
  by true first rest = λ i. first i ∷ rest i
  by false first rest = rest

-- the items of a list belong to rows one after another
pub at_rows : {X : Type 0} (xs : List X) (a : ℕ) → map (λ row. slice_get xs (row - a)) (range_with_len a (length xs)) ≡ map Some xs
at_rows [] a = refl
at_rows (x ∷ xs) a =
    let own : a - a ≡ 0 = omega arith in
    let first : slice_get (x ∷ xs) (a - a) ≡ Some x = ap (slice_get (x ∷ xs)) own in
    let rest = map_rows (λ row. slice_get (x ∷ xs) (row - a)) (λ row. slice_get xs (row - (a + 1))) (a + 1) (length xs) (λ row above below. ap (slice_get (x ∷ xs)) (next row above)) ∙ at_rows xs (a + 1) in
    λ i. first i ∷ rest i where
      next : (row : ℕ) → a + 1 ≤ row → row - a ≡ suc (row - (a + 1))
      next row h = omega (arith, h)

-- ---- the items of the rows of pages

-- an item for each place that a page has, as far as it stands for any
abbrev pub row_items : Reading → ChunkPage → List (Option Item)
row_items reading page = option_map_or (map Some) (items_in reading page) (replicate (header_values page.header) None)

nothing_there : {X : Type 0} (a n : ℕ) → map (λ (row : ℕ). nothing {A = X}) (range_with_len a n) ≡ replicate n nothing
nothing_there a zero = refl
nothing_there a (suc n) = ap (λ rest. None ∷ rest) (nothing_there (a + 1) n)

items_in_page : (reading : Reading) (start row : ℕ) (page : ChunkPage)
    → map (λ r. item_in reading r (record { start = start; first_row = row; page = page })) (range_with_len row (header_values page.header)) ≡ row_items reading page
items_in_page reading start row page = by (items_in reading page) refl where
  by : (o : Option (List Item)) → items_in reading page ≡ o
      → map (λ r. option_and_then (λ items. slice_get items (r - row)) o) (range_with_len row (header_values page.header)) ≡ option_map_or (map Some) o (replicate (header_values page.header) None)
  by None e = nothing_there row (header_values page.header)
  by (Some items) e = ap (λ n. map (λ r. slice_get items (r - row)) (range_with_len row n)) (sym (items_many reading page items e)) ∙ at_rows items row

-- the rows of the pages, one after another, have the items of the pages
pub items_among : (reading : Reading) (start row : ℕ) (pages : List ChunkPage)
    → map (item_among reading (placed_pages start row pages)) (range_with_len row (sum_by values_of pages)) ≡ flat_map (row_items reading) pages
items_among reading start row [] = refl
items_among reading start row (page ∷ pages) =
    let count = header_values page.header in
    let placed : PlacedPage = record { start = start; first_row = row; page = page } in
    let others = placed_pages (start + page.size) (row + count) pages in
    let left = sum_by values_of pages in
    let own : map (item_among reading (placed ∷ others)) (range_with_len row count) ≡ row_items reading page
    = map_rows (item_among reading (placed ∷ others)) (λ r. item_in reading r placed) row count
    (λ r above below. ap (λ b. option_and_then (item_in reading r) (cond b (Some placed) (find (λ (other : PlacedPage). holds (rows_of_placed other) r) others))) (holds_inside (rows_of_placed placed) r above below))
    ∙ items_in_page reading start row page in
    let behind : map (item_among reading (placed ∷ others)) (range_with_len (row + count) left) ≡ flat_map (row_items reading) pages
    = map_rows (item_among reading (placed ∷ others)) (item_among reading others) (row + count) left
    (λ r above below. ap (λ b. option_and_then (item_in reading r) (cond b (Some placed) (find (λ (other : PlacedPage). holds (rows_of_placed other) r) others))) (holds_after (rows_of_placed placed) r above))
    ∙ items_among reading (start + page.size) (row + count) pages in
    ap (λ n. map (item_among reading (placed ∷ others)) (range_with_len row n)) (sum_by-cons values_of page pages)
    ∙ ap (map (item_among reading (placed ∷ others))) (range-split row count left)
    ∙ map-append (item_among reading (placed ∷ others)) (range_with_len row count) (range_with_len (row + count) left)
    ∙ (λ i. own i ++ behind i)

-- ---- what is wrong with items of rows

-- with an item, if there is one
abbrev pub causes_if_there : Option Item → List Cause
causes_if_there item = option_map_or item_causes item []

pub rows_caused : (item : ℕ → Option Item) (rows : List ℕ) → row_causes item rows ≡ flat_map causes_if_there (map item rows)
rows_caused item [] = refl
rows_caused item (row ∷ rows) = ap (λ rest. causes_if_there (item row) ++ rest) (rows_caused item rows)

pub items_there : (items : List Item) → flat_map causes_if_there (map Some items) ≡ flat_map item_causes items
items_there [] = refl
items_there (item ∷ items) = ap (λ rest. item_causes item ++ rest) (items_there items)

pub values_uncaused : (cells : List Cell) → flat_map causes_if_there (map (λ cell. Some (Value cell)) cells) ≡ []
values_uncaused [] = refl
values_uncaused (cell ∷ cells) = values_uncaused cells

-- ---- rows that are given in pieces

-- With pieces of the values of rows, whose bytes fit, nothing is wrong.
pub nothing_given : (data_type : DataType) (item : ℕ → Option Item) (size : Option ℕ) (rows : List ℕ) (cells : List Cell) (given : List (List Cell)) → given ≡ cut size cells → map item rows ≡ map (λ cell. Some (Value cell)) cells
    → All (λ cells. fits_most (most_bytes data_type) (sum_by cell_bytes cells) ≡ true) given → given_causes size data_type item rows ≡ []
nothing_given data_type item size rows cells given are e fit =
    let no_items : row_causes item rows ≡ [] = rows_caused item rows ∙ ap (flat_map causes_if_there) e ∙ values_uncaused cells in
    let pieces = pieces-as (λ cell. Some (Value cell)) item size rows cells e ∙ ap (map (map (λ cell. Some (Value cell)))) (sym are) in
    λ i. no_items i ++ pieces_fit data_type item (cut size rows) given pieces fit i

-- what is wrong with the bytes of a piece, by its items
abbrev items_past : DataType → List (Option Item) → List Cause
items_past data_type items = unless (fits_most (most_bytes data_type) (sum_by bytes_if_there items)) Overflow

pieces_caused : (data_type : DataType) (item : ℕ → Option Item) (rows : List (List ℕ)) → flat_map (piece_causes data_type item) rows ≡ flat_map (items_past data_type) (map (map item) rows)
pieces_caused data_type item [] = refl
pieces_caused data_type item (piece ∷ rows) =
    let own : piece_causes data_type item piece ≡ items_past data_type (map item piece) = ap (λ n. unless (fits_most (most_bytes data_type) n) Overflow) (bytes_as item piece) in
    λ i. own i ++ pieces_caused data_type item rows i

-- Rows with the same items have the same causes.
pub same_given : (size : Option ℕ) (data_type : DataType) (item other : ℕ → Option Item) (rows : List ℕ) → map item rows ≡ map other rows → given_causes size data_type item rows ≡ given_causes size data_type other rows
same_given size data_type item other rows e =
    let each = rows_caused item rows ∙ ap (flat_map causes_if_there) e ∙ sym (rows_caused other rows) in
    let cut_same : map (map item) (cut size rows) ≡ map (map other) (cut size rows) = sym (cut-map item size rows) ∙ ap (cut size) e ∙ cut-map other size rows in
    let pieces = pieces_caused data_type item (cut size rows) ∙ ap (flat_map (items_past data_type)) cut_same ∙ sym (pieces_caused data_type other (cut size rows)) in
    λ i. each i ++ pieces i

-- What is wrong with rows in chunks is wrong with what is opened for them, with the item of a row, or with the bytes of a piece.
pub tells_of_rows : (data_type : DataType) (item : ℕ → Option Item) (size : Option ℕ) (rows : List ℕ) (wanted : List Outcome) (opened : List Cause) (error : Error) → IsChunkSize size → AreUnder wanted (map item rows)
    → ((o : Option Cause) → IsOneOf (causes_in wanted) o → IsOneOf (opened ++ row_causes item rows) o) → IsCausedByChunks (most_bytes data_type) size wanted error → ComesFrom (opened ++ given_causes size data_type item rows) error
tells_of_rows data_type item size rows wanted opened error some under among (inl (inl memory)) = inl memory
tells_of_rows data_type item size rows wanted opened error some under among (inl (inr one)) =
    let pieces = flat_map (piece_causes data_type item) (cut size rows) in
    inr (subst (λ causes. IsOneOf causes (cause_of error)) (append_assoc opened (row_causes item rows) pieces)
    (one_of-left (opened ++ row_causes item rows) pieces (cause_of error) (among (cause_of error) one)))
tells_of_rows data_type item size rows wanted opened error some under among (inr passes) =
    let pieces = flat_map (piece_causes data_type item) (cut size rows) in
    inr (subst (IsOneOf (opened ++ given_causes size data_type item rows)) (sym passes.0)
    (one_of-right opened (row_causes item rows ++ pieces) (Some Overflow) (one_of-right (row_causes item rows) pieces (Some Overflow) (passes_in data_type item size rows wanted some under passes.1))))

-- ---- outcomes without causes

pub causes_behind : (cells : List Cell) (later : List Outcome) → causes_in (map Given cells ++ later) ≡ causes_in later
causes_behind [] later = refl
causes_behind (cell ∷ cells) later = causes_behind cells later

pub same_cells : (cells found : List Cell) → map Given cells ≡ map Given found → found ≡ cells
same_cells cells found e = sym (cells_in-given found) ∙ ap cells_in (sym e) ∙ cells_in-given cells

-- ---- the pages that are opened for the first rows

-- those that begin before so many rows end
abbrev pub opened_pages : ℕ → List ChunkPage → List ChunkPage
opened_pages zero pages = []
opened_pages (suc more) [] = []
opened_pages (suc more) (page ∷ pages) = page ∷ opened_pages (suc more - header_values page.header) pages

pub opened_none : (wanted : ℕ) → opened_pages wanted [] ≡ []
opened_none zero = refl
opened_none (suc more) = refl

-- Those of pages in their places that begin below the last row are these in their places.
pub opened_placed : (n start row : ℕ) (pages : List ChunkPage) → filter (begins_below n) (placed_pages start row pages) ≡ placed_pages start row (opened_pages (n - row) pages)
opened_placed n start row [] = ap (placed_pages start row) (sym (opened_none (n - row)))
opened_placed n start row (page ∷ pages) = elim (cases_lt row n) [
  | inl below ↦ (let left : n - row ≡ suc (n - row - 1) = omega (arith, below) in
      let behind : n - (row + header_values page.header) ≡ suc (n - row - 1) - header_values page.header = omega (arith, below) in
      ap (λ b. cond b (first ∷ filter (begins_below n) others) (filter (begins_below n) others)) (lt-ltb row n below)
      ∙ ap (λ rest. first ∷ rest) (opened_placed n (start + page.size) (row + header_values page.header) pages ∙ ap (λ m. placed_pages (start + page.size) (row + header_values page.header) (opened_pages m pages)) behind)
      ∙ sym (ap (λ m. placed_pages start row (opened_pages m (page ∷ pages))) left))
  | inr past ↦ (let left : n - row ≡ 0 = omega (arith, past) in
      let behind : n - (row + header_values page.header) ≡ 0 = omega (arith, past) in
      ap (λ b. cond b (first ∷ filter (begins_below n) others) (filter (begins_below n) others)) (le-ltb row n past)
      ∙ opened_placed n (start + page.size) (row + header_values page.header) pages ∙ ap (λ m. placed_pages (start + page.size) (row + header_values page.header) (opened_pages m pages)) behind
      ∙ sym (ap (λ m. placed_pages start row (opened_pages m (page ∷ pages))) left))
] where
  first : PlacedPage
  first = record { start = start; first_row = row; page = page }

  others : List PlacedPage
  others = placed_pages (start + page.size) (row + header_values page.header) pages

pub placed_alone : (start row : ℕ) (pages : List ChunkPage) → map (λ (placed : PlacedPage). placed.page) (placed_pages start row pages) ≡ pages
placed_alone start row [] = refl
placed_alone start row (page ∷ pages) = ap (λ rest. page ∷ rest) (placed_alone (start + page.size) (row + header_values page.header) pages)

opened_are : (n start row : ℕ) (pages : List ChunkPage) → map (λ (placed : PlacedPage). placed.page) (filter (begins_below n) (placed_pages start row pages)) ≡ opened_pages (n - row) pages
opened_are n start row pages = ap (map (λ (placed : PlacedPage). placed.page)) (opened_placed n start row pages) ∙ placed_alone start row (opened_pages (n - row) pages)

opened_some : (more : ℕ) (pages : List ChunkPage) → suc more ≤ sum_by values_of pages → 0 < length (opened_pages (suc more) pages)
opened_some more [] held = absurd (omega (arith, held))
opened_some more (page ∷ pages) held = omega arith

-- pages in their places hold what the pages hold
pub sum-placed : (start row : ℕ) (pages : List ChunkPage) → rows_held (placed_pages start row pages) ≡ sum_by values_of pages
sum-placed start row [] = refl
sum-placed start row (page ∷ pages) =
    let first : PlacedPage = record { start = start; first_row = row; page = page } in
    let rest = placed_pages (start + page.size) (row + values_of page) pages in
    omega (arith, sum_by-cons (λ (placed : PlacedPage). header_values placed.page.header) first rest, sum_by-cons values_of page pages, sum-placed (start + page.size) (row + values_of page) pages)

-- a page has as many items as its header says
row_items_many : (reading : Reading) (page : ChunkPage) → length (row_items reading page) ≡ header_values page.header
row_items_many reading page = by (items_in reading page) refl where
  by : (o : Option (List Item)) → items_in reading page ≡ o → length (option_map_or (map Some) o (replicate (header_values page.header) None)) ≡ header_values page.header
  by None e = length-replicate (header_values page.header) None
  by (Some items) e = length-map items Some ∙ items_many reading page items e

-- ---- data pages, one behind the other

module _ (reading : Reading) (rule : Conversion) (entries : Option (List Cell)) (pair : conversion reading.stored reading.data_type ≡ Some rule)
    (over : AreEntriesOf rule reading.stored.physical_type (dictionary_content reading.dictionary) entries) (has : has_dictionary reading.dictionary ≡ is_some entries) where
  abbrev lent_pages : List ChunkPage → List Content
  lent_pages pages = map (lent_data_of reading.stored None) pages

  abbrev data_rows : List ChunkPage → List Cause → List Outcome
  data_rows pages causes = rows (column_entries reading.data_type rule reading.stored.physical_type) (column_outcomes reading.data_type rule) entries (lent_pages pages) causes

  abbrev data_wanted : ℕ → List ChunkPage → List Content
  data_wanted wanted pages = pages_wanted (column_entries reading.data_type rule reading.stored.physical_type) (column_outcomes reading.data_type rule) entries wanted (lent_pages pages)

  -- Nothing is wrong with the pages that are opened for so many rows, nor behind all pages where these hold fewer, and each of the
  -- first items is a value.
  pub record AreGiven (wanted : ℕ) (pages : List ChunkPage) (causes : List Cause) : Type 0 where
    pub found : List Cell
    pub none : flat_map (causes_of_data reading) (opened_pages wanted pages) ≡ []
    pub ends : (wanted ≤ sum_by values_of pages) ⊎ (causes ≡ [])
    pub outcomes : take wanted (data_rows pages causes) ≡ map Given found
    pub items : take wanted (flat_map (row_items reading) pages) ≡ map (λ cell. Some (Value cell)) found
    pub lent : length (data_wanted wanted pages) ≡ length (opened_pages wanted pages)

  more_ends : (more : ℕ) (page : ChunkPage) (pages : List ChunkPage) (causes : List Cause) → (suc more - header_values page.header ≤ sum_by values_of pages) ⊎ (causes ≡ []) → (suc more ≤ sum_by values_of (page ∷ pages)) ⊎ (causes ≡ [])
  more_ends more page pages causes (inl held) = inl (omega (arith, held, sum_by-cons values_of page pages))
  more_ends more page pages causes (inr none) = inr none

  data_given : (wanted : ℕ) (pages : List ChunkPage) (causes : List Cause) → causes_in (take wanted (data_rows pages causes)) ≡ [] → AreGiven wanted pages causes
  data_given zero pages causes none = record { found = []; none = refl; ends = inl (omega arith); outcomes = refl; items = refl; lent = refl }
  data_given (suc more) [] [] none = record { found = []; none = refl; ends = inr refl; outcomes = refl; items = refl; lent = refl }
  data_given (suc more) [] (cause ∷ causes) none = absurd (some_cause cause (causes ++ causes_in (take more [])) none)
  data_given (suc more) (page ∷ pages) causes none =
      let later = data_rows pages causes in
      let count = header_values page.header in
      let first = first_taken reading rule entries pair over has more page later none in
      let others = data_given (suc more - count) pages causes first.later_none in
      let here : row_items reading page ≡ map Some first.items = ap (λ o. option_map_or (map Some) o (replicate count None)) first.are in
      let long : length (row_items reading page) ≡ count = ap length here ∙ length-map first.items Some ∙ first.many in
      let own : take (suc more) (row_items reading page) ≡ map (λ cell. Some (Value cell)) first.cells
      = ap (take (suc more)) here ∙ take-map Some (suc more) first.items ∙ ap (map Some) first.values ∙ map-map Some Value first.cells in
      record {
        found = first.cells ++ others.found;
        none = λ i. first.none i ++ others.none i;
        ends = more_ends more page pages causes others.ends;
        outcomes = first.outcomes ∙ ap (λ later. map Given first.cells ++ later) others.outcomes ∙ sym (map-append Given first.cells others.found);
        items = take-append (suc more) (row_items reading page) (flat_map (row_items reading) pages)
            ∙ (λ i. own i ++ take (suc more - long i) (flat_map (row_items reading) pages))
            ∙ ap (λ rest. map (λ cell. Some (Value cell)) first.cells ++ rest) others.items
            ∙ sym (map-append (λ cell. Some (Value cell)) first.cells others.found);
        lent = ap (λ n. suc (length (data_wanted (suc more - n) pages))) first.long ∙ ap suc others.lent;
      }

  -- What is wrong with the first rows is wrong with an opened page as a whole, with one of the first items, or behind the pages, where
  -- they hold fewer rows.
  abbrev IsWrongAmong : ℕ → List ChunkPage → List Cause → Option Cause → Type 0
  IsWrongAmong wanted pages causes o =
      IsOneOf (flat_map (causes_of_data reading) (opened_pages wanted pages)) o
      ⊎ (IsOneOf (flat_map causes_if_there (take wanted (flat_map (row_items reading) pages))) o ⊎ ((sum_by values_of pages < wanted) × IsOneOf causes o))

  data_wrong : (wanted : ℕ) (pages : List ChunkPage) (causes : List Cause) (o : Option Cause) → IsOneOf (causes_in (take wanted (data_rows pages causes))) o → IsWrongAmong wanted pages causes o
  data_wrong zero pages causes o wrong = absurd (nothing_wrong o wrong)
  data_wrong (suc more) [] [] o wrong = absurd (nothing_wrong o wrong)
  data_wrong (suc more) [] (cause ∷ causes) o wrong =
      inr (inr (omega arith, subst (λ causes. IsOneOf causes o) (ap (λ rest. (cause ∷ causes) ++ causes_in rest) (take-nil more) ∙ append-nil (cause ∷ causes)) wrong))
  data_wrong (suc more) (page ∷ pages) causes o wrong =
      go (first_taken_wrong reading rule entries pair over has more page (data_rows pages causes) o wrong) (data_wrong (suc more - count) pages causes o) where
        count : ℕ
        count = header_values page.header

        own_items : List (Option Item)
        own_items = row_items reading page

        rest_items : List (Option Item)
        rest_items = flat_map (row_items reading) pages

        split : length own_items ≡ count → flat_map causes_if_there (take (suc more) (own_items ++ rest_items)) ≡ flat_map causes_if_there (take (suc more) own_items) ++ flat_map causes_if_there (take (suc more - count) rest_items)
        split long =
            ap (flat_map causes_if_there) (take-append (suc more) own_items rest_items ∙ ap (λ n. take (suc more) own_items ++ take (suc more - n) rest_items) long)
            ∙ flat_map-append causes_if_there (take (suc more) own_items) (take (suc more - count) rest_items)

        here : (item : HasWrongFirst reading (suc more) page o) → IsOneOf (flat_map causes_if_there (take (suc more) own_items)) o
        here item = subst (λ causes. IsOneOf causes o)
            (sym (ap (λ o. flat_map causes_if_there (take (suc more) (option_map_or (map Some) o (replicate count None)))) item.are ∙ ap (flat_map causes_if_there) (take-map Some (suc more) item.items)
            ∙ items_there (take (suc more) item.items))) item.wrong

        go : IsOneOf (causes_of_data reading page) o ⊎ (HasWrongFirst reading (suc more) page o ⊎ IsOneOf (causes_in (take (suc more - count) (data_rows pages causes))) o)
            → (IsOneOf (causes_in (take (suc more - count) (data_rows pages causes))) o → IsWrongAmong (suc more - count) pages causes o) → IsWrongAmong (suc more) (page ∷ pages) causes o
        go (inl whole) others = inl (one_of-left (causes_of_data reading page) (flat_map (causes_of_data reading) (opened_pages (suc more - count) pages)) o whole)
        go (inr (inl item)) others =
            inr (inl (subst (λ causes. IsOneOf causes o) (sym (split (row_items_many reading page)))
            (one_of-left (flat_map causes_if_there (take (suc more) own_items)) (flat_map causes_if_there (take (suc more - count) rest_items)) o (here item))))
        go (inr (inr behind)) others = elim (others behind) [
          | inl whole ↦ inl (one_of-right (causes_of_data reading page) (flat_map (causes_of_data reading) (opened_pages (suc more - count) pages)) o whole)
          | inr (inl item) ↦ inr (inl (subst (λ causes. IsOneOf causes o) (sym (split (row_items_many reading page)))
              (one_of-right (flat_map causes_if_there (take (suc more) own_items)) (flat_map causes_if_there (take (suc more - count) rest_items)) o item)))
          | inr (inr end) ↦ inr (inr (let fewer : sum_by values_of (page ∷ pages) < suc more = omega (arith, end.0, sum_by-cons values_of page pages) in (fewer, end.1)))
        ]

  -- no row has more bytes than its item
  data_under : (pages : List ChunkPage) (causes : List Cause) → AreUnder (data_rows pages causes) (flat_map (row_items reading) pages)
  data_under [] [] = tt
  data_under [] (cause ∷ causes) = under-refused (cause ∷ causes) []
  data_under (page ∷ pages) causes = go (causes_of_data reading page) refl (data_under pages causes) where
    later : List Outcome
    later = data_rows pages causes

    rest : List (Option Item)
    rest = flat_map (row_items reading) pages

    followed : (b : Bool) (items : List Item) → AreUnder later rest → AreUnder (if b then map outcome_of items ++ later else map outcome_of items) (map Some items ++ rest)
    followed true items under = under-items items later rest under
    followed false items under = subst (λ outcomes. AreUnder outcomes (map Some items ++ rest)) (append-nil (map outcome_of items)) (under-items items [] rest tt)

    go : (found : List Cause) → causes_of_data reading page ≡ found → AreUnder later rest
        → AreUnder (followed_by (column_outcomes reading.data_type rule entries (content_with reading.stored None page)) later) (row_items reading page ++ rest)
    go [] e under =
        let given = page_given reading rule entries pair over has page e in
        let here : row_items reading page ≡ map Some given.items = ap (λ o. option_map_or (map Some) o (replicate (header_values page.header) None)) given.are in
        let P : List Outcome → List (Option Item) → Type 0 = λ own items. AreUnder (followed_by own later) (items ++ rest) in
        subst (λ own. P own (row_items reading page)) (sym (given.outcomes None)) (subst (P (map outcome_of given.items)) (sym here) (followed (is_empty (causes_in (map outcome_of given.items))) given.items under))
    go (cause ∷ causes) e under =
        subst (λ own. AreUnder (followed_by own later) (row_items reading page ++ rest)) (sym (page_refused reading rule entries pair over has None page cause causes e))
        (under-refused (cause ∷ causes) (row_items reading page ++ rest))

-- ---- how many rows the pages of a chunk have, where they are all there

chunk_sum : (n : ℕ) (chunk : List ℕ) → (chunk_pages n chunk).is_whole ≡ true → sum_by values_of (chunk_pages n chunk).pages ≡ n
unfolding chunk_pages
chunk_sum n chunk whole = walk_sum (length chunk) n (drop (dictionary_size chunk) chunk) whole

-- ---- chunks

-- the items of the first rows of pages: those that the pages hold, and others
rows_first : (reading : Reading) (start n : ℕ) (pages : List ChunkPage)
    → map (item_among reading (placed_pages start 0 pages)) (range_with_len 0 n)
    ≡ take n (flat_map (row_items reading) pages) ++ map (item_among reading (placed_pages start 0 pages)) (range_with_len (sum_by values_of pages) (n - sum_by values_of pages))
rows_first reading start n pages = elim (cases_lt n held) [
  | inl fewer ↦ (let none : n - held ≡ 0 = omega (arith, fewer) in
      sym (take-map-range_with_len item 0 held n (omega (arith, fewer)))
      ∙ ap (take n) (items_among reading start 0 pages)
      ∙ sym (append-nil (take n (flat_map (row_items reading) pages)))
      ∙ sym (ap (λ m. take n (flat_map (row_items reading) pages) ++ map item (range_with_len held m)) none))
  | inr more ↦ (let whole : n ≡ held + (n - held) = omega (arith, more) in
      let behind : 0 + held ≡ held = omega arith in
      let long : length (flat_map (row_items reading) pages) ≡ held = ap length (sym (items_among reading start 0 pages)) ∙ length-map-range_with_len item 0 held in
      ap (λ m. map item (range_with_len 0 m)) whole
      ∙ ap (map item) (range-split 0 held (n - held) ∙ ap (λ from. range_with_len 0 held ++ range_with_len from (n - held)) behind)
      ∙ map-append item (range_with_len 0 held) (range_with_len held (n - held))
      ∙ ap (λ items. items ++ map item (range_with_len held (n - held))) (items_among reading start 0 pages ∙ sym (take_all n (flat_map (row_items reading) pages) (omega (arith, more, long)))))
] where
  item : ℕ → Option Item
  item = item_among reading (placed_pages start 0 pages)

  held : ℕ
  held = sum_by values_of pages

module _ (stored : PrimitiveType) (data_type : DataType) (rule : Conversion) (pair : conversion stored data_type ≡ Some rule) where
  abbrev over : Dictionary → Reading
  over dictionary = record { stored = stored; dictionary = dictionary; data_type = data_type }

  abbrev walk_lent : Dictionary → PageWalk → Lent
  walk_lent dictionary walk = behind_dictionary dictionary (lent_data stored walk)

  abbrev walk_rows : Dictionary → PageWalk → List Outcome
  walk_rows dictionary walk = rows_by data_type stored.physical_type (walk_lent dictionary walk).pages (walk_lent dictionary walk).causes rule

  -- what is wrong with the first rows of pages that begin at a place
  abbrev walk_causes : Dictionary → ℕ → ℕ → PageWalk → List Cause
  walk_causes dictionary start wanted walk = causes_of_walk (over dictionary) wanted (placed_pages start 0 walk.pages)

  abbrev walk_item : Dictionary → ℕ → PageWalk → ℕ → Option Item
  walk_item dictionary start walk = item_among (over dictionary) (placed_pages start 0 walk.pages)

  -- Nothing is wrong with so many rows, and their items are these cells.
  pub record IsWalkGiven (dictionary : Dictionary) (start wanted : ℕ) (walk : PageWalk) (cells : List Cell) : Type 0 where
    pub none : walk_causes dictionary start wanted walk ≡ []
    pub items : map (walk_item dictionary start walk) (range_with_len 0 wanted) ≡ map (λ cell. Some (Value cell)) cells
    pub lent : length (pages_by data_type stored.physical_type wanted (walk_lent dictionary walk).pages rule) ≡ with_dictionary_page dictionary (length (filter (begins_below wanted) (placed_pages start 0 walk.pages)))

  -- the causes of opened pages in their places are those of the pages
  opened_causes : (reading : Reading) (start more : ℕ) (pages : List ChunkPage)
      → flat_map (λ (placed : PlacedPage). causes_of_data reading placed.page) (filter (begins_below (suc more)) (placed_pages start 0 pages)) ≡ flat_map (causes_of_data reading) (opened_pages (suc more) pages)
  opened_causes reading start more pages =
      let all : suc more - 0 ≡ suc more = omega arith in
      sym (flat_map-map (causes_of_data reading) (λ (placed : PlacedPage). placed.page) (filter (begins_below (suc more)) (placed_pages start 0 pages)))
      ∙ ap (flat_map (causes_of_data reading)) (opened_are (suc more) start 0 pages ∙ ap (λ n. opened_pages n pages) all)

  opened_count : (start more : ℕ) (pages : List ChunkPage) → length (filter (begins_below (suc more)) (placed_pages start 0 pages)) ≡ length (opened_pages (suc more) pages)
  opened_count start more pages =
      let all : suc more - 0 ≡ suc more = omega arith in
      sym (length-map (filter (begins_below (suc more)) (placed_pages start 0 pages)) (λ (placed : PlacedPage). placed.page))
      ∙ ap length (opened_are (suc more) start 0 pages ∙ ap (λ n. opened_pages n pages) all)

  pub walk_given : (dictionary : Dictionary) (start more : ℕ) (walk : PageWalk) (cells : List Cell) → (walk.is_whole ≡ true → suc more ≤ sum_by values_of walk.pages) → map Given cells ≡ take (suc more) (walk_rows dictionary walk)
      → IsWalkGiven dictionary start (suc more) walk cells
  walk_given dictionary start more walk cells enough e = go (dictionary_first stored data_type rule pair (lent_data stored walk) dictionary) where
    wanted : ℕ
    wanted = suc more

    none : causes_in (take (suc more) (walk_rows dictionary walk)) ≡ []
    none = given-whole [] cells (take (suc more) (walk_rows dictionary walk)) e

    are_held : (suc more ≤ sum_by values_of walk.pages) ⊎ (unless walk.is_whole ExternalFormat ≡ []) → suc more ≤ sum_by values_of walk.pages
    are_held (inl held) = held
    are_held (inr whole) = enough (is_whole walk.is_whole whole)

    go : IsOver (over dictionary) rule (lent_data stored walk) ⊎ IsRefused (over dictionary) rule (lent_data stored walk) → IsWalkGiven dictionary start (suc more) walk cells
    go (inl behind) =
        let all = data_given (over dictionary) rule behind.entries pair behind.are behind.has (suc more) walk.pages (unless walk.is_whole ExternalFormat) (sym (ap (λ rows. causes_in (take (suc more) rows)) behind.outcomes) ∙ none) in
        let held = are_held all.ends in
        let fits : nat_le (suc more) (rows_held (placed_pages start 0 walk.pages)) ≡ true = le-leb (suc more) (rows_held (placed_pages start 0 walk.pages)) (omega (arith, held, sum-placed start 0 walk.pages)) in
        let ends : unless (nat_le (suc more) (rows_held (placed_pages start 0 walk.pages))) ExternalFormat ≡ [] = ap (λ b. unless b ExternalFormat) fits in
        let pages = opened_causes (over dictionary) start more walk.pages ∙ all.none in
        let same = same_cells cells all.found (e ∙ ap (take (suc more)) behind.outcomes ∙ all.outcomes) in
        let rest : suc more - sum_by values_of walk.pages ≡ 0 = omega (arith, held) in
        let some = opened_some more walk.pages held in
        let count : length (opened_pages (suc more) walk.pages) ≡ suc (length (opened_pages (suc more) walk.pages) - 1) = omega (arith, some) in
        record {
          none = λ i. behind.none i ++ pages i ++ ends i;
          items = rows_first (over dictionary) start (suc more) walk.pages
              ∙ ap (λ n. take (suc more) (flat_map (row_items (over dictionary)) walk.pages) ++ map (walk_item dictionary start walk) (range_with_len (sum_by values_of walk.pages) n)) rest
              ∙ append-nil (take (suc more) (flat_map (row_items (over dictionary)) walk.pages))
              ∙ all.items ∙ ap (map (λ cell. Some (Value cell))) same;
          lent = behind.lent more (length (opened_pages (suc more) walk.pages) - 1) (all.lent ∙ count)
              ∙ ap (with_dictionary_page dictionary) (sym count ∙ sym (opened_count start more walk.pages));
        }
    go (inr wrong) = absurd (some_cause wrong.cause (wrong.causes ++ causes_in (take more [])) (sym (ap (λ rows. causes_in (take (suc more) rows)) wrong.outcomes) ∙ none))

  -- no row has more bytes than its item
  pub walk_under : (dictionary : Dictionary) (start wanted : ℕ) (walk : PageWalk) → AreUnder (take wanted (walk_rows dictionary walk)) (map (walk_item dictionary start walk) (range_with_len 0 wanted))
  walk_under dictionary start wanted walk =
      subst (AreUnder (take wanted (walk_rows dictionary walk))) (sym (rows_first (over dictionary) start wanted walk.pages))
      (under-more (take wanted (walk_rows dictionary walk)) (take wanted (flat_map (row_items (over dictionary)) walk.pages)) (map (walk_item dictionary start walk) (range_with_len (sum_by values_of walk.pages) (wanted - sum_by values_of walk.pages)))
      (under-take wanted (walk_rows dictionary walk) (flat_map (row_items (over dictionary)) walk.pages) (go (dictionary_first stored data_type rule pair (lent_data stored walk) dictionary)))) where
        items : List (Option Item)
        items = flat_map (row_items (over dictionary)) walk.pages

        go : IsOver (over dictionary) rule (lent_data stored walk) ⊎ IsRefused (over dictionary) rule (lent_data stored walk) → AreUnder (walk_rows dictionary walk) (flat_map (row_items (over dictionary)) walk.pages)
        go (inl behind) =
            subst (λ rows. AreUnder rows (flat_map (row_items (over dictionary)) walk.pages)) (sym behind.outcomes)
            (data_under (over dictionary) rule behind.entries pair behind.are behind.has walk.pages (unless walk.is_whole ExternalFormat))
        go (inr wrong) = subst (λ rows. AreUnder rows (flat_map (row_items (over dictionary)) walk.pages)) (sym wrong.outcomes) (under-refused (wrong.cause ∷ wrong.causes) (flat_map (row_items (over dictionary)) walk.pages))

  -- behind the pages there is one cause alone
  end_causes : (whole fits : Bool) (o : Option Cause) → fits ≡ false → IsOneOf (unless whole ExternalFormat) o → IsOneOf (unless fits ExternalFormat) o
  end_causes true fits o past one = absurd (nothing_wrong o one)
  end_causes false fits o past one = subst (λ b. IsOneOf (unless b ExternalFormat) o) (sym past) one

  -- What is wrong with the first rows is wrong with what is opened for them, or with the item of a row.
  pub walk_wrong : (dictionary : Dictionary) (start more : ℕ) (walk : PageWalk) (o : Option Cause) → IsOneOf (causes_in (take (suc more) (walk_rows dictionary walk))) o
      → IsOneOf (walk_causes dictionary start (suc more) walk ++ row_causes (walk_item dictionary start walk) (range_with_len 0 (suc more))) o
  walk_wrong dictionary start more walk o one = go (dictionary_first stored data_type rule pair (lent_data stored walk) dictionary) where
    own : List Cause
    own = causes_of_dictionary (over dictionary) dictionary

    pages : List Cause
    pages = flat_map (λ (placed : PlacedPage). causes_of_data (over dictionary) placed.page) (filter (begins_below (suc more)) (placed_pages start 0 walk.pages))

    ends : List Cause
    ends = unless (nat_le (suc more) (rows_held (placed_pages start 0 walk.pages))) ExternalFormat

    rows_wrong : List Cause
    rows_wrong = row_causes (walk_item dictionary start walk) (range_with_len 0 (suc more))

    first_items : List (Option Item)
    first_items = take (suc more) (flat_map (row_items (over dictionary)) walk.pages)

    rest_items : List (Option Item)
    rest_items = map (walk_item dictionary start walk) (range_with_len (sum_by values_of walk.pages) (suc more - sum_by values_of walk.pages))

    rows_are : rows_wrong ≡ flat_map causes_if_there first_items ++ flat_map causes_if_there rest_items
    rows_are =
        rows_caused (walk_item dictionary start walk) (range_with_len 0 (suc more)) ∙ ap (flat_map causes_if_there) (rows_first (over dictionary) start (suc more) walk.pages)
        ∙ flat_map-append causes_if_there first_items rest_items

    in_walk : IsOneOf (own ++ pages ++ ends) o → IsOneOf ((own ++ pages ++ ends) ++ rows_wrong) o
    in_walk one = one_of-left (own ++ pages ++ ends) rows_wrong o one

    go : IsOver (over dictionary) rule (lent_data stored walk) ⊎ IsRefused (over dictionary) rule (lent_data stored walk) → IsOneOf ((own ++ pages ++ ends) ++ rows_wrong) o
    go (inl behind) = elim (data_wrong (over dictionary) rule behind.entries pair behind.are behind.has (suc more) walk.pages (unless walk.is_whole ExternalFormat) o
        (subst (λ rows. IsOneOf (causes_in (take (suc more) rows)) o) behind.outcomes one)) [
          | inl whole ↦ in_walk (one_of-left (own ++ pages) ends o (one_of-right own pages o (subst (λ causes. IsOneOf causes o) (sym (opened_causes (over dictionary) start more walk.pages)) whole)))
          | inr (inl item) ↦ one_of-right (own ++ pages ++ ends) rows_wrong o (subst (λ causes. IsOneOf causes o) (sym rows_are) (one_of-left (flat_map causes_if_there first_items) (flat_map causes_if_there rest_items) o item))
          | inr (inr end) ↦ in_walk (one_of-right (own ++ pages) ends o
              (end_causes walk.is_whole (nat_le (suc more) (rows_held (placed_pages start 0 walk.pages))) o (lt-leb (suc more) (rows_held (placed_pages start 0 walk.pages)) (omega (arith, end.0, sum-placed start 0 walk.pages))) end.1))
        ]
    go (inr wrong) = in_walk (one_of-left (own ++ pages) ends o (one_of-left own pages o (subst (λ causes. IsOneOf causes o)
        (ap (λ rows. causes_in (take (suc more) rows)) wrong.outcomes ∙ ap (λ rest. (wrong.cause ∷ wrong.causes) ++ causes_in rest) (take-nil more) ∙ append-nil (wrong.cause ∷ wrong.causes) ∙ sym wrong.are) one)))

-- ---- the chunk of a column in a group

-- how the pages of a chunk are read
abbrev pub reading_of : DataType → ColumnChunkMetaData → List ℕ → Reading
reading_of data_type column chunk = record { stored = column.descriptor.primitive_type; dictionary = chunk_dictionary chunk; data_type = data_type }

-- the item of a row in the pages of a chunk
abbrev pub chunk_item : DataType → ColumnChunkMetaData → List ℕ → ℕ → Option Item
chunk_item data_type column chunk row = item_among (reading_of data_type column chunk) (pages_of_chunk column.num_values chunk) row

walked : (bytes : List ℕ) (column : ColumnChunkMetaData) (o : Option Place) (chunk : List ℕ) → option_map (bytes_at bytes) o ≡ Some chunk
    → option_map_or (λ place. pages_of_chunk column.num_values (bytes_at bytes place)) o [] ≡ pages_of_chunk column.num_values chunk
walked bytes column None chunk e = absurd cc
walked bytes column (Some place) chunk e = ap (λ o. option_map_or (pages_of_chunk column.num_values) o []) e

walked_over : (bytes : List ℕ) (o : Option Place) (chunk : List ℕ) → option_map (bytes_at bytes) o ≡ Some chunk → option_map_or (λ place. chunk_dictionary (bytes_at bytes place)) o NoDictionary ≡ chunk_dictionary chunk
walked_over bytes None chunk e = absurd cc
walked_over bytes (Some place) chunk e = ap (λ o. option_map_or chunk_dictionary o NoDictionary) e

-- what is wrong with the first rows of a chunk that is walked over
abbrev pub chunk_wrongs : Option ℕ → DataType → ColumnChunkMetaData → List ℕ → List ℕ → List Cause
chunk_wrongs size data_type column chunk rows =
    causes_of_walk (reading_of data_type column chunk) (length rows) (pages_of_chunk column.num_values chunk) ++ given_causes size data_type (chunk_item data_type column chunk) rows

module _ (bytes : List ℕ) (group : RowGroupMetaData) (data_type : DataType) (column : ColumnChunkMetaData) (chunk : List ℕ) (found : option_map (bytes_at bytes) (chunk_of bytes group column) ≡ Some chunk) where
  walked_is : walked_item bytes group data_type column ≡ chunk_item data_type column chunk
  walked_is =
      λ i row. item_among (record { stored = column.descriptor.primitive_type; dictionary = walked_over bytes (chunk_of bytes group column) chunk found i; data_type = data_type }) (walked bytes column (chunk_of bytes group column) chunk found i) row

  walked_causes_are : (size : Option ℕ) (rows : List ℕ) → chunk_causes column ≡ [] → causes_of_chunk false size bytes group rows data_type column ≡ chunk_wrongs size data_type column chunk rows
  walked_causes_are size rows readable =
      then_next (chunk_causes column) (option_map_or (λ place. walked_causes size bytes group rows data_type column place) (chunk_of bytes group column) (ExternalFormat ∷ [])) readable
      ∙ at (chunk_of bytes group column) found
      ∙ (λ i. causes_of_walk (record { stored = column.descriptor.primitive_type; dictionary = walked_over bytes (chunk_of bytes group column) chunk found i; data_type = data_type }) (length rows) (pages_of_chunk column.num_values chunk)
      ++ given_causes size data_type (walked_is i) rows) where
        at : (o : Option Place) → option_map (bytes_at bytes) o ≡ Some chunk
            → option_map_or (λ place. walked_causes size bytes group rows data_type column place) o (ExternalFormat ∷ [])
            ≡ causes_of_walk (walked_reading bytes group data_type column) (length rows) (pages_of_chunk column.num_values chunk) ++ given_causes size data_type (walked_item bytes group data_type column) rows
        at None e = absurd cc
        at (Some place) e =
            ap (λ o. option_map_or (λ chunk. causes_of_walk (walked_reading bytes group data_type column) (length rows) (pages_of_chunk column.num_values chunk) ++ given_causes size data_type (walked_item bytes group data_type column) rows) o
            (ExternalFormat ∷ [])) e

  lent_is : (rows : List ℕ) → lent_of_chunk false bytes group rows column ≡ with_dictionary_page (chunk_dictionary chunk) (length (filter (begins_below (length rows)) (pages_of_chunk column.num_values chunk)))
  lent_is rows =
      λ i. with_dictionary_page (walked_over bytes (chunk_of bytes group column) chunk found i) (length (filter (begins_below (length rows)) (walked bytes column (chunk_of bytes group column) chunk found i)))

-- what is lent of a chunk that has values
lent_behind : (stored : PrimitiveType) (n : ℕ) (chunk : List ℕ) → 0 < n → chunk_lent stored n chunk ≡ behind_dictionary (chunk_dictionary chunk) (lent_data stored (chunk_pages n chunk))
unfolding chunk_lent
lent_behind stored zero chunk some = absurd (omega (arith, some))
lent_behind stored (suc more) chunk some = refl

-- The first rows of a chunk that was read are wanted.
pub record IsWanted (told : Option (List ℕ)) (size : Option ℕ) (group : RowGroupMetaData) (data_type : DataType) (column : ColumnChunkMetaData) (chunk rows : List ℕ) : Type 0 where
  pub size_some : IsChunkSize size
  pub pair : pair_causes column.descriptor.primitive_type data_type ≡ []
  pub readable : chunk_causes column ≡ []
  pub counted : column.num_values ≡ group.num_rows
  pub found : IfSome told (λ bytes. option_map (bytes_at bytes) (chunk_of bytes group column) ≡ Some chunk)
  pub first : rows ≡ range_with_len 0 (length rows)
  pub some : 0 < length rows
  pub within : length rows ≤ group.num_rows

module _ (told : Option (List ℕ)) (size : Option ℕ) (group : RowGroupMetaData) (data_type : DataType) (column : ColumnChunkMetaData) (chunk rows : List ℕ) (is : IsWanted told size group data_type column chunk rows) where
  abbrev stored_as : PrimitiveType
  stored_as = column.descriptor.primitive_type

  abbrev lent : Lent
  lent = chunk_lent stored_as column.num_values chunk

  -- the rows that are wanted of it
  abbrev pub wanted : List Outcome
  wanted = take (length rows) (column_rows stored_as data_type lent.pages lent.causes)

  abbrev walk : PageWalk
  walk = chunk_pages column.num_values chunk

  abbrev item : ℕ → Option Item
  item = chunk_item data_type column chunk

  abbrev rule : (rule : Conversion) × (conversion stored_as data_type ≡ Some rule)
  rule = pair_rule stored_as data_type is.pair

  enough : walk.is_whole ≡ true → length rows ≤ sum_by values_of walk.pages
  enough whole = omega (arith, chunk_sum column.num_values chunk whole, is.counted, is.within)

  lent_are : lent ≡ walk_lent stored_as data_type rule.0 rule.1 (chunk_dictionary chunk) walk
  lent_are = lent_behind stored_as column.num_values chunk (omega (arith, is.some, is.within, is.counted))

  wanted_are : wanted ≡ take (length rows) (walk_rows stored_as data_type rule.0 rule.1 (chunk_dictionary chunk) walk)
  wanted_are =
      ap (λ o. take (length rows) (option_map_or (rows_by data_type stored_as.physical_type lent.pages lent.causes) o [])) rule.1
      ∙ ap (λ (lent : Lent). take (length rows) (rows_by data_type stored_as.physical_type lent.pages lent.causes rule.0)) lent_are

  wanted_more : length rows ≡ suc (length rows - 1)
  wanted_more = omega (arith, is.some)

  -- pieces of cells that are the wanted rows
  abbrev pub ArePieces : List (List Cell) → Type 0
  ArePieces given = map (map Given) given ≡ cut size wanted

  abbrev whole_cut : (given : List (List Cell)) → ArePieces given → IsGivenCut size wanted given
  whole_cut given e = given-cut size wanted given is.size_some e

  chunk_given : (given : List (List Cell)) (e : ArePieces given) → IsWalkGiven stored_as data_type rule.0 rule.1 (chunk_dictionary chunk) (dictionary_size chunk) (length rows) walk (whole_cut given e).cells
  chunk_given given e =
      let cells = (whole_cut given e).cells in
      let P : ℕ → Type 0 = λ n. IsWalkGiven stored_as data_type rule.0 rule.1 (chunk_dictionary chunk) (dictionary_size chunk) n walk cells in
      subst P (sym wanted_more)
      (walk_given stored_as data_type rule.0 rule.1 (chunk_dictionary chunk) (dictionary_size chunk) (length rows - 1) walk cells (λ whole. omega (arith, enough whole, wanted_more))
      ((whole_cut given e).rows ∙ wanted_are ∙ ap (λ n. take n (walk_rows stored_as data_type rule.0 rule.1 (chunk_dictionary chunk) walk)) wanted_more))

  items_are : (given : List (List Cell)) (e : ArePieces given) → map item rows ≡ map (λ cell. Some (Value cell)) (whole_cut given e).cells
  items_are given e = ap (map item) is.first ∙ (chunk_given given e).items

  -- there is a cell for each row
  pub cells_counted : (given : List (List Cell)) → ArePieces given → map length given ≡ map length (cut size rows)
  cells_counted given e =
      let cells = (whole_cut given e).cells in
      let long : length cells ≡ length rows = sym (length-map cells (λ cell. Some (Value cell))) ∙ ap length (sym (items_are given e)) ∙ length-map rows item in
      ap (map length) (whole_cut given e).cut ∙ cut-lengths size cells rows is.size_some long

  pub told_items : (given : List (List Cell)) → ArePieces given → IfSome told (λ bytes. map (map (λ cell. Some (Value cell))) given ≡ map (map (walked_item bytes group data_type column)) (cut size rows))
  told_items given e = at told is.found where
    at : (told : Option (List ℕ)) → IfSome told (λ bytes. option_map (bytes_at bytes) (chunk_of bytes group column) ≡ Some chunk)
        → IfSome told (λ bytes. map (map (λ cell. Some (Value cell))) given ≡ map (map (walked_item bytes group data_type column)) (cut size rows))
    at None found = tt
    at (Some bytes) found =
        ap (map (map (λ cell. Some (Value cell)))) (whole_cut given e).cut
        ∙ sym (pieces-as (λ cell. Some (Value cell)) item size rows (whole_cut given e).cells (items_are given e))
        ∙ ap (λ item. map (map item) (cut size rows)) (sym (walked_is bytes group data_type column chunk found))

  -- nothing is wrong with a chunk of which cells came whose bytes fit
  pub told_none : (given : List (List Cell)) → ArePieces given → All (λ cells. fits_most (most_bytes data_type) (sum_by cell_bytes cells) ≡ true) given
      → IfSome told (λ bytes. causes_of_chunk false size bytes group rows data_type column ≡ [])
  told_none given e fit = at told is.found where
    none : chunk_wrongs size data_type column chunk rows ≡ []
    none = λ i. (chunk_given given e).none i ++ nothing_given data_type item size rows (whole_cut given e).cells given (whole_cut given e).cut (items_are given e) fit i

    at : (told : Option (List ℕ)) → IfSome told (λ bytes. option_map (bytes_at bytes) (chunk_of bytes group column) ≡ Some chunk)
        → IfSome told (λ bytes. causes_of_chunk false size bytes group rows data_type column ≡ [])
    at None found = tt
    at (Some bytes) found = walked_causes_are bytes group data_type column chunk found size rows is.readable ∙ none

  -- the pages that are lent for them
  pub told_lent : (given : List (List Cell)) → ArePieces given → IfSome told (λ bytes. length (pages_for stored_as data_type (length rows) lent.pages) ≡ lent_of_chunk false bytes group rows column)
  told_lent given e = at told is.found where
    pages : length (pages_for stored_as data_type (length rows) lent.pages) ≡ with_dictionary_page (chunk_dictionary chunk) (length (filter (begins_below (length rows)) (pages_of_chunk column.num_values chunk)))
    pages =
        ap (λ o. length (option_map_or (pages_by data_type stored_as.physical_type (length rows) lent.pages) o [])) rule.1
        ∙ ap (λ (lent : Lent). length (pages_by data_type stored_as.physical_type (length rows) lent.pages rule.0)) lent_are
        ∙ (chunk_given given e).lent

    at : (told : Option (List ℕ)) → IfSome told (λ bytes. option_map (bytes_at bytes) (chunk_of bytes group column) ≡ Some chunk)
        → IfSome told (λ bytes. length (pages_for stored_as data_type (length rows) lent.pages) ≡ lent_of_chunk false bytes group rows column)
    at None found = tt
    at (Some bytes) found = pages ∙ sym (lent_is bytes group data_type column chunk found rows)

  -- what is wrong with the wanted rows is wrong with the chunk
  pub tells_of_chunk : (error : Error) → IsCausedByChunks (most_bytes data_type) size wanted error → ComesFrom (chunk_wrongs size data_type column chunk rows) error
  tells_of_chunk error caused =
      tells_of_rows data_type item size rows wanted (causes_of_walk (reading_of data_type column chunk) (length rows) (pages_of_chunk column.num_values chunk)) error is.size_some under among caused where
        under : AreUnder wanted (map item rows)
        under =
            (let P : List Outcome → List (Option Item) → Type 0 = λ outcomes items. AreUnder outcomes items in
            subst (λ outcomes. P outcomes (map item rows)) (sym wanted_are)
            (subst (P (take (length rows) (walk_rows stored_as data_type rule.0 rule.1 (chunk_dictionary chunk) walk))) (ap (map item) (sym is.first))
            (walk_under stored_as data_type rule.0 rule.1 (chunk_dictionary chunk) (dictionary_size chunk) (length rows) walk)))

        among : (o : Option Cause) → IsOneOf (causes_in wanted) o → IsOneOf (causes_of_walk (reading_of data_type column chunk) (length rows) (pages_of_chunk column.num_values chunk) ++ row_causes item rows) o
        among o one =
            (let P : ℕ → Type 0 = λ n. IsOneOf (causes_of_walk (reading_of data_type column chunk) n (pages_of_chunk column.num_values chunk) ++ row_causes item (range_with_len 0 n)) o in
            subst (λ rows_are. IsOneOf (causes_of_walk (reading_of data_type column chunk) (length rows) (pages_of_chunk column.num_values chunk) ++ row_causes item rows_are) o) (sym is.first)
            (subst P (sym wanted_more)
            (walk_wrong stored_as data_type rule.0 rule.1 (chunk_dictionary chunk) (dictionary_size chunk) (length rows - 1) walk o
            (subst (λ outcomes. IsOneOf (causes_in outcomes) o) (wanted_are ∙ ap (λ n. take n (walk_rows stored_as data_type rule.0 rule.1 (chunk_dictionary chunk) walk)) wanted_more) one))))

  pub told_wrongs : IfSome told (λ bytes. causes_of_chunk false size bytes group rows data_type column ≡ chunk_wrongs size data_type column chunk rows)
  told_wrongs = at told is.found where
    at : (told : Option (List ℕ)) → IfSome told (λ bytes. option_map (bytes_at bytes) (chunk_of bytes group column) ≡ Some chunk)
        → IfSome told (λ bytes. causes_of_chunk false size bytes group rows data_type column ≡ chunk_wrongs size data_type column chunk rows)
    at None found = tt
    at (Some bytes) found = walked_causes_are bytes group data_type column chunk found size rows is.readable
