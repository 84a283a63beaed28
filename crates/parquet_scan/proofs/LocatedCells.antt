-- Cells in the pages that true locations name.
use Rattle.std.proofs.Common.{◌≡◌, ℕ, ◌+◌, ◌-◌, pos, Bool, true, false, cond, List, [], ◌∷◌, length, map, is_some, refl, sym, ◌∙◌, ap, arith}
use Rattle.std.specs.Prelude.{ℤ, Option, Some, None, find, zip, sum_by, option_map, option_and_then, nat_le, nat_lt, ◌&&◌, ◌==◌, unwrap_or, if◌then◌else◌}
use Rattle.std.specs.List.{AllByRecursion}
use Rattle.std.specs.Option.{option_map_or}
use Rattle.std.proofs.lemmas.Bool.{false≢true, and_parts, le-leb, eqb-true}
use Rattle.std.proofs.lemmas.List.Sums.{sum_by-cons}
use Rattle.std.proofs.lemmas.Simd.{map-map}
use Rattle.columns_core.specs.Causes.{is_empty}
use Rattle.columns_core.specs.declared.cell.Cell.{Null}
use Rattle.columns_core.specs.declared.data_type.DataType.{DataType}
use Rattle.parquet_base.specs.declared.interval.Interval.{Interval}
use Rattle.parquet_base.specs.Intervals.{interval, holds}
use Rattle.parquet_base.specs.Reading.{◌>>=◌, given}
use Rattle.parquet_meta.specs.declared.metadata.ColumnChunkMetaData.{ColumnChunkMetaData}
use Rattle.parquet_meta.specs.declared.metadata.PageLocation.{PageLocation}
use Rattle.parquet_meta.specs.declared.metadata.Place.{Place}
use Rattle.parquet_meta.specs.declared.metadata.RowGroupMetaData.{RowGroupMetaData}
use Rattle.parquet_meta.specs.Chunks.{chunk_causes, chunk_range, chunk_start, has_range}
use Rattle.parquet_meta.specs.Places.{place_end, bytes_at}
use Rattle.parquet_page.specs.Alone.{IsReadAlone}
use Rattle.parquet_page.specs.Chunk.{ChunkPage, Dictionary, DictionaryPage, NoDictionary, PlacedPage, Undefined, chunk_dictionary, chunk_pages, dictionary_at, dictionary_size, if_defined, location_of_page, pages_of_chunk, placed_pages}
use Rattle.parquet_page.specs.Content.{header_values}
use Rattle.parquet_page.specs.Located.{dictionary_in, located_dictionary, located_page}
use Rattle.parquet_page.specs.Locations.{located, next_row, page_intervals, rows_between}
use Rattle.parquet_page.proofs.AloneLemmas.{dictionary_alone, pages_alone}
use Rattle.parquet_page.proofs.HeaderLemmas.{dictionary_measured}
use Rattle.flat_values.specs.Conversion.{Value}
use Rattle.column_ends.specs.Converted.{as_cell}
use Rattle.parquet_scan.specs.Cells.{Reading, dictionary_by_locations, chunk_of, column_cell, column_item, dictionary_before, is_null_type, item_among, item_at, item_in, item_located, located_item, located_pages, located_reading, rows_of_placed, walked_dictionary, walked_item, walked_pages, walked_reading}
use Rattle.parquet_scan.specs.Laws.{LocatedCellsAreCells}
use Rattle.parquet_scan.specs.Pages.{location_rows, locations}
use Rattle.parquet_scan.proofs.CellLemmas.{sum-placed}
use Rattle.parquet_scan.specs.Truth.{AreTrueCounts, AreTrueLocations}

-- ---- lists

zip-maps : {X Y Z : Type 0} (f : X → Y) (g : X → Z) (xs : List X) → zip (map f xs) (map g xs) ≡ map (λ x. (f x, g x)) xs
zip-maps f g [] = refl
zip-maps f g (x ∷ xs) = ap (λ rest. (f x, g x) ∷ rest) (zip-maps f g xs)

same_maps : {X Y : Type 0} (P : X → Type 0) (f g : X → Y) → ((x : X) → P x → f x ≡ g x) → (xs : List X) → AllByRecursion P xs → map f xs ≡ map g xs
same_maps P f g same [] all = refl
same_maps P f g same (x ∷ xs) all = ap (λ y. y ∷ map f xs) (same x all.0) ∙ ap (λ rest. g x ∷ rest) (same_maps P f g same xs all.1)

found_in : {X Y : Type 0} (f : X → Y) (x : X) (b : Bool) (there : Option Y) (here : Option X) → there ≡ option_map f here
    → cond b (Some (f x)) there ≡ option_map f (cond b (Some x) here)
found_in f x true there here e = refl
found_in f x false there here e = e

find-map : {X Y : Type 0} (test : Y → Bool) (f : X → Y) (xs : List X) → find test (map f xs) ≡ option_map f (find (λ x. test (f x)) xs)
find-map test f [] = refl
find-map test f (x ∷ xs) = found_in f x (test (f x)) _ _ (find-map test f xs)

-- ---- the rows of locations

abbrev values : ChunkPage → ℕ
values page = header_values page.header

abbrev placed_values : PlacedPage → ℕ
placed_values placed = values placed.page

-- a page ends at the first row of what stands behind it
row_behind : (from start row rows : ℕ) (pages : List ChunkPage) → row + sum_by values pages ≡ rows → next_row (map (location_of_page from) (placed_pages start row pages)) rows ≡ pos row
row_behind from start row rows [] e = let same : rows ≡ row = omega (arith, e) in ap pos same
row_behind from start row rows (page ∷ pages) e = refl

rows_named : (from start row rows : ℕ) (pages : List ChunkPage) → row + sum_by values pages ≡ rows
    → page_intervals (map (location_of_page from) (placed_pages start row pages)) rows ≡ Some (map rows_of_placed (placed_pages start row pages))
unfolding page_intervals
rows_named from start row rows [] e = refl
rows_named from start row rows (page ∷ pages) e =
    let behind = map (location_of_page from) (placed_pages (start + page.size) (row + values page) pages) in
    let left : row + values page + sum_by values pages ≡ rows = omega (arith, e, sum_by-cons values page pages) in
    let below : nat_le row (row + values page) ≡ true = le-leb row (row + values page) (omega arith) in
    let own : row + values page - row ≡ values page = omega arith in
    ap (λ (next : ℤ). rows_between (pos row) next >>= λ own. page_intervals behind rows >>= λ others. Some (own ∷ others)) (row_behind from (start + page.size) (row + values page) rows pages left)
    ∙ ap (λ b. given b (interval row (row + values page - row)) >>= λ own. page_intervals behind rows >>= λ others. Some (own ∷ others)) below
    ∙ ap (λ n. page_intervals behind rows >>= λ others. Some (interval row n ∷ others)) own
    ∙ ap (λ o. o >>= λ others. Some (interval row (values page) ∷ others)) (rows_named from (start + page.size) (row + values page) rows pages left)

-- ---- the page that a location names

located_there : (from : ℕ) (chunk : List ℕ) (placed : PlacedPage) → IsReadAlone chunk placed → located from chunk (location_of_page from placed) (placed_values placed) ≡ Some placed.page
unfolding located
located_there from chunk placed alone =
    let behind : nat_le from (from + placed.start) ≡ true = le-leb from (from + placed.start) (omega arith) in
    let own : from + placed.start - from ≡ placed.start = omega arith in
    let part : Place = record { offset = from + placed.start; length = placed.page.size } in
    ap (λ b. given b part >>= λ own. located_page chunk (own.offset - from) own.length (placed_values placed)) behind
    ∙ ap (λ start. located_page chunk start placed.page.size (placed_values placed)) own
    ∙ alone

-- ---- the dictionary before the pages

-- the part that ends behind the dictionary page has it
located_at_end : (chunk : List ℕ) → located_dictionary chunk (dictionary_size chunk) ≡ chunk_dictionary chunk
located_at_end chunk = by (dictionary_at chunk) refl where
  by : (o : Option (DictionaryPage × List ℕ)) → dictionary_at chunk ≡ o → located_dictionary chunk (option_map_or (λ (read : DictionaryPage × List ℕ). read.0.size) o 0) ≡ if_defined o NoDictionary
  by None e = ap (λ b. if b then dictionary_in [] else Undefined) (le-leb 0 (length chunk) (omega arith))
  by (Some read) e =
      dictionary_alone chunk read.0 (ap (λ o. if_defined o NoDictionary) e) read.0.size (omega arith) (let measured = dictionary_measured chunk read e in omega (arith, measured.size))

-- where the first location names the first page, it is the part before that page
before_first : (from : ℕ) (chunk : List ℕ) (start row : ℕ) (page : ChunkPage) (pages : List ChunkPage)
    → dictionary_before from chunk (map (location_of_page from) (placed_pages start row (page ∷ pages))) ≡ located_dictionary chunk start
before_first from chunk start row page pages = let own : from + start - from ≡ start = omega arith in ap (located_dictionary chunk) own

-- ---- the place of a chunk

record IsChunk (size rows : ℕ) (column : ColumnChunkMetaData) (chunk : Place) : Type 0 where
  range : chunk_range column ≡ chunk
  same_rows : column.num_values ≡ rows

is_chunk_by : (size rows : ℕ) (column : ColumnChunkMetaData) (chunk : Place) (b : Bool) → (is_empty (chunk_causes column) && has_range size rows column) ≡ b → cond b (Some (chunk_range column)) None ≡ Some chunk → IsChunk size rows column chunk
is_chunk_by size rows column chunk false is e = cc
is_chunk_by size rows column chunk true is e =
    let range = (and_parts (is_empty (chunk_causes column)) (has_range size rows column) is).1 in
    let counts = (and_parts (nat_le (place_end (chunk_range column)) size) _ range).1 in
    record { range = cc; same_rows = eqb-true _ _ (and_parts (column.num_values == rows) _ counts).0 }

-- ---- the pages of a chunk, and those that its locations name

module _ (bytes : List ℕ) (group : RowGroupMetaData) (column : ColumnChunkMetaData) (chunk : Place) (there : chunk_of bytes group column ≡ Some chunk)
    (all_values : sum_by placed_values (walked_pages bytes group column) ≡ column.num_values)
    (true_locations : locations bytes column ≡ map (location_of_page (chunk_start column)) (walked_pages bytes group column)) where
  abbrev C : List ℕ
  C = bytes_at bytes chunk

  abbrev contents : List ChunkPage
  contents = (chunk_pages column.num_values C).pages

  abbrev pages : List PlacedPage
  pages = pages_of_chunk column.num_values C

  is_chunk : IsChunk (length bytes) group.num_rows column chunk
  is_chunk = is_chunk_by (length bytes) group.num_rows column chunk _ refl there

  walked_are : walked_pages bytes group column ≡ pages
  walked_are = ap (λ (o : Option Place). option_map_or (λ (place : Place). pages_of_chunk column.num_values (bytes_at bytes place)) o []) there

  locations_are : locations bytes column ≡ map (location_of_page chunk.offset) pages
  locations_are = true_locations ∙ ap (map (location_of_page (chunk_start column))) walked_are ∙ ap (λ (place : Place). map (location_of_page place.offset) pages) is_chunk.range

  all_rows : 0 + sum_by values contents ≡ group.num_rows
  all_rows = let total = ap (sum_by placed_values) walked_are in omega (arith, total, is_chunk.same_rows, all_values, sum-placed (dictionary_size C) 0 contents)

  rows_are : location_rows bytes group column ≡ map rows_of_placed pages
  rows_are = ap (λ found. unwrap_or (page_intervals found group.num_rows) []) locations_are
      ∙ ap (λ (o : Option (List Interval)). unwrap_or o []) (rows_named chunk.offset (dictionary_size C) 0 group.num_rows contents all_rows)

  abbrev named : Interval × PageLocation → Interval × Option ChunkPage
  named page = (page.0, located chunk.offset C page.1 (page.0).length)

  abbrev whole : PlacedPage → Interval × Option ChunkPage
  whole placed = (rows_of_placed placed, Some placed.page)

  located_are : located_pages bytes group column ≡ map whole pages
  located_are =
      ap (λ (o : Option Place). option_map_or (λ (place : Place). map (λ (page : Interval × PageLocation). (page.0, located place.offset (bytes_at bytes place) page.1 (page.0).length)) (zip (location_rows bytes group column) (locations bytes column))) o []) there
      ∙ ap (λ rows. map named (zip rows (locations bytes column))) rows_are
      ∙ ap (λ found. map named (zip (map rows_of_placed pages) found)) locations_are
      ∙ ap (map named) (zip-maps rows_of_placed (location_of_page chunk.offset) pages)
      ∙ map-map named (λ placed. (rows_of_placed placed, location_of_page chunk.offset placed)) pages
      ∙ same_maps (IsReadAlone C) _ whole (λ placed alone. ap (λ page. (rows_of_placed placed, page)) (located_there chunk.offset C placed alone)) pages (pages_alone C column.num_values)

  module _ (reading : Reading) (row : ℕ) where
    of_found : (o : Option PlacedPage) → option_and_then (λ (page : Interval × Option ChunkPage). option_and_then (item_at reading (row - (page.0).start)) page.1) (option_map whole o) ≡ option_and_then (item_in reading row) o
    of_found None = refl
    of_found (Some placed) = refl

    same_items : item_located reading (map whole pages) row ≡ item_among reading pages row
    same_items =
        ap (option_and_then (λ (page : Interval × Option ChunkPage). option_and_then (item_at reading (row - (page.0).start)) page.1)) (find-map (λ (page : Interval × Option ChunkPage). holds page.0 row) whole pages)
        ∙ of_found (find (λ (placed : PlacedPage). holds (rows_of_placed placed) row) pages)

  before_are : dictionary_by_locations bytes group column ≡ dictionary_before chunk.offset C (map (location_of_page chunk.offset) pages)
  before_are =
      ap (λ (o : Option Place). option_map_or (λ (place : Place). dictionary_before place.offset (bytes_at bytes place) (locations bytes column)) o NoDictionary) there
      ∙ ap (dictionary_before chunk.offset C) locations_are

  dictionary_is : walked_dictionary bytes group column ≡ chunk_dictionary C
  dictionary_is = ap (λ (o : Option Place). option_map_or (λ (place : Place). chunk_dictionary (bytes_at bytes place)) o NoDictionary) there

  module _ (data_type : DataType) (row : ℕ) where
    abbrev over : Dictionary → Reading
    over dictionary = record { stored = column.descriptor.primitive_type; dictionary = dictionary; data_type = data_type }

    -- where there is a page, the dictionaries are one, and without a page there is no item
    same_dictionaries : (found : List ChunkPage) → dictionary_before chunk.offset C (map (location_of_page chunk.offset) (placed_pages (dictionary_size C) 0 found)) ≡ dictionary_by_locations bytes group column
        → item_among (over (dictionary_by_locations bytes group column)) (placed_pages (dictionary_size C) 0 found) row ≡ item_among (over (walked_dictionary bytes group column)) (placed_pages (dictionary_size C) 0 found) row
    same_dictionaries [] e = refl
    same_dictionaries (page ∷ others) e =
        ap (λ dictionary. item_among (over dictionary) (placed_pages (dictionary_size C) 0 (page ∷ others)) row)
        (sym e ∙ before_first chunk.offset C (dictionary_size C) 0 page others ∙ located_at_end C ∙ sym dictionary_is)

    same_item : located_item bytes group data_type column row ≡ walked_item bytes group data_type column row
    same_item =
        ap (λ found. item_located (located_reading bytes group data_type column) found row) located_are
        ∙ same_items (located_reading bytes group data_type column) row ∙ same_dictionaries contents (sym before_are)
        ∙ sym (ap (λ found. item_among (walked_reading bytes group data_type column) found row) walked_are)

same_item_in : (bytes : List ℕ) (group : RowGroupMetaData) (data_type : DataType) (column : ColumnChunkMetaData) (row : ℕ) → AreTrueCounts bytes group column → AreTrueLocations bytes group column
    → (o : Option Place) → chunk_of bytes group column ≡ o → is_some o ≡ true → located_item bytes group data_type column row ≡ walked_item bytes group data_type column row
same_item_in bytes group data_type column row counts places None e there = absurd (false≢true there)
same_item_in bytes group data_type column row counts places (Some chunk) e there = same_item bytes group column chunk e counts.all_values places.same data_type row

-- ---- cells

-- a column that is read as nulls has the same items by pages or not
same_column_item : (bytes : List ℕ) (group : RowGroupMetaData) (data_type : DataType) (column : ColumnChunkMetaData) (row : ℕ) → AreTrueCounts bytes group column → AreTrueLocations bytes group column
    → column_item true bytes group data_type column row ≡ column_item false bytes group data_type column row
same_column_item bytes group data_type column row counts places =
    ap (λ item. if is_null_type data_type then given (nat_lt row group.num_rows) (Value Null) else item)
    (same_item_in bytes group data_type column row counts places (chunk_of bytes group column) refl counts.chunk)

pub located_cells_are_cells : LocatedCellsAreCells
located_cells_are_cells bytes group column field row is_column counts places =
    ap (option_and_then (λ c. column_cell true bytes group field.data_type c row)) is_column
    ∙ ap (option_and_then as_cell) (same_column_item bytes group field.data_type column row counts places)
    ∙ sym (ap (option_and_then (λ c. column_cell false bytes group field.data_type c row)) is_column)
