-- Nothing is wrong with a chunk that is read by the locations that were written of it.
use Rattle.std.proofs.Common.{◌≡◌, ℕ, ◌+◌, ◌-◌, ◌≤◌, Bool, true, false, cond, List, [], ◌∷◌, ◌++◌, Option, Some, refl, ap, subst, ◌∙◌, arith, length, map}
use Rattle.std.specs.Prelude.{filter, find, flat_map, zip, option_and_then}
use Rattle.std.specs.List.{AllZip}
use Rattle.std.proofs.lemmas.Bool.{le-leb}
use Rattle.columns_core.specs.Causes.{Cause, and_then}
use Rattle.columns_core.specs.declared.cell.Cell.{Cell}
use Rattle.columns_core.specs.declared.data_type.DataType.{DataType}
use Rattle.parquet_base.specs.Intervals.{interval, holds}
use Rattle.parquet_base.specs.declared.interval.Interval.{Interval}
use Rattle.parquet_meta.specs.Places.{bytes_at}
use Rattle.parquet_meta.specs.declared.metadata.ColumnChunkMetaData.{ColumnChunkMetaData}
use Rattle.parquet_meta.specs.declared.metadata.Place.{Place}
use Rattle.parquet_meta.specs.declared.metadata.PrimitiveType.{PrimitiveType}
use Rattle.parquet_meta.specs.declared.metadata.RowGroupMetaData.{RowGroupMetaData}
use Rattle.parquet_page.specs.Chunk.{ChunkPage, NoDictionary}
use Rattle.parquet_page.specs.Locations.{page_intervals}
use Rattle.flat_values.specs.Conversion.{Conversion, Item}
use Rattle.parquet_scan.specs.Causes.{causes_of_found, causes_of_opened, given_causes, is_opened, located_causes, opened_located}
use Rattle.parquet_scan.specs.Cells.{dictionary_by_locations, item_at, item_located, located_item, located_pages, located_reading, named_page}
use Rattle.parquet_scan.specs.Pages.{location_rows, locations, locations_causes}
use Rattle.parquet_plain.specs.Description.{PlainPage, page_bytes, locations_from, rows_of_pages}
use Rattle.parquet_plain.specs.Found.{AllLocated, chunk_page, intervals_from}
use Rattle.parquet_plain.proofs.LocatedLemmas.{all_located, page_intervals-written, has_shape-written}
use Rattle.sample_laws.proofs.ColumnLaws.{IsWrittenOf}
use Rattle.sample_laws.proofs.PageLaws.{Holds, IsLight, IsReadBy, light-at, no-item, no_page_causes, reading_of}
use Rattle.sample_laws.proofs.RowLaws.{no_given_causes}

-- pages with their rows
abbrev pub named_from : ℕ → List PlainPage → List (Interval × Option ChunkPage)
named_from row [] = []
named_from row (page ∷ pages) = (interval row page.rows, Some (chunk_page page)) ∷ named_from (row + page.rows) pages

named-are : (place : Place) (chunk : List ℕ) (at row : ℕ) (pages : List PlainPage) → AllLocated place.offset chunk at row pages → map (named_page place chunk) (zip (intervals_from row pages) (locations_from at row pages)) ≡ named_from row pages
named-are place chunk at row [] all = refl
named-are place chunk at row (page ∷ pages) all = rw (all.0, named-are place chunk (at + length (page_bytes page)) (row + page.rows) pages all.1) refl

-- ---- what is opened

no_opened_causes : (type : PrimitiveType) (data_type : DataType) (rule : Conversion) (rows : List ℕ) (row : ℕ) (pages : List PlainPage) (cells : List (List Cell)) → IsReadBy type data_type rule → AllZip (Holds type rule) pages cells
    → flat_map (causes_of_found (reading_of type data_type)) (opened_located rows (named_from row pages)) ≡ []
no_opened_causes type data_type rule rows row [] cells read all = refl
no_opened_causes type data_type rule rows row (page ∷ pages) [] read all = absurd all
no_opened_causes type data_type rule rows row (page ∷ pages) (own ∷ cells) read all =
    by_test (is_opened rows (interval row page.rows, Some (chunk_page page)))
    (no_page_causes type data_type rule page own read all.0)
    (no_opened_causes type data_type rule rows (row + page.rows) pages cells read all.1)
  where
    by_test : (b : Bool) → causes_of_found (reading_of type data_type) (Some (chunk_page page)) ≡ [] → flat_map (causes_of_found (reading_of type data_type)) (opened_located rows (named_from (row + page.rows) pages)) ≡ []
        → flat_map (causes_of_found (reading_of type data_type)) (map (λ (named : Interval × Option ChunkPage). named.1) (cond b ((interval row page.rows, Some (chunk_page page)) ∷ filter (is_opened rows) (named_from (row + page.rows) pages)) (filter (is_opened rows) (named_from (row + page.rows) pages)))) ≡ []
    by_test true one others = rw (one, others) refl
    by_test false one others = others

opened-quiet : (type : PrimitiveType) (data_type : DataType) (pages : List (Option ChunkPage)) → flat_map (causes_of_found (reading_of type data_type)) pages ≡ [] → causes_of_opened (reading_of type data_type) pages ≡ []
opened-quiet type data_type [] none = refl
opened-quiet type data_type (page ∷ pages) none = none

light-located : (type : PrimitiveType) (data_type : DataType) (rule : Conversion) (row : ℕ) (pages : List PlainPage) (cells : List (List Cell)) (wanted : ℕ) → IsReadBy type data_type rule → AllZip (Holds type rule) pages cells
    → IsLight (item_located (reading_of type data_type) (named_from row pages) wanted)
light-located type data_type rule row [] cells wanted read all = no-item
light-located type data_type rule row (page ∷ pages) [] wanted read all = absurd all
light-located type data_type rule row (page ∷ pages) (own ∷ cells) wanted read all =
    by_test (find (λ (named : Interval × Option ChunkPage). holds named.0 wanted) (named_from (row + page.rows) pages)) (holds (interval row page.rows) wanted)
    (light-at type data_type rule page own (wanted - row) read all.0)
    (light-located type data_type rule (row + page.rows) pages cells wanted read all.1)
  where
    of : (Interval × Option ChunkPage) → Option Item
    of named = option_and_then (item_at (reading_of type data_type) (wanted - (named.0).start)) named.1

    by_test : (others : Option (Interval × Option ChunkPage)) (b : Bool) → IsLight (item_at (reading_of type data_type) (wanted - row) (chunk_page page)) → IsLight (option_and_then of others)
        → IsLight (option_and_then of (cond b (Some (interval row page.rows, Some (chunk_page page))) others))
    by_test others true one other = one
    by_test others false one other = other

-- ---- a column

module _ (bytes : List ℕ) (group : RowGroupMetaData) (column : ColumnChunkMetaData) (type : PrimitiveType) (page : PlainPage) (pages : List PlainPage) (is : IsWrittenOf bytes group column type (page ∷ pages))
    (told : locations bytes column ≡ locations_from is.place.offset 0 (page ∷ pages)) (whole : group.num_rows ≡ rows_of_pages (page ∷ pages)) where
  pub rows-are : location_rows bytes group column ≡ intervals_from 0 (page ∷ pages)
  rows-are =
      let none : rows_of_pages (page ∷ pages) ≡ 0 + rows_of_pages (page ∷ pages) = omega arith in
      let all : page_intervals (locations_from is.place.offset 0 (page ∷ pages)) (rows_of_pages (page ∷ pages)) ≡ Some (intervals_from 0 (page ∷ pages)) =
      ap (page_intervals (locations_from is.place.offset 0 (page ∷ pages))) none ∙ page_intervals-written is.place.offset 0 (page ∷ pages) in
      rw (told, whole, all) refl

  pub no_locations_causes : locations_causes bytes group column ≡ []
  no_locations_causes = rw (told, whole, has_shape-written is.place.offset page pages) refl

  all-named : located_pages bytes group column ≡ named_from 0 (page ∷ pages)
  all-named =
      let none : is.place.offset + 0 ≡ is.place.offset = omega arith in
      let found : AllLocated is.place.offset (flat_map page_bytes (page ∷ pages)) is.place.offset 0 (page ∷ pages) =
      subst (λ (n : ℕ). AllLocated is.place.offset (flat_map page_bytes (page ∷ pages)) n 0 (page ∷ pages)) none (all_located is.place.offset 0 [] (page ∷ pages) is.fit) in
      rw (is.chunk, rows-are, told)
      (ap (λ (chunk : List ℕ). map (named_page is.place chunk) (zip (intervals_from 0 (page ∷ pages)) (locations_from is.place.offset 0 (page ∷ pages)))) is.own
      ∙ named-are is.place (flat_map page_bytes (page ∷ pages)) is.place.offset 0 (page ∷ pages) found)

  no-dictionary : dictionary_by_locations bytes group column ≡ NoDictionary
  no-dictionary =
      let same : is.place.offset - is.place.offset ≡ 0 = omega arith in
      rw (is.chunk, told, same, le-leb 0 (length (bytes_at bytes is.place)) (omega arith)) refl

  reading-is : (data_type : DataType) → located_reading bytes group data_type column ≡ reading_of type data_type
  reading-is data_type = rw (is.typed, no-dictionary) refl

  -- nothing is wrong with it, whichever of its rows are given
  pub no_located_causes : (size : Option ℕ) (data_type : DataType) (rule : Conversion) (cells : List (List Cell)) (rows : List ℕ) → IsReadBy type data_type rule → AllZip (Holds type rule) (page ∷ pages) cells → length rows ≤ 20000
      → located_causes size bytes group rows data_type column ≡ []
  no_located_causes size data_type rule cells rows read all few =
      let opened : causes_of_opened (located_reading bytes group data_type column) (opened_located rows (located_pages bytes group column)) ≡ [] =
      rw (reading-is data_type, all-named) (opened-quiet type data_type _ (no_opened_causes type data_type rule rows 0 (page ∷ pages) cells read all)) in
      let given : given_causes size data_type (located_item bytes group data_type column) rows ≡ [] =
      no_given_causes size type data_type rule (located_item bytes group data_type column) rows read (λ row. rw (reading-is data_type, all-named) (light-located type data_type rule 0 (page ∷ pages) cells row read all)) few in
      ap (λ (causes : List Cause). and_then causes (causes_of_opened (located_reading bytes group data_type column) (opened_located rows (located_pages bytes group column)) ++ given_causes size data_type (located_item bytes group data_type column) rows)) no_locations_causes
      ∙ ap (λ (causes : List Cause). causes ++ given_causes size data_type (located_item bytes group data_type column) rows) opened ∙ given
