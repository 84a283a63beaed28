-- Nothing is wrong with a chunk that is written, and its counts and locations are true.
use Rattle.std.proofs.Common.{◌≡◌, ℕ, zero, suc, ◌+◌, ◌≤◌, List, [], Option, Some, refl, sym, ap, ◌∙◌, arith, length, map}
use Rattle.std.specs.Prelude.{All, flat_map}
use Rattle.std.specs.List.{AllZip}
use Rattle.std.proofs.lemmas.Bool.{le-leb}
use Rattle.columns_core.specs.declared.cell.Cell.{Cell}
use Rattle.columns_core.specs.declared.data_type.DataType.{DataType}
use Rattle.parquet_meta.specs.Chunks.{chunk_start}
use Rattle.parquet_meta.specs.Places.{bytes_at}
use Rattle.parquet_meta.specs.declared.metadata.ColumnChunkMetaData.{ColumnChunkMetaData}
use Rattle.parquet_meta.specs.declared.metadata.Place.{Place}
use Rattle.parquet_meta.specs.declared.metadata.PrimitiveType.{PrimitiveType}
use Rattle.parquet_meta.specs.declared.metadata.RowGroupMetaData.{RowGroupMetaData}
use Rattle.parquet_page.specs.Chunk.{PlacedPage, location_of_page, pages_of_chunk, placed_pages}
use Rattle.flat_values.specs.Conversion.{Conversion}
use Rattle.parquet_scan.specs.Causes.{begins_below, causes_of_data, causes_of_walk, given_causes, rows_held, walked_causes}
use Rattle.parquet_scan.specs.Cells.{chunk_of, walked_item, walked_pages, walked_reading}
use Rattle.parquet_scan.specs.Pages.{locations}
use Rattle.parquet_scan.specs.Truth.{AreTrueCounts, AreTrueLocations}
use Rattle.parquet_plain.specs.Description.{PlainPage, locations_from, page_bytes, rows_of_pages}
use Rattle.parquet_plain.specs.Fits.{FitsPage}
use Rattle.parquet_plain.specs.Found.{chunk_page}
use Rattle.parquet_plain.proofs.PageLemmas.{chunk_dictionary-written, counts-true, locations-true, pages_of_chunk-written}
use Rattle.sample_laws.proofs.PageLaws.{Holds, IsReadBy, light-among, no_placed_causes, reading_of}
use Rattle.sample_laws.proofs.RowLaws.{no_given_causes, none_of_some}

-- The chunk of a column is one that was written of these pages.
pub record IsWrittenOf (bytes : List ℕ) (group : RowGroupMetaData) (column : ColumnChunkMetaData) (type : PrimitiveType) (pages : List PlainPage) : Type 0 where
  pub place : Place
  pub chunk : chunk_of bytes group column ≡ Some place
  pub start : place.offset ≡ chunk_start column
  pub own : bytes_at bytes place ≡ flat_map page_bytes pages
  pub values : column.num_values ≡ rows_of_pages pages
  pub typed : column.descriptor.primitive_type ≡ type
  pub fit : All FitsPage pages

module _ (bytes : List ℕ) (group : RowGroupMetaData) (column : ColumnChunkMetaData) (type : PrimitiveType) (pages : List PlainPage) (is : IsWrittenOf bytes group column type pages) where
  pub walked : walked_pages bytes group column ≡ placed_pages 0 0 (map chunk_page pages)
  walked = rw (is.chunk, is.values, is.own) (pages_of_chunk-written pages is.fit)

  pub reading-is : (data_type : DataType) → walked_reading bytes group data_type column ≡ reading_of type data_type
  reading-is data_type = rw (is.typed, is.chunk, is.own, chunk_dictionary-written pages is.fit) refl

  -- counts are true
  pub true_counts : AreTrueCounts bytes group column
  true_counts = record { chunk = rw is.chunk refl; all_values = rw (walked, is.values) (counts-true 0 0 pages) }

  -- and so are locations, where they are those that are written of the pages
  pub true_locations : locations bytes column ≡ locations_from (chunk_start column) 0 pages → AreTrueLocations bytes group column
  true_locations told =
      let none : chunk_start column + 0 ≡ chunk_start column = omega arith in
      record { same = told ∙ ap (λ (s : ℕ). locations_from s 0 pages) (sym none) ∙ sym (locations-true (chunk_start column) 0 0 pages) ∙ ap (map (location_of_page (chunk_start column))) (sym walked) }

  -- nothing is wrong with the pages that are opened for so many rows
  walk_causes : (data_type : DataType) (rule : Conversion) (cells : List (List Cell)) (count : ℕ) → IsReadBy type data_type rule → AllZip (Holds type rule) pages cells → count ≤ rows_of_pages pages
      → causes_of_walk (reading_of type data_type) count (placed_pages 0 0 (map chunk_page pages)) ≡ []
  walk_causes data_type rule cells zero read all le = refl
  walk_causes data_type rule cells (suc more) read all le =
      let placed : List PlacedPage = placed_pages 0 0 (map chunk_page pages) in
      let held : rows_held placed ≡ rows_of_pages pages = counts-true 0 0 pages in
      let pages_right = none_of_some (λ (p : PlacedPage). causes_of_data (reading_of type data_type) p.page) (begins_below (suc more)) placed (no_placed_causes type data_type rule 0 0 pages cells read all) in
      rw (pages_right, held, le-leb (suc more) (rows_of_pages pages) le) refl

  -- nor with the rows
  pub no_walked_causes : (size : Option ℕ) (data_type : DataType) (rule : Conversion) (cells : List (List Cell)) (rows : List ℕ) → IsReadBy type data_type rule → AllZip (Holds type rule) pages cells → length rows ≤ rows_of_pages pages → length rows ≤ 20000
      → walked_causes size bytes group rows data_type column is.place ≡ []
  no_walked_causes size data_type rule cells rows read all le few =
      let opened : causes_of_walk (walked_reading bytes group data_type column) (length rows) (pages_of_chunk column.num_values (bytes_at bytes is.place)) ≡ [] =
      rw (reading-is data_type, is.values, is.own, pages_of_chunk-written pages is.fit) (walk_causes data_type rule cells (length rows) read all le) in
      let given : given_causes size data_type (walked_item bytes group data_type column) rows ≡ [] =
      no_given_causes size type data_type rule (walked_item bytes group data_type column) rows read (λ row. rw (reading-is data_type, walked) (light-among type data_type rule 0 0 pages cells row read all)) few in
      rw (opened, given) refl
