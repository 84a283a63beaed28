-- A chunk of items, in pages of a size: nothing is wrong with it, and its counts and locations are true.
use Rattle.std.proofs.Common.{◌≡◌, ℕ, suc, ◌+◌, ◌*◌, ◌^◌, ◌≤◌, ◌<◌, Bool, true, false, cond, List, [], ◌∷◌, Option, Some, None, refl, sym, ap, ◌∙◌, arith, length, length-append, append-nil, map, take, drop, eq-eqb}
use Rattle.std.specs.Prelude.{All, flat_map, nat_le, sum_by}
use Rattle.std.specs.List.{AllZip}
use Rattle.std.specs.Option.{option_map_or}
use Rattle.std.proofs.lemmas.Bool.{le-leb, leb-true}
use Rattle.std.proofs.lemmas.List.{length-map}
use Rattle.std.proofs.lemmas.List.Elements.{All-head, All-tail, All-cons, All-nil, All-map, All-weaker}
use Rattle.std.proofs.lemmas.List.Sums.{sum_by-cons}
use Rattle.std.proofs.Math.Nat.{mul-le-mul_left}
use Rattle.columns_core.specs.Causes.{ExternalFormat}
use Rattle.columns_core.specs.declared.cell.Cell.{Cell}
use Rattle.columns_core.specs.declared.data_type.DataType.{DataType}
use Rattle.parquet_base.specs.Pieces.{pieces, cut}
use Rattle.parquet_meta.specs.OffsetIndex.{locations_in}
use Rattle.parquet_meta.specs.Places.{place_end, bytes_at, part_at}
use Rattle.parquet_meta.specs.declared.metadata.ColumnChunkMetaData.{ColumnChunkMetaData}
use Rattle.parquet_meta.specs.declared.metadata.ColumnDescriptor.{ColumnDescriptor}
use Rattle.parquet_meta.specs.declared.metadata.Place.{Place}
use Rattle.parquet_meta.specs.declared.metadata.RowGroupMetaData.{RowGroupMetaData}
use Rattle.parquet_page.specs.Stored.{Stored}
use Rattle.flat_values.specs.Conversion.{Conversion}
use Rattle.parquet_scan.specs.Causes.{causes_of_chunk, located_causes, walked_causes}
use Rattle.parquet_scan.specs.Pages.{location_rows, locations, locations_causes}
use Rattle.parquet_scan.specs.Truth.{AreTrueCounts, AreTrueLocations}
use Rattle.parquet_plain.specs.Columns.{Written, written_chunk, written_page}
use Rattle.parquet_plain.specs.Description.{PlainChunk, PlainPage, chunk_bytes, descriptor_of, locations_from, page_bytes, rows_of_chunk, rows_of_pages}
use Rattle.parquet_plain.specs.File.{Starts, chunk_locations_bytes, column_at}
use Rattle.parquet_plain.specs.Fits.{FitsLocation, FitsPage}
use Rattle.parquet_plain.specs.Found.{ChunkStands, intervals_from}
use Rattle.parquet_plain.proofs.PageLemmas.{some_bytes}
use Rattle.parquet_plain.proofs.PieceLemmas.{cut-sum}
use Rattle.parquet_plain.proofs.StructLemmas.{locations-written}
use Rattle.sample_laws.proofs.ColumnLaws.{IsWrittenOf, no_walked_causes, true_counts, true_locations}
use Rattle.sample_laws.proofs.KindLaws.{IsFlat, IsKind, IsPiece, IsPlace, cells_of, cut-are, page-short, pages-fit, pages-hold}
use Rattle.sample_laws.proofs.LocatedLaws.{no_located_causes, no_locations_causes, rows-are}
use Rattle.sample_laws.proofs.PageLaws.{Holds, IsReadBy}

-- ---- where a chunk stands

record IsPart (file : List ℕ) (place : Place) (own : List ℕ) : Type 0 where
  within : nat_le (place_end place) (length file) ≡ true
  same : bytes_at file place ≡ own

part-is : (file : List ℕ) (place : Place) (own : List ℕ) → part_at file place ≡ Some own → IsPart file place own
part-is file place own e = by_test (nat_le (place_end place) (length file)) refl e
  where
    by_test : (b : Bool) → nat_le (place_end place) (length file) ≡ b → cond b (Some (bytes_at file place)) None ≡ Some own → IsPart file place own
    by_test true within some = record { within = within; same = cc }
    by_test false within some = absurd cc

-- no more rows than bytes can stand for
few_rows : (pages : List PlainPage) → All FitsPage pages → rows_of_pages pages ≤ 2147483647 * length (flat_map page_bytes pages)
few_rows [] all = omega arith
few_rows (page ∷ pages) all =
    let fits : FitsPage page = All-head FitsPage page pages all in
    let own : 2147483647 * 1 ≤ 2147483647 * length (page_bytes page) = mul-le-mul_left 2147483647 (some_bytes page fits) in
    omega (arith, own, fits.few, sum_by-cons (λ (p : PlainPage). p.rows) page pages, few_rows pages (All-tail FitsPage page pages all), length-append (page_bytes page) (flat_map page_bytes pages))

-- the chunk of a column, in a group of as many rows
pub written_of : (file : List ℕ) (group : RowGroupMetaData) (to : Written) (at : Starts) (chunk : PlainChunk) → ChunkStands file at chunk → All FitsPage chunk.pages → rows_of_chunk chunk ≡ group.num_rows
    → IsWrittenOf file group (column_at (descriptor_of to.column) at chunk) to.column.type chunk.pages
written_of file group to at chunk stands fit rows =
    let place : Place = record { offset = at.chunk; length = length (chunk_bytes chunk) } in
    let part : IsPart file place (chunk_bytes chunk) = part-is file place (chunk_bytes chunk) stands.chunk_stands in
    record {
      place = place;
      chunk = rw (part.within, eq-eqb (rows_of_chunk chunk) group.num_rows rows, le-leb (rows_of_chunk chunk) (2147483647 * length (chunk_bytes chunk)) (few_rows chunk.pages fit)) refl;
      start = refl;
      own = part.same;
      values = refl;
      typed = refl;
      fit = fit;
    }

-- ---- locations

-- a page with its header has fewer than 2 ^ 31 bytes
abbrev IsShortPage : PlainPage → Type 0
IsShortPage page = length (page_bytes page) < 2 ^ 31

locations-fit : (start row : ℕ) (pages : List PlainPage) → All IsShortPage pages → start + length (flat_map page_bytes pages) < 2 ^ 63 → row + rows_of_pages pages < 2 ^ 63 → All FitsLocation (locations_from start row pages)
locations-fit start row [] all low few = All-nil FitsLocation
locations-fit start row (page ∷ pages) all low few =
    All-cons FitsLocation _ (locations_from (start + length (page_bytes page)) (row + page.rows) pages)
    (record { offset = start; size = length (page_bytes page); row = row; is = refl; low = omega arith; short = All-head IsShortPage page pages all; few = omega arith })
    (locations-fit (start + length (page_bytes page)) (row + page.rows) pages (All-tail IsShortPage page pages all)
    (omega (arith, length-append (page_bytes page) (flat_map page_bytes pages))) (omega (arith, sum_by-cons (λ (p : PlainPage). p.rows) page pages)))

pub length-locations : (start row : ℕ) (pages : List PlainPage) → length (locations_from start row pages) ≡ length pages
length-locations start row [] = refl
length-locations start row (page ∷ pages) = ap suc (length-locations (start + length (page_bytes page)) (row + page.rows) pages)

-- the locations that are read are those that were written
told : (file : List ℕ) (descriptor : ColumnDescriptor) (at : Starts) (chunk : PlainChunk) → ChunkStands file at chunk → All IsShortPage chunk.pages → at.chunk + length (chunk_bytes chunk) < 2 ^ 63 → rows_of_chunk chunk < 2 ^ 63
    → length chunk.pages < 2 ^ 64 → locations file (column_at descriptor at chunk) ≡ locations_from at.chunk 0 chunk.pages
told file descriptor at chunk stands short low few many =
    let read : locations_in (chunk_locations_bytes at.chunk chunk) ≡ Some (locations_from at.chunk 0 chunk.pages) =
    ap locations_in (sym (append-nil (chunk_locations_bytes at.chunk chunk)))
    ∙ locations-written (locations_from at.chunk 0 chunk.pages) [] (rw (length-locations at.chunk 0 chunk.pages) many) (locations-fit at.chunk 0 chunk.pages short low (omega arith)) in
    rw (stands.locations_stand, read) refl

-- ---- a chunk of items

pages-rows : (to : Written) (parts : List (List (Option Stored))) → rows_of_pages (map (written_page to) parts) ≡ sum_by length parts
unfolding written_page
pages-rows to [] = refl
pages-rows to (page ∷ parts) =
    sum_by-cons (λ (p : PlainPage). p.rows) (written_page to page) (map (written_page to) parts) ∙ ap (λ (n : ℕ). length page + n) (pages-rows to parts) ∙ sym (sum_by-cons {X = List (Option Stored)} length page parts)

-- a chunk has a row for each item
pub chunk-rows : (to : Written) (items : List (Option Stored)) → 0 < to.page_rows → rows_of_chunk (written_chunk to items) ≡ length items
unfolding written_chunk
chunk-rows to items some = pages-rows to (cut (Some to.page_rows) items) ∙ cut-sum to.page_rows items some

-- ---- of items of a kind

-- The items of a chunk, of which some are there, in a group of at most 20000 rows.
pub record IsChunk (file : List ℕ) (to : Written) (P : Stored → Type 0) (at : Starts) (group : RowGroupMetaData) (items : List (Option Stored)) : Type 0 where
  pub stands : ChunkStands file at (written_chunk to items)
  pub size : length file < 2 ^ 63
  pub all : All (IsPlace to.column.type.repetition P) items
  pub rows : length items ≡ group.num_rows
  pub some : 0 < length items
  pub few : length items ≤ 20000

module _ (to : Written) (rule : Conversion) (P : Stored → Type 0) (cell_of : Stored → Cell) (kind : IsKind to rule P cell_of) (flat : IsFlat to.column.type.repetition) where
  abbrev Piece : List (Option Stored) → Type 0
  Piece piece = IsPiece to.column.type.repetition P to.page_rows piece

  -- ---- how many bytes its pages have

  pages-short : (parts : List (List (Option Stored))) → All Piece parts → length (flat_map page_bytes (map (written_page to) parts)) ≤ 120 * sum_by length parts
  pages-short [] all = omega arith
  pages-short (piece ∷ parts) all =
      omega (
        arith,
        length-append (page_bytes (written_page to piece)) (flat_map page_bytes (map (written_page to) parts)),
        page-short to rule P cell_of kind flat piece (All-head Piece piece parts all),
        sum_by-cons {X = List (Option Stored)} length piece parts,
        pages-short parts (All-tail Piece piece parts all),
      )

  each-short : (parts : List (List (Option Stored))) → All Piece parts → All IsShortPage (map (written_page to) parts)
  each-short parts all =
      All-map IsShortPage (written_page to) parts (All-weaker Piece (λ piece. IsShortPage (written_page to piece))
      (λ piece is. omega (arith, page-short to rule P cell_of kind flat piece is, is.few, kind.small)) parts all)

  pub few-parts : (parts : List (List (Option Stored))) → All Piece parts → length parts ≤ sum_by length parts
  few-parts [] all = omega arith
  few-parts (piece ∷ parts) all =
      let is : Piece piece = All-head Piece piece parts all in omega (arith, is.some, sum_by-cons {X = List (Option Stored)} length piece parts, few-parts parts (All-tail Piece piece parts all))

  pub chunk-short : (items : List (Option Stored)) → All (IsPlace to.column.type.repetition P) items → length (chunk_bytes (written_chunk to items)) ≤ 120 * length items
  unfolding written_chunk
  chunk-short items all =
      omega (arith, pages-short (cut (Some to.page_rows) items) (cut-are to.column.type.repetition P to.page_rows items kind.sized all), cut-sum to.page_rows items kind.sized)

  pub few-pages : (items : List (Option Stored)) → All (IsPlace to.column.type.repetition P) items → length (written_chunk to items).pages ≤ length items
  unfolding written_chunk
  few-pages items all =
      omega (arith, length-map (cut (Some to.page_rows) items) (written_page to), few-parts (cut (Some to.page_rows) items) (cut-are to.column.type.repetition P to.page_rows items kind.sized all), cut-sum to.page_rows items kind.sized)

  -- ---- what is found of it

  module _ (file : List ℕ) (at : Starts) (group : RowGroupMetaData) (item : Option Stored) (items : List (Option Stored)) (is : IsChunk file to P at group (item ∷ items)) where
    abbrev column : ColumnChunkMetaData
    column = column_at (descriptor_of to.column) at (written_chunk to (item ∷ items))

    abbrev first : List (Option Stored)
    first = take to.page_rows (item ∷ items)

    abbrev others : List (List (Option Stored))
    others = pieces (length items) to.page_rows (drop to.page_rows (item ∷ items))

    parts-are : All Piece (first ∷ others)
    parts-are = cut-are to.column.type.repetition P to.page_rows (item ∷ items) kind.sized is.all

    low : at.chunk + length (chunk_bytes (written_chunk to (item ∷ items))) < 2 ^ 63
    low =
        let place : Place = record { offset = at.chunk; length = length (chunk_bytes (written_chunk to (item ∷ items))) } in
        omega (arith, leb-true (place_end place) (length file) (part-is file place (chunk_bytes (written_chunk to (item ∷ items))) is.stands.chunk_stands).within, is.size)

    pub is-written : IsWrittenOf file group column to.column.type (written_page to first ∷ map (written_page to) others)
    unfolding written_chunk
    is-written = written_of file group to at (written_chunk to (item ∷ items)) is.stands (pages-fit to rule P cell_of kind flat (first ∷ others) parts-are) (chunk-rows to (item ∷ items) kind.sized ∙ is.rows)

    pub locations-are : locations file column ≡ locations_from at.chunk 0 (written_page to first ∷ map (written_page to) others)
    unfolding written_chunk
    locations-are =
        told file (descriptor_of to.column) at (written_chunk to (item ∷ items)) is.stands (each-short (first ∷ others) parts-are) low (omega (arith, chunk-rows to (item ∷ items) kind.sized, is.few))
        (omega (arith, few-pages (item ∷ items) is.all, is.few))

    pub whole : group.num_rows ≡ rows_of_pages (written_page to first ∷ map (written_page to) others)
    unfolding written_chunk
    whole = sym is.rows ∙ sym (chunk-rows to (item ∷ items) kind.sized)

    pub held : AllZip (Holds to.column.type rule) (written_page to first ∷ map (written_page to) others) (map (cells_of cell_of) (first ∷ others))
    held = pages-hold to rule P cell_of kind flat (first ∷ others) parts-are

    pub counts : AreTrueCounts file group column
    counts = true_counts file group column to.column.type (written_page to first ∷ map (written_page to) others) is-written

    pub locations-true : AreTrueLocations file group column
    locations-true = true_locations file group column to.column.type (written_page to first ∷ map (written_page to) others) is-written locations-are

    told-from : locations file column ≡ locations_from is-written.place.offset 0 (written_page to first ∷ map (written_page to) others)
    told-from = locations-are ∙ ap (λ (s : ℕ). locations_from s 0 (written_page to first ∷ map (written_page to) others)) (sym is-written.start)

    pub divided : location_rows file group column ≡ intervals_from 0 (written_page to first ∷ map (written_page to) others)
    divided = rows-are file group column to.column.type (written_page to first) (map (written_page to) others) is-written told-from whole

    pub shape : locations_causes file group column ≡ []
    shape = no_locations_causes file group column to.column.type (written_page to first) (map (written_page to) others) is-written told-from whole

    -- nothing is wrong with it, whichever way it is read and whichever of its rows are given
    pub no_chunk_causes : (by_pages : Bool) (size : Option ℕ) (data_type : DataType) (rows : List ℕ) → IsReadBy to.column.type data_type rule → length rows ≤ group.num_rows → causes_of_chunk by_pages size file group rows data_type column ≡ []
    no_chunk_causes by_pages size data_type rows read within =
        let few : length rows ≤ 20000 = omega (arith, is.rows, is.few) in
        ap (λ (o : Option Place). option_map_or (λ (place : Place). cond by_pages (located_causes size file group rows data_type column) (walked_causes size file group rows data_type column place)) o (ExternalFormat ∷ [])) is-written.chunk
        ∙ either by_pages few
      where
        either : (b : Bool) → length rows ≤ 20000 → cond b (located_causes size file group rows data_type column) (walked_causes size file group rows data_type column is-written.place) ≡ []
        either true few =
            no_located_causes file group column to.column.type (written_page to first) (map (written_page to) others) is-written told-from whole size data_type rule (map (cells_of cell_of) (first ∷ others)) rows read held few
        either false few =
            no_walked_causes file group column to.column.type (written_page to first ∷ map (written_page to) others) is-written size data_type rule (map (cells_of cell_of) (first ∷ others)) rows read held (omega (arith, whole)) few
