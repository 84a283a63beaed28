-- A requested field of a group, whose column is a chunk of items of a kind: it is read, and what is told of it is true.
use Rattle.std.proofs.Common.{◌≡◌, ℕ, ◌+◌, ◌≤◌, Bool, true, List, [], ◌∷◌, ◌++◌, Option, Some, refl, sym, subst, ap, ◌∙◌, arith, length, map}
use Rattle.std.specs.Prelude.{All, filter_map, flat_map, sum_by, zip}
use Rattle.std.specs.List.{list_all, range_with_len}
use Rattle.std.proofs.lemmas.List.{length-map, map-append}
use Rattle.std.proofs.lemmas.List.Elements.{All-head, All-tail, All-weaker}
use Rattle.std.proofs.lemmas.List.Sums.{sum_by-cons}
use Rattle.columns_core.specs.declared.cell.Cell.{Cell}
use Rattle.columns_core.specs.declared.data_type.Field.{Field}
use Rattle.parquet_base.specs.Pieces.{cut}
use Rattle.parquet_meta.specs.declared.metadata.ColumnChunkMetaData.{ColumnChunkMetaData}
use Rattle.parquet_meta.specs.declared.metadata.Ends.{Ends}
use Rattle.parquet_meta.specs.declared.metadata.RowGroupMetaData.{RowGroupMetaData}
use Rattle.parquet_page.specs.Stored.{Stored}
use Rattle.flat_values.specs.Conversion.{Conversion}
use Rattle.column_ends.specs.Converted.{cell_ends, cell_page, bytes_of_one_end, group_causes, group_cells}
use Rattle.parquet_scan.specs.declared.bound.Scalar.{Scalar}
use Rattle.parquet_scan.specs.Causes.{causes_of_read}
use Rattle.parquet_scan.specs.Cells.{cell}
use Rattle.parquet_scan.specs.Pages.{column_index_causes, ends_of_page, locations, locations_causes}
use Rattle.parquet_scan.specs.Request.{bound_type}
use Rattle.parquet_scan.specs.Rows.{column_named}
use Rattle.parquet_scan.specs.Truth.{AreTrueCounts, AreTrueLocations, are_true, has_true_index, has_true_statistics, is_true_of_page}
use Rattle.parquet_plain.specs.Bodies.{present}
use Rattle.parquet_plain.specs.Columns.{Written, nulls_of, written_chunk, written_page}
use Rattle.parquet_plain.specs.Description.{PlainPage, descriptor_of}
use Rattle.parquet_plain.specs.File.{Starts, column_at}
use Rattle.parquet_plain.specs.Found.{intervals_from}
use Rattle.parquet_plain.proofs.PieceLemmas.{cut-joined, cut-sum}
use Rattle.sample_laws.proofs.CellLaws.{HaveCells, cell_among, found-rows, joined-rows, rows-are}
use Rattle.sample_laws.proofs.ChunkLaws.{IsChunk, counts, divided, few-parts, held, length-locations, is-written, locations-are, locations-true, no_chunk_causes, shape}
use Rattle.sample_laws.proofs.ColumnLaws.{IsWrittenOf, reading-is, walked}
use Rattle.sample_laws.proofs.EndLaws.{group_told, high_of, low_of, page_told}
use Rattle.sample_laws.proofs.IndexLaws.{IsFewItems, no_causes, page-ends}
use Rattle.sample_laws.proofs.KindLaws.{IsFlat, IsKind, IsPiece, cells_of, cut-are, place_cell, present-all}
use Rattle.sample_laws.proofs.PageLaws.{IsReadBy, most}
use Rattle.sample_laws.proofs.StatisticsLaws.{HasEnds, IsEndedBy, group-cells, high-is, low-is, no_group_causes, short-end}
use Rattle.sample_laws.proofs.TruthLaws.{HasValues, known_of, true_of_items}

-- What holds of a field of a request in a group of a file that is whole and true.
pub record IsGood (bytes : List ℕ) (group : RowGroupMetaData) (field : Field) : Type 0 where
  pub column : ColumnChunkMetaData
  pub named : column_named group field.name ≡ Some column
  pub shape : locations_causes bytes group column ≡ []
  pub read : (by_pages : Bool) (size : Option ℕ) (rows : List ℕ) → length rows ≤ group.num_rows → causes_of_read by_pages size bytes group rows field.data_type column ≡ []
  pub statistics : group_causes (bound_type field) column ≡ []
  pub cells : Ends Cell
  pub told : group_cells (bound_type field) column ≡ Some cells
  pub low_short : bytes_of_one_end cells.min_value ≤ most
  pub high_short : bytes_of_one_end cells.max_value ≤ most
  pub index : column_index_causes (bound_type field) (length (locations bytes column)) bytes column ≡ []
  pub counts : AreTrueCounts bytes group column
  pub located : AreTrueLocations bytes group column
  pub true_whole : has_true_statistics bytes group field column ≡ true
  pub true_pages : has_true_index bytes group field column ≡ true

map-joined : {A B : Type 0} (f : A → B) (parts : List (List A)) → flat_map (λ part. part) (map (map f) parts) ≡ map f (flat_map (λ part. part) parts)
map-joined f [] = refl
map-joined f (part ∷ parts) = ap (λ others. map f part ++ others) (map-joined f parts) ∙ sym (map-append f part (flat_map (λ p. p) parts))

map-sum : {A B : Type 0} (f : A → B) (parts : List (List A)) → sum_by length (map (map f) parts) ≡ sum_by length parts
map-sum f [] = refl
map-sum {A = A} {B = B} f (part ∷ parts) =
    sum_by-cons {X = List B} length (map f part) (map (map f) parts) ∙ ap (λ n. n + sum_by length (map (map f) parts)) (length-map part f) ∙ ap (λ n. length part + n) (map-sum f parts) ∙ sym (sum_by-cons {X = List A} length part parts)

module _ (to : Written) (rule : Conversion) (P : Stored → Type 0) (cell_of : Stored → Cell) (kind : IsKind to rule P cell_of) (flat : IsFlat to.column.type.repetition) (ends : HasEnds to rule P) where
  module _ (file : List ℕ) (at : Starts) (group : RowGroupMetaData) (item : Option Stored) (items : List (Option Stored)) (is : IsChunk file to P at group (item ∷ items)) (field : Field) (read : IsReadBy to.column.type field.data_type rule) where
    abbrev column : ColumnChunkMetaData
    column = column_at (descriptor_of to.column) at (written_chunk to (item ∷ items))

    abbrev parts : List (List (Option Stored))
    parts = cut (Some to.page_rows) (item ∷ items)

    abbrev all_pages : List PlainPage
    all_pages = map (written_page to) parts

    written : IsWrittenOf file group column to.column.type all_pages
    written = is-written to rule P cell_of kind flat file at group item items is

    all-present : All P (present (item ∷ items))
    all-present = present-all to.column.type.repetition P (item ∷ items) is.all

    parts-are : All (IsPiece to.column.type.repetition P to.page_rows) parts
    parts-are = cut-are to.column.type.repetition P to.page_rows (item ∷ items) kind.sized is.all

    parts-present : All (λ part. All P (present part)) parts
    parts-present =
        All-weaker (IsPiece to.column.type.repetition P to.page_rows) (λ part. All P (present part)) (λ part own. present-all to.column.type.repetition P part own.all) parts parts-are

    parts-few : All IsFewItems parts
    parts-few = All-weaker (IsPiece to.column.type.repetition P to.page_rows) IsFewItems (λ part own. omega (arith, own.few, kind.small)) parts parts-are

    parts-many : length parts ≤ 20000
    parts-many = omega (arith, few-parts to rule P cell_of kind flat parts parts-are, cut-sum to.page_rows (item ∷ items) kind.sized, is.few)

    module _ (named : column_named group field.name ≡ Some column) where
      cell-is : (row : ℕ) → cell file group field row ≡ cell_among to.column.type field.data_type 0 0 all_pages row
      cell-is row = rw (named, read.seen, reading-is file group column to.column.type all_pages written field.data_type, walked file group column to.column.type all_pages written) refl

      have : HaveCells (cell file group field) 0 (map (cells_of cell_of) parts)
      have =
          rows-are to.column.type field.data_type rule (cell file group field) 0 0 all_pages (map (cells_of cell_of) parts) read (held to rule P cell_of kind flat file at group item items is) (λ r le. cell-is r)

      -- the rows of the group have the cells of the items
      pub whole-rows : map (cell file group field) (range_with_len 0 group.num_rows) ≡ map Some (cells_of cell_of (item ∷ items))
      whole-rows =
          let count : group.num_rows ≡ sum_by length (map (cells_of cell_of) parts) = sym is.rows ∙ sym (cut-sum to.page_rows (item ∷ items) kind.sized) ∙ sym (map-sum (place_cell cell_of) parts) in
          ap (λ (n : ℕ). map (cell file group field) (range_with_len 0 n)) count ∙ joined-rows (cell file group field) 0 (map (cells_of cell_of) parts) have
          ∙ ap (map Some) (map-joined (place_cell cell_of) parts ∙ ap (map (place_cell cell_of)) (cut-joined to.page_rows (item ∷ items) kind.sized))

    module _ (value : Stored → Scalar) (values : HasValues to P cell_of value) (by : IsEndedBy to field.data_type rule) (named : column_named group field.name ≡ Some column) where
      whole-cells : filter_map (cell file group field) (range_with_len 0 group.num_rows) ≡ cells_of cell_of (item ∷ items)
      whole-cells = found-rows (cell file group field) (range_with_len 0 group.num_rows) (cells_of cell_of (item ∷ items)) (whole-rows named)

      statistics-true : has_true_statistics file group field column ≡ true
      statistics-true =
          rw (by.own, group-cells to rule P cell_of kind ends field.data_type by at (item ∷ items) all-present, whole-cells) (true_of_items to rule P cell_of value kind ends values (item ∷ items) all-present)

      pages-true : (row : ℕ) (ps : List (List (Option Stored))) → All (λ part. All P (present part)) ps → HaveCells (cell file group field) row (map (cells_of cell_of) ps)
          → list_all (is_true_of_page file group field) (zip (intervals_from row (map (written_page to) ps)) (map ends_of_page (map (cell_page rule) (map (page_told to.at_most) ps)))) ≡ true
      unfolding written_page
      pages-true row [] all cells = refl
      pages-true row (p ∷ ps) all cells =
          let many : length (cells_of cell_of p) ≡ length p = length-map p (place_cell cell_of) in
          let found : filter_map (cell file group field) (range_with_len row (length p)) ≡ cells_of cell_of p =
          found-rows (cell file group field) (range_with_len row (length p)) (cells_of cell_of p) (ap (λ (n : ℕ). map (cell file group field) (range_with_len row n)) (sym many) ∙ cells.0) in
          let own : are_true (known_of rule to.at_most p) (filter_map (cell file group field) (range_with_len row (length p))) ≡ true =
          rw found (true_of_items to rule P cell_of value kind ends values p (All-head (λ part. All P (present part)) p ps all)) in
          let others = pages-true (row + length p) ps (All-tail (λ part. All P (present part)) p ps all) (subst (λ (n : ℕ). HaveCells (cell file group field) (row + n) (map (cells_of cell_of) ps)) many cells.1) in
          rw (own, others) refl

      index-true : has_true_index file group field column ≡ true
      index-true =
          rw (by.own, divided to rule P cell_of kind flat file at group item items is, page-ends to rule P cell_of kind ends file at (item ∷ items) is.stands parts-present parts-few parts-many field.data_type by)
          (pages-true 0 parts parts-present (have named))

      index-right : column_index_causes (bound_type field) (length (locations file column)) file column ≡ []
      index-right =
          let count : length (locations file column) ≡ length parts =
          ap length (locations-are to rule P cell_of kind flat file at group item items is) ∙ length-locations at.chunk 0 all_pages ∙ length-map parts (written_page to) in
          rw by.own (no_causes to rule P cell_of kind ends file at (item ∷ items) is.stands parts-present parts-few parts-many field.data_type (length (locations file column)) read by count)

      read-right : (by_pages : Bool) (size : Option ℕ) (rows : List ℕ) → length rows ≤ group.num_rows → causes_of_read by_pages size file group rows field.data_type column ≡ []
      read-right by_pages size rows within = rw (read.carried, read.seen) (no_chunk_causes to rule P cell_of kind flat file at group item items is by_pages size field.data_type rows read within)

      pub good : IsGood file group field
      good =
          let told : Ends Cell = cell_ends rule (group_told (nulls_of (item ∷ items)) to.at_most (present (item ∷ items))) in
          record {
            column = column;
            named = named;
            shape = shape to rule P cell_of kind flat file at group item items is;
            read = read-right;
            statistics = rw by.own (no_group_causes to rule P cell_of kind ends field.data_type by at (item ∷ items) all-present);
            cells = told;
            told = rw by.own (group-cells to rule P cell_of kind ends field.data_type by at (item ∷ items) all-present);
            low_short = short-end to rule P cell_of kind ends (low_of to.at_most (present (item ∷ items))) (low-is to rule P cell_of kind ends (present (item ∷ items)) all-present);
            high_short = short-end to rule P cell_of kind ends (high_of to.at_most (present (item ∷ items))) (high-is to rule P cell_of kind ends (present (item ∷ items)) all-present);
            index = index-right;
            counts = counts to rule P cell_of kind flat file at group item items is;
            located = locations-true to rule P cell_of kind flat file at group item items is;
            true_whole = statistics-true;
            true_pages = index-true;
          }
