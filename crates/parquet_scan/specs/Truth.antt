-- When what a file says of its own rows is true of them: ends and numbers of nulls, counts, and locations of pages.
use Rattle.std.specs.Prelude.{◌≡◌, ℕ, ◌<◌, Bool, true, false, ◌&&◌, ◌==◌, List, All, IfSome, IsSomeAnd, IsTrue, is_some, count_by, filter, filter_map, map, sum_by, zip, Option, option_and_then}
use Rattle.std.specs.List.{list_all, range_with_len}
use Rattle.std.specs.Option.{option_map_or}
use Rattle.columns_core.specs.declared.cell.Cell.{Cell, Null}
use Rattle.columns_core.specs.declared.data_type.Field.{Field}
use Rattle.parquet_base.specs.declared.interval.Interval.{Interval}
use Rattle.parquet_meta.specs.Chunks.{chunk_start}
use Rattle.parquet_meta.specs.declared.metadata.ColumnChunkMetaData.{ColumnChunkMetaData}
use Rattle.parquet_meta.specs.declared.metadata.RowGroupMetaData.{RowGroupMetaData}
use Rattle.parquet_page.specs.Chunk.{PlacedPage, location_of_page}
use Rattle.parquet_page.specs.Content.{header_values}
use Rattle.parquet_scan.specs.declared.bound.Bound.{Bound}
use Rattle.parquet_scan.specs.declared.bound.Scalar.{Scalar}
use Rattle.parquet_scan.specs.Bound.{KnownEnds, value_of, is_within, meets}
use Rattle.parquet_scan.specs.Cells.{cell, chunk_of, walked_pages}
use Rattle.parquet_scan.specs.Pages.{location_rows, locations, page_ends}
use Rattle.parquet_scan.specs.Request.{Request, bound_type, bounded_field}
use Rattle.parquet_scan.specs.Rows.{File, column_named, group_counts, group_ends, groups_of, groups_read, kept, prunes_pages}

-- ---- ends and a number of nulls

abbrev pub is_null : Cell → Bool
is_null Null = true
is_null _ = false

-- an item is null, or lies between the ends as far as they are known
abbrev pub is_between : Option Scalar → Option Scalar → Cell → Bool
is_between low high item = option_map_or (is_within low high) (value_of item) true

-- Ends and a count are true of items where each present item lies between the ends, and a known count is
-- the number of nulls. An end need not be reached.
abbrev pub are_true_ends : Option Scalar → Option Scalar → Option ℕ → List Cell → Bool
are_true_ends low high nulls items =
    list_all (is_between low high) items && option_map_or (λ n. n == count_by is_null items) nulls true

abbrev pub are_true : KnownEnds → List Cell → Bool
are_true ends items = are_true_ends ends.low ends.high ends.nulls items

-- the cells of some rows of a field, for as many of them as have one
abbrev pub items_of : List ℕ → RowGroupMetaData → Field → List ℕ → List Cell
items_of bytes group field rows = filter_map (cell bytes group field) rows

-- the statistics of a column are true of its group
abbrev pub has_true_statistics : List ℕ → RowGroupMetaData → Field → ColumnChunkMetaData → Bool
has_true_statistics bytes group field column = are_true (group_ends (bound_type field) column) (items_of bytes group field (range_with_len 0 group.num_rows))

-- what a column index tells of a page is true of the page's rows
abbrev pub is_true_of_page : List ℕ → RowGroupMetaData → Field → Interval × KnownEnds → Bool
is_true_of_page bytes group field page = are_true page.1 (items_of bytes group field (range_with_len (page.0).start (page.0).length))

-- the column index is true of each page
abbrev pub has_true_index : List ℕ → RowGroupMetaData → Field → ColumnChunkMetaData → Bool
has_true_index bytes group field column = list_all (is_true_of_page bytes group field) (zip (location_rows bytes group column) (page_ends (bound_type field) bytes column))

-- ---- counts and locations

-- a column has a chunk, and its data pages hold all its values
pub record AreTrueCounts (bytes : List ℕ) (group : RowGroupMetaData) (column : ColumnChunkMetaData) : Type 0 where
  pub chunk : IsTrue (is_some (chunk_of bytes group column))
  pub all_values : sum_by (λ (placed : PlacedPage). header_values placed.page.header) (walked_pages bytes group column) ≡ column.num_values

-- there is a location for each data page, with its place, its whole length and its first row, and no other
pub record AreTrueLocations (bytes : List ℕ) (group : RowGroupMetaData) (column : ColumnChunkMetaData) : Type 0 where
  pub same : locations bytes column ≡ map (location_of_page (chunk_start column)) (walked_pages bytes group column)

-- ---- of what a scan looks at

-- a fact about the column of a requested field in a group
abbrev pub OnField : (RowGroupMetaData → ColumnChunkMetaData → Type 0) → RowGroupMetaData → Field → Type 0
OnField Fact group field = IfSome (column_named group field.name) (Fact group)

-- Counts are true of the requested columns of each group that is read and, where rows are pruned by pages, locations of those of
-- each group that counts.
pub record HasTrueCountsAndLocations (request : Request) (file : File) : Type 0 where
  pub counts : All (λ (read : RowGroupMetaData × List ℕ). All (OnField (AreTrueCounts file.bytes) read.0) request.fields) (groups_read request file)
  pub located : IsTrue (prunes_pages request (groups_of file)) → All (λ (group : RowGroupMetaData). All (OnField (AreTrueLocations file.bytes) group) request.fields) (filter (group_counts request) (groups_of file))

-- a fact about the field of a bound and its column in a group
abbrev pub OnBound : (RowGroupMetaData → Field → ColumnChunkMetaData → Bool) → List Field → RowGroupMetaData → Bound → Type 0
OnBound fact fields group bound = IfSome (bounded_field fields bound) (λ field. IfSome (column_named group field.name) (λ column. IsTrue (fact group field column)))

-- The statistics of bounded columns are true of a group and, where rows are pruned by pages and it counts, their column indexes are
-- true of its pages.
pub record HasTrueStatistics (request : Request) (file : File) (group : RowGroupMetaData) : Type 0 where
  pub whole : All (OnBound (has_true_statistics file.bytes) request.fields group) request.bounds
  pub pages : IsTrue (prunes_pages request (groups_of file)) → IsTrue (group_counts request group)
      → All (OnBound (has_true_index file.bytes) request.fields group) request.bounds

-- ---- rows that meet the bounds

-- the cell of a bound's field meets it
abbrev pub MeetsBound : List Field → List ℕ → RowGroupMetaData → ℕ → Bound → Type 0
MeetsBound fields bytes group row bound = IsSomeAnd (option_and_then (λ field. cell bytes group field row) (bounded_field fields bound)) (λ item. IsTrue (meets bound item))

-- a row of a group meets every bound
abbrev pub MeetsAll : Request → List ℕ → RowGroupMetaData → ℕ → Type 0
MeetsAll request bytes group row = All (MeetsBound request.fields bytes group row) request.bounds

-- Where the statistics of a group are true, each of its rows that meets all bounds is kept.
abbrev pub KeepsMet : Request → File → RowGroupMetaData → Type 0
KeepsMet request file group =
    HasTrueStatistics request file group → (row : ℕ) → row < group.num_rows
    → MeetsAll request file.bytes group row → IsTrue (kept request file group row)

-- So it is of each group, whatever the others are.
abbrev pub LosesNoRow : Request → File → Type 0
LosesNoRow request file = All (KeepsMet request file) (groups_of file)
