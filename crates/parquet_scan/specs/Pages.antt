-- The pages of a column as its indexes tell of them.
use Rattle.std.specs.Prelude.{ℕ, ◌==◌, List, [], ◌∷◌, ◌++◌, length, map, unwrap_or, Option, is_some, option_and_then}
use Rattle.std.specs.Option.{option_map_or}
use Rattle.columns_core.specs.Causes.{Cause, ExternalFormat, NotYetImplemented, and_then, unless}
use Rattle.columns_core.specs.declared.cell.Cell.{Cell}
use Rattle.columns_core.specs.declared.data_type.DataType.{DataType}
use Rattle.parquet_base.specs.Reading.{◌>>=◌}
use Rattle.parquet_base.specs.declared.interval.Interval.{Interval}
use Rattle.parquet_meta.specs.Indexes.{locations_of, raw_index}
use Rattle.parquet_meta.specs.Code.{not_negative}
use Rattle.parquet_meta.specs.declared.metadata.ColumnChunkMetaData.{ColumnChunkMetaData}
use Rattle.parquet_meta.specs.declared.metadata.Index.{Index}
use Rattle.parquet_meta.specs.declared.metadata.PageIndex.{PageIndex}
use Rattle.parquet_meta.specs.declared.metadata.PageLocation.{PageLocation}
use Rattle.parquet_meta.specs.declared.metadata.RowGroupMetaData.{RowGroupMetaData}
use Rattle.parquet_page.specs.Locations.{has_shape, page_intervals}
use Rattle.column_ends.specs.Converted.{causes_of_index, index_cells, index_rule}
use Rattle.column_ends.specs.Told.{stored_pages}
use Rattle.parquet_scan.specs.Bound.{KnownEnds, known_value}

-- ---- the offset index: where pages stand, and which rows they hold

-- the locations of a column's pages
abbrev pub locations : List ℕ → ColumnChunkMetaData → List PageLocation
locations bytes column = unwrap_or (locations_of bytes column) []

-- the rows of pages at these locations
abbrev pub rows_at : List PageLocation → ℕ → List Interval
rows_at locations rows = unwrap_or (page_intervals locations rows) []

abbrev pub location_rows : List ℕ → RowGroupMetaData → ColumnChunkMetaData → List Interval
location_rows bytes group column = rows_at (locations bytes column) group.num_rows

-- What is wrong with them: there has to be one, the first with row 0, and neither is a number negative, nor do first rows fall or pass the
-- number of rows.
abbrev pub locations_causes : List ℕ → RowGroupMetaData → ColumnChunkMetaData → List Cause
locations_causes bytes group column = unless (has_shape (locations bytes column) group.num_rows) ExternalFormat

-- ---- the column index: the ends of each page

-- of a page without a cause
abbrev pub ends_of_page : PageIndex Cell → KnownEnds
ends_of_page page = record { low = known_value page.min; high = known_value page.max; nulls = option_and_then not_negative page.null_count }

-- what the column index tells of each page, as values of a type
abbrev pub column_cells : DataType → List ℕ → ColumnChunkMetaData → Option (List (PageIndex Cell))
column_cells data_type bytes column = raw_index bytes column >>= index_cells column.descriptor.primitive_type data_type

abbrev pub page_ends : DataType → List ℕ → ColumnChunkMetaData → List KnownEnds
page_ends data_type bytes column = map ends_of_page (unwrap_or (column_cells data_type bytes column) [])

-- An index tells of as many pages as there are locations.
abbrev pub count_causes : ℕ → Index → List Cause
count_causes count index = unless (length (stored_pages index) == count) ExternalFormat

-- what is wrong with it: the column has to be of a type whose pages are read as this one, and the index has to be there
abbrev pub column_index_causes : DataType → ℕ → List ℕ → ColumnChunkMetaData → List Cause
column_index_causes data_type count bytes column =
    and_then (unless (is_some (index_rule column.descriptor.primitive_type data_type)) NotYetImplemented)
    (option_map_or (λ index. causes_of_index column.descriptor.primitive_type data_type index ++ count_causes count index)
    (raw_index bytes column) (ExternalFormat ∷ []))
