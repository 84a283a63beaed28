-- Which pages of a group's columns hold rows that are wanted.
use Rattle.std.specs.Prelude.{ℕ, ◌&&◌, is_some, Bool, List, map, sum_by, Option, Vec}
use Rattle.std.specs.declared.alloc.Global.{Global}
use Rattle.std.specs.List.{list_all}
use Rattle.columns_core.specs.declared.data_type.Field.{Field}
use Rattle.parquet_base.specs.Intervals.{is_well_shaped}
use Rattle.parquet_base.specs.Reading.{◌>>=◌}
use Rattle.parquet_base.specs.declared.interval.Interval.{Interval}
use Rattle.parquet_meta.specs.Indexes.{field_columns, locations_of, offset_index_length}
use Rattle.parquet_meta.specs.Lists.{all_of}
use Rattle.parquet_meta.specs.declared.metadata.ColumnChunkMetaData.{ColumnChunkMetaData}
use Rattle.parquet_meta.specs.declared.metadata.PageLocation.{PageLocation}
use Rattle.parquet_meta.specs.declared.metadata.RowGroupMetaData.{RowGroupMetaData}
use Rattle.parquet_page.specs.Locations.{page_intervals, selected_pages}
use Rattle.parquet_page.specs.declared.page.FilteredPage.{FilteredPage}
use Rattle.parquet_statistics.specs.LeafTypes.{has_column}

-- each column says where its column index begins
abbrev pub has_column_indexes : RowGroupMetaData → Bool
has_column_indexes group = list_all (λ (column : ColumnChunkMetaData). is_some column.column_index_offset) group.columns

-- The intervals are sorted, disjoint, filled and within the group, and each field has a column.
abbrev pub can_be_asked : RowGroupMetaData → List Field → List Interval → Bool
can_be_asked group fields intervals = is_well_shaped intervals group.num_rows && list_all (has_column group.columns) fields

-- ---- the pages of each column of each field

-- something of each page of each column of each field
abbrev pub InFields : Type 0 → Type 0
InFields A = List (List (List A))

-- as vectors show it
abbrev pub in_fields : {A : Type 0} → List (Vec (Vec A Global) Global) → InFields A
in_fields fields = map (λ columns. map (λ pages. pages.items) columns.items) fields

-- where they stand
abbrev pub locations_of_field : List ColumnChunkMetaData → List ℕ → Field → Option (List (List PageLocation))
locations_of_field columns file field = all_of (locations_of file) (field_columns field.name columns)

abbrev pub locations_of_fields : List ColumnChunkMetaData → List Field → List ℕ → Option (InFields PageLocation)
locations_of_fields columns fields file = all_of (locations_of_field columns file) fields

-- the rows of those at these places
abbrev pub rows_at_places : ℕ → InFields PageLocation → Option (InFields Interval)
rows_at_places num_rows fields = all_of (all_of (λ locations. page_intervals locations num_rows)) fields

abbrev pub rows_of_fields : RowGroupMetaData → List Field → List ℕ → Option (InFields Interval)
rows_of_fields group fields file = locations_of_fields group.columns fields file >>= rows_at_places group.num_rows

-- each with the rows of it that lie in the intervals
abbrev pub pages_at_places : List Interval → ℕ → InFields PageLocation → Option (InFields FilteredPage)
pages_at_places intervals num_rows fields = all_of (all_of (λ locations. selected_pages intervals locations num_rows)) fields

abbrev pub field_maps : RowGroupMetaData → List Interval → List Field → List ℕ → Option (InFields FilteredPage)
field_maps group intervals fields file = locations_of_fields group.columns fields file >>= pages_at_places intervals group.num_rows

-- how many bytes the offset indexes of a field's columns have
abbrev pub offset_indexes_length : List ColumnChunkMetaData → Field → ℕ
offset_indexes_length columns field = sum_by offset_index_length (field_columns field.name columns)
