-- How many pages a scan is lent, and at most, and how many bytes it reads at most.
use Rattle.std.specs.Prelude.{ℕ, zero, suc, ◌+◌, ◌==◌, ◌||◌, Bool, List, [], ◌∷◌, length, map, filter, sum_by, unwrap_or, zip, Option, if◌then◌else◌}
use Rattle.std.specs.Option.{option_map_or}
use Rattle.columns_core.specs.declared.data_type.DataType.{DataType}
use Rattle.columns_core.specs.declared.data_type.Field.{Field}
use Rattle.parquet_base.specs.declared.interval.Interval.{Interval}
use Rattle.parquet_meta.specs.Chunks.{chunk_range}
use Rattle.parquet_meta.specs.File.{footer_place}
use Rattle.parquet_meta.specs.Indexes.{column_index_length, place_length, offset_index_length}
use Rattle.parquet_meta.specs.declared.metadata.ColumnChunkMetaData.{ColumnChunkMetaData}
use Rattle.parquet_meta.specs.declared.metadata.PageLocation.{PageLocation}
use Rattle.parquet_meta.specs.declared.metadata.RowGroupMetaData.{RowGroupMetaData}
use Rattle.parquet_page.specs.Chunk.{Dictionary, NoDictionary, Undefined, Defined, PlacedPage}
use Rattle.parquet_page.specs.Content.{header_values}
use Rattle.parquet_page.specs.Locations.{part_of}
use Rattle.parquet_scan.specs.declared.bound.Bound.{Bound}
use Rattle.parquet_scan.specs.Causes.{begins_below, holds_any}
use Rattle.parquet_scan.specs.Cells.{dictionary_by_locations, first_location, is_null_type, rows_of_placed, walked_dictionary, walked_pages}
use Rattle.parquet_scan.specs.Pages.{location_rows, locations}
use Rattle.parquet_scan.specs.Request.{Request}
use Rattle.parquet_scan.specs.Rows.{File, column_named, group_counts, groups_of, groups_read, prunes_pages}

-- ---- the pages of a chunk

-- The data pages of a chunk that are walked over: those that hold one of the rows, and those without rows.
abbrev pub is_walked : List ℕ → PlacedPage → Bool
is_walked rows page = header_values page.page.header == 0 || holds_any rows (rows_of_placed page)

abbrev pub pages_walked : List ℕ → RowGroupMetaData → List ℕ → ColumnChunkMetaData → List PlacedPage
pages_walked bytes group rows column = filter (is_walked rows) (walked_pages bytes group column)

-- the locations that name one of the rows
abbrev pub names_some : List ℕ → Interval × PageLocation → Bool
names_some rows named = holds_any rows named.0

abbrev pub opened_locations : List ℕ → RowGroupMetaData → List ℕ → ColumnChunkMetaData → List PageLocation
opened_locations bytes group rows column =
    map (λ (named : Interval × PageLocation). named.1) (filter (names_some rows) (zip (location_rows bytes group column) (locations bytes column)))

-- ---- how many pages are lent of a valid file

-- the pages of a chunk that are opened for its first rows
abbrev pub opened_walked : List ℕ → RowGroupMetaData → List ℕ → ColumnChunkMetaData → List PlacedPage
opened_walked bytes group rows column = filter (begins_below (length rows)) (walked_pages bytes group column)

-- Where a page is opened, the dictionary page before it is lent, if there is one.
abbrev pub with_dictionary_page : Dictionary → ℕ → ℕ
with_dictionary_page _ zero = 0
with_dictionary_page (Defined page) (suc pages) = suc pages + 1
with_dictionary_page NoDictionary (suc pages) = suc pages
with_dictionary_page Undefined (suc pages) = suc pages

abbrev pub lent_of_chunk : Bool → List ℕ → RowGroupMetaData → List ℕ → ColumnChunkMetaData → ℕ
lent_of_chunk by_pages bytes group rows column =
    if by_pages then with_dictionary_page (dictionary_by_locations bytes group column) (length (opened_locations bytes group rows column))
    else with_dictionary_page (walked_dictionary bytes group column) (length (opened_walked bytes group rows column))

-- of a column that is read as nulls none
abbrev pub lent_of_read : Bool → List ℕ → RowGroupMetaData → List ℕ → DataType → ColumnChunkMetaData → ℕ
lent_of_read by_pages bytes group rows data_type column = if is_null_type data_type then 0 else lent_of_chunk by_pages bytes group rows column

abbrev pub lent_of_column : Bool → List ℕ → RowGroupMetaData → List ℕ → Field → ℕ
lent_of_column by_pages bytes group rows field = option_map_or (lent_of_read by_pages bytes group rows field.data_type) (column_named group field.name) 0

-- of a group with the rows that it gives
abbrev pub lent_of_group : Bool → List Field → List ℕ → RowGroupMetaData × List ℕ → ℕ
lent_of_group by_pages fields bytes read = sum_by (lent_of_column by_pages bytes read.0 read.1) fields

abbrev pub pages_lent : Request → File → ℕ
pages_lent request file = sum_by (lent_of_group (prunes_pages request (groups_of file)) request.fields file.bytes) (groups_read request file)

-- ---- how many pages at most

-- The pages of a chunk that hold given rows, those without rows where the chunk is walked over, and a dictionary.
abbrev pub most_of_chunk : Bool → List ℕ → RowGroupMetaData → List ℕ → ColumnChunkMetaData → ℕ
most_of_chunk by_pages bytes group rows column =
    (if by_pages then length (opened_locations bytes group rows column) else length (pages_walked bytes group rows column)) + 1

-- of a column that is read as nulls none
abbrev pub most_of_read : Bool → List ℕ → RowGroupMetaData → List ℕ → DataType → ColumnChunkMetaData → ℕ
most_of_read by_pages bytes group rows data_type column = if is_null_type data_type then 0 else most_of_chunk by_pages bytes group rows column

abbrev pub most_of_column : Bool → List ℕ → RowGroupMetaData → List ℕ → Field → ℕ
most_of_column by_pages bytes group rows field = option_map_or (most_of_read by_pages bytes group rows field.data_type) (column_named group field.name) 0

-- of a group with the rows that it gives
abbrev pub most_of_group : Bool → List Field → List ℕ → RowGroupMetaData × List ℕ → ℕ
most_of_group by_pages fields bytes read = sum_by (most_of_column by_pages bytes read.0 read.1) fields

abbrev pub most_pages : Request → File → ℕ
most_pages request file = sum_by (most_of_group (prunes_pages request (groups_of file)) request.fields file.bytes) (groups_read request file)

-- ---- how many bytes of indexes

abbrev pub index_bytes_of : RowGroupMetaData → Bound → ℕ
index_bytes_of group bound = option_map_or column_index_length (column_named group bound.field) 0

abbrev pub location_bytes_of : RowGroupMetaData → Field → ℕ
location_bytes_of group field = option_map_or offset_index_length (column_named group field.name) 0

-- of a group that counts the offset indexes of requested fields and the column indexes of bounded fields, each once
abbrev pub index_bytes : Request → RowGroupMetaData → ℕ
index_bytes request group = sum_by (location_bytes_of group) request.fields + sum_by (index_bytes_of group) request.bounds

-- ---- how many bytes of chunks

abbrev pub location_length : PageLocation → ℕ
location_length location = place_length (part_of location)

-- opened pages and, if there is one, what stands before the first page of all
abbrev pub located_bytes : Option ℕ → List PageLocation → ℕ
located_bytes before [] = 0
located_bytes before (location ∷ others) = unwrap_or before 0 + sum_by location_length (location ∷ others)

-- a whole chunk, or what is read of it by locations
abbrev pub taken_of_chunk : Bool → List ℕ → RowGroupMetaData → List ℕ → ColumnChunkMetaData → ℕ
taken_of_chunk by_pages bytes group rows column =
    if by_pages then located_bytes (first_location (chunk_range column).offset (locations bytes column)) (opened_locations bytes group rows column) else (chunk_range column).length

-- nothing of a column that is read as nulls
abbrev pub taken_of_read : Bool → List ℕ → RowGroupMetaData → List ℕ → DataType → ColumnChunkMetaData → ℕ
taken_of_read by_pages bytes group rows data_type column = if is_null_type data_type then 0 else taken_of_chunk by_pages bytes group rows column

abbrev pub taken_of_column : Bool → List ℕ → RowGroupMetaData → List ℕ → Field → ℕ
taken_of_column by_pages bytes group rows field = option_map_or (taken_of_read by_pages bytes group rows field.data_type) (column_named group field.name) 0

abbrev pub taken_of_group : Bool → List Field → List ℕ → RowGroupMetaData × List ℕ → ℕ
taken_of_group by_pages fields bytes read = sum_by (taken_of_column by_pages bytes read.0 read.1) fields

-- ---- how many bytes in all

-- the indexes of the groups that count, where rows are pruned by pages
abbrev pub all_index_bytes : Request → File → ℕ
all_index_bytes request file =
    if prunes_pages request (groups_of file) then sum_by (index_bytes request) (filter (group_counts request) (groups_of file)) else 0

-- with what is read of chunks in the groups that give rows
abbrev pub bytes_behind_footer : Request → File → ℕ
bytes_behind_footer request file =
    all_index_bytes request file + sum_by (taken_of_group (prunes_pages request (groups_of file)) request.fields file.bytes) (groups_read request file)

-- and the footer with the 8 bytes behind it
abbrev pub most_bytes_taken : Request → File → ℕ
most_bytes_taken request file = (footer_place file.bytes).length + bytes_behind_footer request file
