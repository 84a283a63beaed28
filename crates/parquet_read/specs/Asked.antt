-- Fields that are read from a group: which rows of their columns, what is refused before anything is read, and how many bytes are taken.
use Rattle.std.specs.Prelude.{ℕ, ◌+◌, ◌-◌, ◌==◌, ◌&&◌, nat_lt, Bool, true, List, Vec, [], ◌∷◌, ◌++◌, filter, flat_map, length, map, sum_by, zip, if◌then◌else◌, Option, None, Some, option_and_then, option_map}
use Rattle.std.specs.List.{list_all}
use Rattle.std.specs.declared.alloc.Global.{Global}
use Rattle.std.specs.Option.{option_map_or}
use Rattle.columns_core.specs.Causes.{Cause, ExternalFormat, NotYetImplemented, is_empty, unless}
use Rattle.columns_core.specs.declared.data_type.DataType.{DataType}
use Rattle.columns_core.specs.declared.data_type.Field.{Field}
use Rattle.parquet_base.specs.Intervals.{row_count}
use Rattle.parquet_meta.specs.Chunks.{chunk_range, chunk_start, has_each_value}
use Rattle.parquet_meta.specs.Indexes.{field_columns}
use Rattle.parquet_meta.specs.Lists.{all_of}
use Rattle.parquet_meta.specs.Places.{part_at}
use Rattle.parquet_meta.specs.declared.metadata.ColumnChunkMetaData.{ColumnChunkMetaData}
use Rattle.parquet_meta.specs.declared.metadata.Place.{Place}
use Rattle.parquet_meta.specs.declared.metadata.RowGroupMetaData.{RowGroupMetaData}
use Rattle.parquet_page.specs.Lent.{are_well_shaped, first_start, is_wanted, lie_within, selected_count}
use Rattle.parquet_page.specs.declared.page.FilteredPage.{FilteredPage}
use Rattle.flat_values.specs.ColumnLeft.{ColumnLeft}
use Rattle.flat_binary.specs.NullType.{is_null_type}
use Rattle.parquet_read.specs.Columns.{is_here, range_length}
use Rattle.parquet_read.specs.Opening.{Outline, column_causes_of, lone, opened_left, opened_outline, placed_in, size_within, start_behind, type_causes}
use Rattle.parquet_read.specs.Rows.{limited}

-- ---- which rows

-- A page behind so many selected rows keeps its place and loses its own.
abbrev pub pages_up_to : ℕ → List FilteredPage → List FilteredPage
pages_up_to rows [] = []
pages_up_to rows (entry ∷ entries) =
    (if rows == 0 then record entry { selected_rows = [] } else entry) ∷ pages_up_to (rows - row_count entry.selected_rows) entries

-- the pages that hold one of the first selected rows
abbrev pub pages_within : Option ℕ → List FilteredPage → List FilteredPage
pages_within None entries = entries
pages_within (Some limit) entries = pages_up_to limit entries

-- ---- what is asked

-- for each field, and each of its columns, the located pages
abbrev pub PageLists : Type 0
PageLists = List (List (List FilteredPage))

-- the lists as they are held
abbrev pub HeldLists : Type 0
HeldLists = Vec (Vec (Vec FilteredPage Global) Global) Global

abbrev pub held_lists : HeldLists → PageLists
held_lists all = map (λ (own : Vec (Vec FilteredPage Global) Global). map (λ (one : Vec FilteredPage Global). one.items) own.items) all.items

abbrev pub lists_of : Option HeldLists → Option PageLists
lists_of pages = option_map held_lists pages

-- a field, and the located pages of its column where they are told
abbrev pub AskedField : Type 0
AskedField = Field × Option (List FilteredPage)

-- The pages behind the first `limit` selected rows are not looked at. The lists are one for each field where what is asked is legal;
-- of others the longer is cut.
abbrev pub asked_fields : Option ℕ → List Field → Option PageLists → List AskedField
asked_fields limit fields None = map (λ field. (field, None)) fields
asked_fields limit fields (Some lists) = map (λ own. (own.0, option_map (pages_within limit) (lone own.1))) (zip fields lists)

-- a group, how many rows an array has at most, and how many rows are wanted at most
pub record GroupReading : Type 0 where
  pub group : RowGroupMetaData
  pub size : Option ℕ
  pub limit : Option ℕ

abbrev pub group_reading : RowGroupMetaData → Option ℕ → Option ℕ → GroupReading
group_reading group size limit = record { group = group; size = size; limit = limit }

-- ---- what is legal

abbrev pub is_chunk_size : Option ℕ → Bool
is_chunk_size None = true
is_chunk_size (Some size) = nat_lt 0 size

-- one list for each field, of one column
abbrev pub have_one_list : ℕ → Option PageLists → Bool
have_one_list fields None = true
have_one_list fields (Some lists) = (length lists == fields) && list_all (λ own. length own == 1) lists

abbrev pub are_shaped_pages : Option PageLists → Bool
are_shaped_pages None = true
are_shaped_pages (Some lists) = list_all (list_all are_well_shaped) lists

abbrev pub is_legal_reading : Option ℕ → ℕ → Option PageLists → Bool
is_legal_reading size fields lists = is_chunk_size size && (have_one_list fields lists && are_shaped_pages lists)

abbrev pub is_shaped_field : AskedField → Bool
is_shaped_field asked = option_map_or are_well_shaped asked.1 true

-- ---- how many rows

-- Without locations every row of the group is selected.
abbrev pub selected_rows_of : RowGroupMetaData → Option (List FilteredPage) → ℕ
selected_rows_of group entries = option_map_or selected_count entries group.num_rows

-- the first of them
abbrev pub rows_asked : GroupReading → AskedField → ℕ
rows_asked reading asked = limited reading.limit (selected_rows_of reading.group asked.1)

-- where there is a chunk size, how many rows an array has at most: no more than it says, nor than are asked for, and one at least
abbrev pub size_asked : GroupReading → AskedField → Option ℕ
size_asked reading asked = size_within (rows_asked reading asked) reading.size

-- what is said of a field that is opened, whatever a source gives
abbrev pub asked_outline : GroupReading → AskedField → Outline
asked_outline reading asked = opened_outline asked.0.data_type reading.size (rows_asked reading asked)

-- ---- what the metadata refuses

-- It stands in the file, flat, not compressed and not encrypted, and is read as the type.
abbrev pub form_causes : DataType → ColumnChunkMetaData → List Cause
form_causes data_type column = unless (is_here column) NotYetImplemented ++ (column_causes_of column ++ type_causes data_type column)

-- The pages with selected rows, and the part before the first page, lie in the chunk.
abbrev pub are_in_range : ColumnChunkMetaData → List FilteredPage → Bool
are_in_range column entries = start_behind (chunk_start column) entries && lie_within column.total_compressed_size (placed_in column entries)

-- Of a column that is read as nulls no place is looked at.
abbrev pub range_causes : Bool → ColumnChunkMetaData → Option (List FilteredPage) → List Cause
range_causes is_null column None = []
range_causes is_null column (Some entries) = if is_null then [] else unless (are_in_range column entries) ExternalFormat

abbrev pub column_asked_causes : GroupReading → AskedField → ColumnChunkMetaData → List Cause
column_asked_causes reading asked column =
    form_causes asked.0.data_type column
    ++ (unless (has_each_value reading.group.num_rows column) ExternalFormat
    ++ range_causes (is_null_type asked.0.data_type) column asked.1)

-- the only column of the field
abbrev pub asked_column : GroupReading → AskedField → Option ColumnChunkMetaData
asked_column reading asked = lone (field_columns asked.0.name reading.group.columns)

abbrev pub asked_causes : GroupReading → AskedField → List Cause
asked_causes reading asked = option_map_or (column_asked_causes reading asked) (asked_column reading asked) (NotYetImplemented ∷ [])

abbrev pub fields_causes : GroupReading → List AskedField → List Cause
fields_causes reading asked = flat_map (asked_causes reading) asked

-- What is asked is legal, and the metadata refuse none of it.
abbrev pub is_readable : GroupReading → List Field → Option PageLists → Bool
is_readable reading fields lists =
    is_legal_reading reading.size (length fields) lists && is_empty (fields_causes reading (asked_fields reading.limit fields lists))

-- ---- what is read

-- So many rows of a column, over the bytes of its chunk: they are the same whether the chunk is read whole or only the parts of it
-- that are needed.
abbrev pub left_in_file : DataType → Option ℕ → ℕ → Option (List FilteredPage) → ColumnChunkMetaData → List ℕ → Option ColumnLeft
left_in_file data_type size rows entries column file =
    option_and_then (λ bytes. opened_left data_type size rows entries (column, bytes)) (part_at file (chunk_range column))

abbrev pub asked_left : GroupReading → List ℕ → AskedField → Option ColumnLeft
asked_left reading file asked =
    option_and_then
    (λ column. left_in_file asked.0.data_type reading.size (rows_asked reading asked) asked.1 column file)
    (asked_column reading asked)

abbrev pub fields_left : GroupReading → List AskedField → List ℕ → Option (List ColumnLeft)
fields_left reading asked file = all_of (asked_left reading file) asked

-- ---- how many bytes are taken

-- the part of a file that a page with selected rows stands in
abbrev pub page_place : FilteredPage → Place
page_place entry = record { offset = entry.start; length = entry.length }

abbrev pub page_part : List ℕ → FilteredPage → Option (List ℕ)
page_part file entry = part_at file (page_place entry)

abbrev pub page_length : FilteredPage → ℕ
page_length entry = entry.length

-- The part of a chunk before the first page, wanted or not. It is read where any page is.
abbrev pub place_of_before : ColumnChunkMetaData → List FilteredPage → Place
place_of_before column entries = record { offset = chunk_start column; length = first_start (placed_in column entries) }

abbrev pub part_in_front : List ℕ → ColumnChunkMetaData → List FilteredPage → ℕ → Option (List ℕ)
part_in_front file column entries read = if read == 0 then Some [] else part_at file (place_of_before column entries)

abbrev pub length_before : ColumnChunkMetaData → List FilteredPage → ℕ → ℕ
length_before column entries read = if read == 0 then 0 else first_start (placed_in column entries)

-- the pages with selected rows and, where there is one, the part before the first page
abbrev pub parts_length : List FilteredPage → ℕ
parts_length entries =
    if length (filter is_wanted entries) == 0 then 0 else first_start entries + sum_by page_length (filter is_wanted entries)

abbrev pub column_length : ColumnChunkMetaData → Option (List FilteredPage) → ℕ
column_length column None = range_length column
column_length column (Some entries) = parts_length (placed_in column entries)

-- Of nulls nothing is read.
abbrev pub column_asked_length : DataType → Option (List FilteredPage) → ColumnChunkMetaData → ℕ
column_asked_length data_type entries column = if is_null_type data_type then 0 else column_length column entries

abbrev pub asked_length : GroupReading → AskedField → ℕ
asked_length reading asked = option_map_or (column_asked_length asked.0.data_type asked.1) (asked_column reading asked) 0

abbrev pub fields_length : GroupReading → List AskedField → ℕ
fields_length reading asked = sum_by (asked_length reading) asked
