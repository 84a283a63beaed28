-- The rows of a file that statistics do not rule out, and those of them that a scan gives.
use Rattle.std.specs.Prelude.{ℕ, ◌-◌, Bool, false, not, ◌&&◌, ◌||◌, List, [], ◌∷◌, length, map, filter, take, zip, Option, Some, None, is_some, option_map, sum_by, nat_lt}
use Rattle.std.specs.List.{list_all, range_with_len}
use Rattle.std.specs.Option.{option_map_or}
use Rattle.parquet_base.specs.declared.interval.Interval.{Interval}
use Rattle.parquet_base.specs.Intervals.{is_kept_page, maximal_runs, rows_of}
use Rattle.parquet_base.specs.Reading.{◌>>=◌}
use Rattle.columns_core.specs.declared.cell.Cell.{Cell}
use Rattle.columns_core.specs.declared.data_type.DataType.{DataType}
use Rattle.columns_core.specs.declared.data_type.Field.{Field}
use Rattle.parquet_meta.specs.File.{footer}
use Rattle.parquet_meta.specs.declared.metadata.ColumnChunkMetaData.{ColumnChunkMetaData}
use Rattle.parquet_meta.specs.declared.metadata.Ends.{Ends}
use Rattle.parquet_meta.specs.declared.metadata.FileMetaData.{FileMetaData}
use Rattle.parquet_meta.specs.declared.metadata.PageLocation.{PageLocation}
use Rattle.parquet_meta.specs.declared.metadata.RowGroupMetaData.{RowGroupMetaData}
use Rattle.column_ends.specs.Converted.{group_cells}
use Rattle.parquet_scan.specs.declared.bound.Bound.{Bound}
use Rattle.parquet_scan.specs.declared.scanning.GroupKept.{GroupKept}
use Rattle.parquet_scan.specs.Bound.{KnownEnds, ends_keep, known_value}
use Rattle.parquet_scan.specs.Request.{Request, begins, bound_type, bounded_field}
use Rattle.parquet_scan.specs.Pages.{location_rows, locations, page_ends}

-- bytes that have metadata
pub record File : Type 0 where
  pub bytes : List ℕ
  pub metadata : FileMetaData

abbrev pub file_with : List ℕ → FileMetaData → File
file_with bytes metadata = record { bytes = bytes; metadata = metadata }

abbrev pub file_of : List ℕ → Option File
file_of bytes = option_map (file_with bytes) (footer bytes)

abbrev pub groups_of : File → List RowGroupMetaData
groups_of file = file.metadata.row_groups

-- ---- columns

-- the item of a list of one
abbrev pub only_one : {X : Type 0} → List X → Option X
only_one (x ∷ []) = Some x
only_one _ = None

abbrev pub is_named : List ℕ → ColumnChunkMetaData → Bool
is_named name column = begins name column.descriptor

-- the column of this name in a group, where exactly one has it
abbrev pub column_named : RowGroupMetaData → List ℕ → Option ColumnChunkMetaData
column_named group name = only_one (filter (is_named name) group.columns)

abbrev pub has_column_index : RowGroupMetaData → List ℕ → Bool
has_column_index group name = option_map_or (λ (column : ColumnChunkMetaData). is_some column.column_index) (column_named group name) false

abbrev pub has_offset_index : RowGroupMetaData → List ℕ → Bool
has_offset_index group name = option_map_or (λ (column : ColumnChunkMetaData). is_some column.offset_index) (column_named group name) false

-- the locations of the pages of the column of this name
abbrev pub field_locations : List ℕ → RowGroupMetaData → List ℕ → List PageLocation
field_locations bytes group name = option_map_or (locations bytes) (column_named group name) []

-- the type of a bound's values, which is that of its field, and the field's column in a group
abbrev pub bounded_column : List Field → RowGroupMetaData → Bound → Option (DataType × ColumnChunkMetaData)
bounded_column fields group bound = do
  field ← bounded_field fields bound
  column ← column_named group bound.field
  Some (bound_type field, column)

-- ---- groups that count

-- What is not told is not known.
abbrev pub no_ends_known : KnownEnds
no_ends_known = record { low = None; high = None; nulls = None }

abbrev pub known_ends : Ends Cell → KnownEnds
known_ends ends = record { low = known_value ends.min_value; high = known_value ends.max_value; nulls = ends.null_count }

-- the ends of a column in a group as values of a type; of statistics without a cause
abbrev pub group_ends : DataType → ColumnChunkMetaData → KnownEnds
group_ends data_type column = option_map_or known_ends (group_cells data_type column) no_ends_known

-- a group may hold a row that meets the bound
abbrev pub group_keeps : List Field → RowGroupMetaData → Bound → Bool
group_keeps fields group bound =
    option_map_or (λ (typed : DataType × ColumnChunkMetaData). ends_keep (group_ends typed.0 typed.1) group.num_rows bound)
    (bounded_column fields group bound) false

-- A group counts where its statistics rule out no bound.
abbrev pub group_counts : Request → RowGroupMetaData → Bool
group_counts request group = list_all (group_keeps request.fields group) request.bounds

-- each bounded column has a column index and each requested column an offset index
abbrev pub has_indexes_for : List Bound → List Field → RowGroupMetaData → Bool
has_indexes_for bounds fields group =
    list_all (λ (bound : Bound). has_column_index group bound.field) bounds && list_all (λ (field : Field). has_offset_index group field.name) fields

abbrev pub has_needed_indexes : Request → RowGroupMetaData → Bool
has_needed_indexes request group = has_indexes_for request.bounds request.fields group

-- Rows are pruned by pages where there is a bound, and each group that counts has the indexes.
abbrev pub prunes_pages : Request → List RowGroupMetaData → Bool
prunes_pages request groups = nat_lt 0 (length request.bounds) && list_all (has_needed_indexes request) (filter (group_counts request) groups)

-- ---- rows that are kept

-- the page, which has these rows and ends, may hold a row that meets the bound; one without rows holds none
abbrev pub page_keeps : Bound → Interval × KnownEnds → Bool
page_keeps bound page = ends_keep page.1 (page.0).length bound

-- the page that holds the row is such a one
abbrev pub keeps_row : List Interval → List KnownEnds → Bound → ℕ → Bool
keeps_row pages ends bound row = is_kept_page pages (map (page_keeps bound) (zip pages ends)) row

abbrev pub row_keeps : DataType → List ℕ → RowGroupMetaData → Bound → ColumnChunkMetaData → ℕ → Bool
row_keeps data_type bytes group bound column row = keeps_row (location_rows bytes group column) (page_ends data_type bytes column) bound row

-- the page of the bounded column that holds the row may hold one that meets the bound
abbrev pub bound_keeps : List Field → List ℕ → RowGroupMetaData → ℕ → Bound → Bool
bound_keeps fields bytes group row bound =
    option_map_or (λ (typed : DataType × ColumnChunkMetaData). row_keeps typed.0 bytes group bound typed.1 row) (bounded_column fields group bound) false

-- Where rows are pruned by pages, each bound keeps the page that holds the row.
abbrev pub pages_keep : Bool → List Field → List Bound → List ℕ → RowGroupMetaData → ℕ → Bool
pages_keep by_pages fields bounds bytes group row = not by_pages || list_all (bound_keeps fields bytes group row) bounds

-- A row of a group is kept where the group counts and its pages keep it.
abbrev pub kept : Request → File → RowGroupMetaData → ℕ → Bool
kept request file group row =
    group_counts request group && pages_keep (prunes_pages request (groups_of file)) request.fields request.bounds file.bytes group row

-- the runs of kept rows of a group
abbrev pub intervals : Request → File → RowGroupMetaData → List Interval
intervals request file group = maximal_runs (kept request file group) group.num_rows

abbrev pub kept_rows : Request → File → RowGroupMetaData → List ℕ
kept_rows request file group = filter (kept request file group) (range_with_len 0 group.num_rows)

-- ---- rows that are given

-- the first rows of several lists, up to a limit over all of them
abbrev pub first_rows : Option ℕ → List (List ℕ) → List (List ℕ)
first_rows None groups = groups
first_rows (Some left) [] = []
first_rows (Some left) (rows ∷ groups) = take left rows ∷ first_rows (Some (left - length rows)) groups

-- the rows that each group gives of its kept runs: the first ones, up to a limit over all groups
abbrev pub given_of_kept : Option ℕ → List GroupKept → List (List ℕ)
given_of_kept limit kept = first_rows limit (map (λ (group : GroupKept). rows_of group.intervals) kept)

-- the rows that a scan gives, by group: the first kept rows of the file
abbrev pub given_rows : Request → File → List (List ℕ)
given_rows request file = first_rows request.limit (map (kept_rows request file) (groups_of file))

-- the groups, each with the rows that it gives
abbrev pub given_groups : Request → File → List (RowGroupMetaData × List ℕ)
given_groups request file = zip (groups_of file) (given_rows request file)

abbrev pub gives_rows : RowGroupMetaData × List ℕ → Bool
gives_rows group = nat_lt 0 (length group.1)

-- the groups that are read, which give rows
abbrev pub groups_read : Request → File → List (RowGroupMetaData × List ℕ)
groups_read request file = filter gives_rows (given_groups request file)

-- how many rows a scan gives
abbrev pub given_row_count : Request → File → ℕ
given_row_count request file = sum_by length (given_rows request file)
