-- Groups beside whether they count, and beside the runs of their rows that are kept or given, with where their pages stand.
use Rattle.std.specs.Prelude.{◌≡◌, ℕ, Option, Some, None, IfSome, map, Bool, true, false, not, ◌&&◌, ◌||◌, ◌==◌, ◌+◌, ◌<◌, nat_lt, get_or, if◌then◌else◌, List, [], length, zip, flat_map, sum_by}
use Rattle.std.specs.List.{list_all, range_with_len}
use Rattle.std.specs.Option.{option_map_or}
use Rattle.columns_core.specs.Causes.{Cause, Overflow, unless}
use Rattle.columns_core.specs.declared.array.Array.{Array}
use Rattle.columns_core.specs.declared.cell.Cell.{Cell}
use Rattle.columns_core.specs.declared.data_type.DataType.{DataType}
use Rattle.columns_core.specs.declared.data_type.Field.{Field}
use Rattle.parquet_base.specs.declared.interval.Interval.{Interval}
use Rattle.parquet_base.specs.Intervals.{is_well_shaped, maximal_runs, row_count, rows_of}
use Rattle.parquet_meta.specs.declared.metadata.ColumnChunkMetaData.{ColumnChunkMetaData}
use Rattle.parquet_meta.specs.declared.metadata.Ends.{Ends}
use Rattle.parquet_meta.specs.declared.metadata.PageLocation.{PageLocation}
use Rattle.parquet_meta.specs.declared.metadata.RowGroupMetaData.{RowGroupMetaData}
use Rattle.parquet_page.specs.Locations.{has_shape}
use Rattle.column_ends.specs.Counted.{with_one_more, fit}
use Rattle.parquet_scan.specs.declared.bound.Bound.{Bound}
use Rattle.parquet_scan.specs.declared.scanning.GroupKept.{GroupKept}
use Rattle.parquet_scan.specs.Causes.{causes_of_group, index_causes_of_group}
use Rattle.parquet_scan.specs.Cells.{chunks_of_group, columns_of_chunk}
use Rattle.parquet_scan.specs.Costs.{index_bytes_of, lent_of_group, location_bytes_of, taken_of_group}
use Rattle.parquet_scan.specs.Pages.{locations}
use Rattle.parquet_scan.specs.Request.{bound_type, bounded_field}
use Rattle.parquet_scan.specs.Rows.{column_named, group_keeps, has_indexes_for, pages_keep}

-- a group counts where it did by the bounds so far, and one more keeps it
abbrev pub counts_by : List Field → Bound → RowGroupMetaData × Bool → Bool
counts_by fields bound group = group.1 && group_keeps fields group.0 bound

-- the bytes of low and of high ends, with those of one more group, if its column is there
abbrev pub with_ends : ℕ × ℕ → Option (Ends Cell) → ℕ × ℕ
with_ends bytes None = bytes
with_ends bytes (Some ends) = with_one_more bytes ends.min_value ends.max_value

-- what is wrong with so many bytes of a bound's ends
abbrev pub causes_of_bytes : ℕ × ℕ → List Field → Bound → List Cause
causes_of_bytes bytes fields bound = option_map_or (λ (field : Field). unless (fit (bound_type field) bytes) Overflow) (bounded_field fields bound) []

abbrev pub has_indexes_if_counting : List Bound → List Field → RowGroupMetaData × Bool → Bool
has_indexes_if_counting bounds fields group = not group.1 || has_indexes_for bounds fields group.0

-- rows are pruned by pages, where these are the groups that count
abbrev pub are_pruned : List Bound → List Field → List RowGroupMetaData → List Bool → Bool
are_pruned bounds fields groups counts = not (length bounds == 0) && list_all (has_indexes_if_counting bounds fields) (zip groups counts)

-- what is wrong with the indexes of a group, if they are read
abbrev pub index_causes_if : Bool → List Field → List Bound → List ℕ → RowGroupMetaData × Bool → List Cause
index_causes_if by_pages fields bounds bytes group = if by_pages && group.1 then index_causes_of_group fields bounds bytes group.0 else []

abbrev pub index_causes_of_groups : Bool → List Field → List Bound → List ℕ → List RowGroupMetaData → List Bool → List Cause
index_causes_of_groups by_pages fields bounds bytes groups counts = flat_map (index_causes_if by_pages fields bounds bytes) (zip groups counts)

-- the rows of a group, and the runs of those that are kept
abbrev pub kept_if : Bool → List Field → List Bound → List ℕ → RowGroupMetaData × Bool → GroupKept
kept_if by_pages fields bounds bytes group = record {
  rows = (group.0).num_rows;
  intervals = maximal_runs (λ row. group.1 && pages_keep by_pages fields bounds bytes group.0 row) (group.0).num_rows;
}

abbrev pub kept_of_groups : Bool → List Field → List Bound → List ℕ → List RowGroupMetaData → List Bool → List GroupKept
kept_of_groups by_pages fields bounds bytes groups counts = map (kept_if by_pages fields bounds bytes) (zip groups counts)

-- ---- groups beside the runs of the rows that they give

-- the runs lie in their group
abbrev pub lies_in_group : RowGroupMetaData × List Interval → Bool
lies_in_group group = is_well_shaped group.1 (group.0).num_rows

abbrev pub lie_in_groups : List RowGroupMetaData → List (List Interval) → Bool
lie_in_groups groups given = list_all lies_in_group (zip groups given)

-- Where rows are not pruned by pages, those that are given are the first of their group.
abbrev pub AreFirst : Bool → List Interval → Type 0
AreFirst true runs = Unit {0}
AreFirst false runs = rows_of runs ≡ range_with_len 0 (row_count runs)

-- a group that gives a row is read
abbrev pub gives_a_row : RowGroupMetaData × List Interval → Bool
gives_a_row group = nat_lt 0 (length group.1)

-- what is wrong with a group, if it is read
abbrev pub causes_if_read : Bool → Option ℕ → List Field → List ℕ → RowGroupMetaData × List Interval → List Cause
causes_if_read by_pages size fields bytes group = if gives_a_row group then causes_of_group by_pages size fields bytes (group.0, rows_of group.1) else []

abbrev pub causes_of_groups : Bool → Option ℕ → List Field → List ℕ → List RowGroupMetaData → List (List Interval) → List Cause
causes_of_groups by_pages size fields bytes groups given = flat_map (causes_if_read by_pages size fields bytes) (zip groups given)

-- the chunks of a group
abbrev pub chunks_if_read : Bool → Option ℕ → List Field → List ℕ → RowGroupMetaData × List Interval → List (Option (List (DataType × List Cell)))
chunks_if_read by_pages size fields bytes group = chunks_of_group by_pages size fields bytes (group.0, rows_of group.1)

abbrev pub chunks_of_groups : Bool → Option ℕ → List Field → List ℕ → List RowGroupMetaData → List (List Interval) → List (Option (List (DataType × List Cell)))
chunks_of_groups by_pages size fields bytes groups given = flat_map (chunks_if_read by_pages size fields bytes) (zip groups given)

-- how many rows are given
abbrev pub rows_of_groups : List (List Interval) → ℕ
rows_of_groups given = sum_by row_count given

-- the pages that are lent of a group, if it is read
abbrev pub lent_if_read : Bool → List Field → List ℕ → RowGroupMetaData × List Interval → ℕ
lent_if_read by_pages fields bytes group = if gives_a_row group then lent_of_group by_pages fields bytes (group.0, rows_of group.1) else 0

abbrev pub lent_of_groups : Bool → List Field → List ℕ → List RowGroupMetaData → List (List Interval) → ℕ
lent_of_groups by_pages fields bytes groups given = sum_by (lent_if_read by_pages fields bytes) (zip groups given)

-- ---- what is taken from the source

-- the indexes of a group, if they are read
abbrev pub indexes_taken : Bool → List Field → List Bound → RowGroupMetaData × Bool → ℕ
indexes_taken by_pages fields bounds group =
    if by_pages && group.1 then sum_by (location_bytes_of group.0) fields + sum_by (index_bytes_of group.0) bounds else 0

abbrev pub indexes_taken_of_groups : Bool → List Field → List Bound → List RowGroupMetaData → List Bool → ℕ
indexes_taken_of_groups by_pages fields bounds groups counts = sum_by (indexes_taken by_pages fields bounds) (zip groups counts)

-- the columns of a group, if it is read
abbrev pub taken_if_read : Bool → List Field → List ℕ → RowGroupMetaData × List Interval → ℕ
taken_if_read by_pages fields bytes group = if gives_a_row group then taken_of_group by_pages fields bytes (group.0, rows_of group.1) else 0

abbrev pub taken_of_groups : Bool → List Field → List ℕ → List RowGroupMetaData → List (List Interval) → ℕ
taken_of_groups by_pages fields bytes groups given = sum_by (taken_if_read by_pages fields bytes) (zip groups given)

-- ---- where pages stand

-- the locations of a column's pages: they have their shape, and are those of the bytes, where the source tells them
pub record AreLocationsOf (told : Option (List ℕ)) (group : RowGroupMetaData) (column : ColumnChunkMetaData) (list : List PageLocation) : Type 0 where
  pub shape : has_shape list group.num_rows ≡ true
  pub same : IfSome told (λ bytes. locations bytes column ≡ list)

-- of the one column that a field names in a group
abbrev pub AreLocations : Option (List ℕ) → RowGroupMetaData → Field → List PageLocation → Type 0
AreLocations told group field list = (column : ColumnChunkMetaData) → column_named group field.name ≡ Some column → AreLocationsOf told group column list

-- those of all fields
abbrev pub AreLocated : Option (List ℕ) → List Field → RowGroupMetaData → List (List PageLocation) → Type 0
AreLocated told fields group lists = (i : ℕ) (field : Field) → i < length fields → field ≡ get_or fields i field → AreLocations told group field (get_or lists i [])

-- Where rows are pruned by pages, a group that has a run has them.
abbrev pub AreLocatedIf : Bool → Option (List ℕ) → List Field → RowGroupMetaData → List Interval → List (List PageLocation) → Type 0
AreLocatedIf by_pages told fields group runs lists = by_pages ≡ true → 0 < length runs → AreLocated told fields group lists

-- so has each such group, beside its runs
abbrev pub AreAllLocated : Bool → Option (List ℕ) → List Field → List RowGroupMetaData → List (List Interval) → List (List (List PageLocation)) → Type 0
AreAllLocated by_pages told fields groups runs located =
    (i : ℕ) (group : RowGroupMetaData) → i < length groups → group ≡ get_or groups i group → AreLocatedIf by_pages told fields group (get_or runs i []) (get_or located i [])

-- ---- what was read

-- chunks that were read, each as its columns
abbrev pub shown : List (List Array) → List (Option (List (DataType × List Cell)))
shown chunks = map (λ arrays. Some (columns_of_chunk arrays)) chunks
