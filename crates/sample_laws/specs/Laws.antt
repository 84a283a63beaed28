-- What is promised of every sample: it is whole, true and readable for each request over its columns, and its rows have their cells.
use Rattle.std.specs.Prelude.{◌≡◌, ◌⊎◌, All, IsSomeAnd, IsTrue, List, Option, Some, None, [], flat_map, length, map, ℕ}
use Rattle.std.specs.List.{range_with_len}
use Rattle.columns_core.specs.declared.cell.Cell.{Cell}
use Rattle.columns_core.specs.declared.data_type.DataType.{out-DataType}
use Rattle.columns_core.specs.declared.data_type.DataType.TheOpen.{DataType-F}
use Rattle.columns_core.specs.declared.data_type.Field.{Field}
use Rattle.parquet_meta.specs.File.{footer}
use Rattle.parquet_meta.specs.declared.metadata.ColumnChunkMetaData.{ColumnChunkMetaData}
use Rattle.parquet_meta.specs.declared.metadata.RowGroupMetaData.{RowGroupMetaData}
use Rattle.parquet_sample.specs.Sample.{id_column, name_column, qty_column, sample_cell_at}
use Rattle.parquet_scan.specs.Causes.{IsValid}
use Rattle.parquet_scan.specs.Cells.{cell}
use Rattle.parquet_scan.specs.Pages.{column_index_causes, locations}
use Rattle.parquet_scan.specs.Request.{Request, bound_type, is_legal}
use Rattle.parquet_scan.specs.Rows.{File, column_named, file_of, groups_of}
use Rattle.parquet_scan.specs.Truth.{AreTrueCounts, AreTrueLocations, HasTrueCountsAndLocations, HasTrueStatistics, has_true_index, has_true_statistics}

-- ---- what is asked

-- a field of the name and type of one of the three columns
pub record IsIdField (field : Field) : Type 0 where
  pub name : field.name ≡ id_column.column.name
  pub type : out-DataType field.data_type ≡ DataType-F.Int64

pub record IsQtyField (field : Field) : Type 0 where
  pub name : field.name ≡ qty_column.column.name
  pub type : out-DataType field.data_type ≡ DataType-F.Int32

pub record IsNameField (field : Field) : Type 0 where
  pub name : field.name ≡ name_column.column.name
  pub type : out-DataType field.data_type ≡ DataType-F.Utf8

abbrev pub IsSampleField : Field → Type 0
IsSampleField field = IsIdField field ⊎ (IsQtyField field ⊎ IsNameField field)

-- a request over these columns, which is legal in all that needs no file to be seen
pub record AsksOfSample (request : Request) : Type 0 where
  pub columns : All IsSampleField request.fields
  pub legal : IsTrue (is_legal request None)

-- ---- what holds

-- what a file says of its rows is true of them
pub record IsTrueFor (request : Request) (file : File) : Type 0 where
  pub counts_and_locations : HasTrueCountsAndLocations request file
  pub statistics : All (HasTrueStatistics request file) (groups_of file)

-- The request is legal for the bytes, which are a valid file for it, and what the file says of its rows is true of them.
pub record IsGoodFor (request : Request) (bytes : List ℕ) : Type 0 where
  pub legal : IsTrue (is_legal request (footer bytes))
  pub valid : IsValid request bytes
  pub is_true : IsSomeAnd (file_of bytes) (IsTrueFor request)

-- ---- what is told, whatever is asked

-- What a file says of a field's rows in a group is true of them, and its column index has an entry for each location.
pub record IsTrueOfColumn (bytes : List ℕ) (group : RowGroupMetaData) (field : Field) (column : ColumnChunkMetaData) : Type 0 where
  pub counts : AreTrueCounts bytes group column
  pub located : AreTrueLocations bytes group column
  pub statistics : IsTrue (has_true_statistics bytes group field column)
  pub index : IsTrue (has_true_index bytes group field column)
  pub index_is_whole : column_index_causes (bound_type field) (length (locations bytes column)) bytes column ≡ []

-- a group has a column for the field, and what it says of it is true
abbrev pub IsTrueOfGroup : List ℕ → Field → RowGroupMetaData → Type 0
IsTrueOfGroup bytes field group = IsSomeAnd (column_named group field.name) (IsTrueOfColumn bytes group field)

-- so it is of each group, for a field that is one of the three columns
abbrev pub IsTrueOfField : Field → File → Type 0
IsTrueOfField field file = IsSampleField field → All (IsTrueOfGroup file.bytes field) (groups_of file)

-- ---- cells

-- the cells of a field in all rows, group after group
abbrev pub field_cells : File → Field → List (Option Cell)
field_cells file field = flat_map (λ (group : RowGroupMetaData). map (cell file.bytes group field) (range_with_len 0 group.num_rows)) (groups_of file)

-- the cells of a column of the sample, each of which is there
abbrev pub sample_cells : ℕ → ℕ → ℕ → List (Option Cell)
sample_cells column rows seed = map (λ n. Some (sample_cell_at column n)) (range_with_len seed rows)

-- a field that is one of the three columns has its cells
pub record HasCells (rows seed : ℕ) (field : Field) (file : File) : Type 0 where
  pub id : IsIdField field → field_cells file field ≡ sample_cells 0 rows seed
  pub qty : IsQtyField field → field_cells file field ≡ sample_cells 1 rows seed
  pub name : IsNameField field → field_cells file field ≡ sample_cells 2 rows seed
