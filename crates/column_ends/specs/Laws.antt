-- Laws of ends: they are values of the type that they are read as, and their bytes are counted exactly.
use Rattle.std.specs.Prelude.{◌≡◌, ◌↔◌, ℕ, List, [], ◌∷◌, ◌++◌, true, Option, Some, IfSome}
use Rattle.std.specs.List.{AllByRecursion}
use Rattle.columns_core.specs.declared.cell.Cell.{Cell}
use Rattle.columns_core.specs.declared.data_type.DataType.{DataType}
use Rattle.columns_core.specs.Types.{value_type}
use Rattle.parquet_meta.specs.Indexes.{raw_index}
use Rattle.parquet_meta.specs.declared.metadata.ColumnChunkMetaData.{ColumnChunkMetaData}
use Rattle.parquet_meta.specs.declared.metadata.Ends.{Ends}
use Rattle.parquet_meta.specs.declared.metadata.Index.{Index}
use Rattle.parquet_meta.specs.declared.metadata.PageIndex.{PageIndex}
use Rattle.flat_values.specs.CellTypes.{is_cell_of}
use Rattle.column_ends.specs.Converted.{array_causes, group_cells, index_cells}
use Rattle.column_ends.specs.Counted.{bytes_of_ends, with_one_more, fit}

-- an end that is told is a value of the type
abbrev pub IsEndOf : DataType → Option Cell → Type 0
IsEndOf data_type end = IfSome end (λ cell. is_cell_of data_type cell ≡ true)

-- The ends of a group are values of a type that is no dictionary's.
abbrev pub GroupEndsHaveType : Type 0
GroupEndsHaveType =
    (data_type : DataType) (column : ColumnChunkMetaData) (ends : Ends Cell) → value_type data_type ≡ data_type →
    group_cells data_type column ≡ Some ends → IsEndOf data_type ends.min_value × IsEndOf data_type ends.max_value

abbrev pub AreEndsOf : DataType → PageIndex Cell → Type 0
AreEndsOf data_type page = IsEndOf data_type page.min × IsEndOf data_type page.max

-- The ends of pages are, by the index of a column in a file.
abbrev pub PageEndsHaveType : Type 0
PageEndsHaveType =
    (data_type : DataType) (file : List ℕ) (column : ColumnChunkMetaData) (index : Index) (pages : List (PageIndex Cell)) → value_type data_type ≡ data_type →
    raw_index file column ≡ Some index → index_cells column.descriptor.primitive_type data_type index ≡ Some pages → AllByRecursion (AreEndsOf data_type) pages

-- The bytes that were counted fit exactly where each side fits an array of its own.
abbrev pub CountsAreExact : Type 0
CountsAreExact =
    (data_type : DataType) (lows highs : List (Option Cell)) →
    fit data_type (bytes_of_ends lows highs) ≡ true ↔ array_causes data_type lows ++ array_causes data_type highs ≡ []

-- and one more end on each side is counted to those before it
abbrev pub CountsAreJoined : Type 0
CountsAreJoined =
    (lows highs : List (Option Cell)) (low high : Option Cell) → with_one_more (bytes_of_ends lows highs) low high ≡ bytes_of_ends (lows ++ low ∷ []) (highs ++ high ∷ [])
