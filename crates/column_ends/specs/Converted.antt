-- The ends that statistics and column indexes tell, as values of a type, and what is wrong with them.
use Rattle.std.specs.Prelude.{ℕ, List, [], ◌∷◌, ◌++◌, flat_map, map, sum_by, is_some, Option, Some, None, option_and_then, option_map, if◌then◌else◌}
use Rattle.std.specs.List.{enumerate_from}
use Rattle.std.specs.Option.{option_map_or}
use Rattle.columns_core.specs.Causes.{Cause, ExternalFormat, NotYetImplemented, OutOfSpec, Overflow, unless}
use Rattle.columns_core.specs.declared.cell.Cell.{Cell}
use Rattle.columns_core.specs.declared.data_type.DataType.{DataType}
use Rattle.columns_core.specs.Types.{value_type}
use Rattle.parquet_base.specs.Reading.{◌>>=◌}
use Rattle.parquet_meta.specs.Indexes.{type_of}
use Rattle.parquet_meta.specs.TypedStatistics.{counts_of, known_count, statistics_of}
use Rattle.parquet_meta.specs.declared.metadata.ColumnChunkMetaData.{ColumnChunkMetaData}
use Rattle.parquet_meta.specs.declared.metadata.Ends.{Ends}
use Rattle.parquet_meta.specs.declared.metadata.Index.{Index}
use Rattle.parquet_meta.specs.declared.metadata.PageIndex.{PageIndex}
use Rattle.parquet_meta.specs.declared.metadata.PhysicalType.{PhysicalType}
use Rattle.parquet_meta.specs.declared.metadata.PrimitiveType.{PrimitiveType}
use Rattle.parquet_page.specs.Stored.{Stored}
use Rattle.page_decoding.specs.Bytes.{cell_bytes, fits_most}
use Rattle.flat_values.specs.Conversion.{Conversion, Item, Nulls, Value, NotInRange, NotText, convert}
use Rattle.flat_values.specs.MostBytes.{most_bytes}
use Rattle.flat_values.specs.Pairs.{leaf_conversion, page_conversion}
use Rattle.flat_values.specs.Sound.{is_stored_as}
use Rattle.column_ends.specs.Told.{stored_ends, stored_pages}

-- ---- one end

-- an item that is a cell
abbrev pub as_cell : Item → Option Cell
as_cell (Value cell) = Some cell
as_cell NotInRange = None
as_cell NotText = None

-- what is wrong with an item
abbrev pub item_causes : Item → List Cause
item_causes (Value cell) = []
item_causes NotInRange = Overflow ∷ []
item_causes NotText = OutOfSpec ∷ []

-- what is wrong with an end: it has to be such a value as its column stores, and to have a value in the type
abbrev pub stored_causes : PhysicalType → Conversion → Stored → List Cause
stored_causes type rule stored = if is_stored_as type stored then item_causes (convert rule stored) else ExternalFormat ∷ []

-- the value of an end that is told
abbrev pub end_cell : Conversion → Option Stored → Option Cell
end_cell rule end = option_and_then (λ stored. as_cell (convert rule stored)) end

abbrev pub end_causes : PhysicalType → Conversion → Option Stored → List Cause
end_causes type rule end = option_map_or (stored_causes type rule) end []

-- ---- the ends of a column in a group

abbrev pub statistics_rule : PrimitiveType → DataType → Option Conversion
statistics_rule stored data_type = leaf_conversion stored.physical_type stored.logical_type data_type

abbrev pub cell_ends : Conversion → Ends Stored → Ends Cell
cell_ends rule ends = record {
  null_count = ends.null_count;
  distinct_count = ends.distinct_count;
  min_value = end_cell rule ends.min_value;
  max_value = end_cell rule ends.max_value;
}

abbrev pub causes_of_ends : PhysicalType → Conversion → Ends Stored → List Cause
causes_of_ends type rule ends = end_causes type rule ends.min_value ++ end_causes type rule ends.max_value

-- counts of nulls and of distinct values, without ends
abbrev pub counts_alone : Option ℕ × Option ℕ → Ends Stored
counts_alone counts = record { null_count = counts.0; distinct_count = counts.1; min_value = None; max_value = None }

-- What the statistics of a column tell, where they are well stored: each end has its width, and no count is negative. Where there are none,
-- nothing is told. To one who reads nulls only the counts are.
abbrev pub told_ends : Conversion → ColumnChunkMetaData → Option (Ends Stored)
told_ends Nulls column = option_map counts_alone (counts_of column.statistics_bytes)
told_ends rule column = option_map (λ told. option_map_or stored_ends told (counts_alone (None, None))) (statistics_of (type_of column) column.statistics_bytes)

-- what the statistics tell, by a rule; without a cause
abbrev pub told_cells : Conversion → ColumnChunkMetaData → Option (Ends Cell)
told_cells rule column = option_map (cell_ends rule) (told_ends rule column)

-- The statistics have to be well stored, and each end a value.
abbrev pub told_causes : Conversion → ColumnChunkMetaData → List Cause
told_causes rule column = option_map_or (causes_of_ends (type_of column) rule) (told_ends rule column) (ExternalFormat ∷ [])

-- in a type
abbrev pub group_cells : DataType → ColumnChunkMetaData → Option (Ends Cell)
group_cells data_type column = do
  rule ← statistics_rule column.descriptor.primitive_type data_type
  told_cells rule column

-- The column has to be of a type that is read as this one.
abbrev pub group_causes : DataType → ColumnChunkMetaData → List Cause
group_causes data_type column =
    option_map_or (λ rule. told_causes rule column) (statistics_rule column.descriptor.primitive_type data_type) (NotYetImplemented ∷ [])

-- ---- the ends of its pages

abbrev pub index_rule : PrimitiveType → DataType → Option Conversion
index_rule stored data_type = page_conversion stored.physical_type stored.logical_type data_type

abbrev pub cell_page : Conversion → PageIndex Stored → PageIndex Cell
cell_page rule page = record { min = end_cell rule page.min; max = end_cell rule page.max; null_count = page.null_count }

-- what a column index tells, in a type; without a cause
abbrev pub index_cells : PrimitiveType → DataType → Index → Option (List (PageIndex Cell))
index_cells stored data_type index = option_map (λ rule. map (cell_page rule) (stored_pages index)) (index_rule stored data_type)

-- what is made of each page, with its number
abbrev pub each_made : {T : Type 0} → (ℕ × PageIndex Cell → T) → List (PageIndex Cell) → List T
each_made make pages = map make (enumerate_from 0 pages)

-- A count that is told is not negative, and each end is a value.
abbrev pub causes_of_page : PhysicalType → Conversion → PageIndex Stored → List Cause
causes_of_page type rule page =
    unless (is_some (known_count page.null_count)) ExternalFormat ++ end_causes type rule page.min ++ end_causes type rule page.max

-- ---- ends in arrays

-- the bytes of an end that is a text or a byte string
abbrev pub bytes_of_one_end : Option Cell → ℕ
bytes_of_one_end end = option_map_or cell_bytes end 0

-- The ends on one side are an array of their own, whose bytes have to fit the offsets of its type, of a dictionary type those of its values.
abbrev pub array_causes : DataType → List (Option Cell) → List Cause
array_causes data_type ends = unless (fits_most (most_bytes (value_type data_type)) (sum_by bytes_of_one_end ends)) Overflow

abbrev pub low_of : Ends Cell → Option Cell
low_of ends = ends.min_value

abbrev pub high_of : Ends Cell → Option Cell
high_of ends = ends.max_value

-- the low ends of many groups, and the high ones
abbrev pub group_array_causes : DataType → List (Ends Cell) → List Cause
group_array_causes data_type ends = array_causes data_type (map low_of ends) ++ array_causes data_type (map high_of ends)

abbrev pub low_of_page : PageIndex Cell → Option Cell
low_of_page page = page.min

abbrev pub high_of_page : PageIndex Cell → Option Cell
high_of_page page = page.max

-- the low ends of all pages, and the high ones
abbrev pub page_array_causes : DataType → List (PageIndex Cell) → List Cause
page_array_causes data_type ends = array_causes data_type (map low_of_page ends) ++ array_causes data_type (map high_of_page ends)

-- The column has to be of a type whose pages are read as this one, and each page without a cause, alone and in the arrays.
abbrev pub causes_of_index : PrimitiveType → DataType → Index → List Cause
causes_of_index stored data_type index =
    option_map_or (λ rule. flat_map (causes_of_page stored.physical_type rule) (stored_pages index) ++ page_array_causes data_type (map (cell_page rule) (stored_pages index)))
    (index_rule stored data_type) (NotYetImplemented ∷ [])
