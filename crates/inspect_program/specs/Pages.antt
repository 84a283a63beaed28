-- The lines of the pages of a chunk, and what may be wrong with the indexes that they are told from.
use Rattle.std.specs.Prelude.{ℕ, ◌+◌, ◌==◌, ◌&&◌, not, Bool, true, false, List, [], ◌∷◌, ◌++◌, length, zip, flat_map, codes, decimal, is_some, if◌then◌else◌, unwrap_or, Option, option_and_then}
use Rattle.std.specs.Option.{option_map_or}
use Rattle.columns_core.specs.Causes.{Cause, ExternalFormat, and_then, unless}
use Rattle.columns_core.specs.declared.cell.Cell.{Cell}
use Rattle.columns_core.specs.declared.data_type.DataType.{DataType}
use Rattle.column_ends.specs.Converted.{causes_of_index, index_cells}
use Rattle.parquet_base.specs.Reading.{◌>>=◌}
use Rattle.parquet_base.specs.declared.interval.Interval.{Interval}
use Rattle.parquet_meta.specs.Code.{not_negative}
use Rattle.parquet_meta.specs.Indexes.{column_index_length, locations_of, offset_index_length, raw_index, type_of}
use Rattle.parquet_meta.specs.declared.metadata.ColumnChunkMetaData.{ColumnChunkMetaData}
use Rattle.parquet_meta.specs.declared.metadata.PageIndex.{PageIndex}
use Rattle.parquet_meta.specs.declared.metadata.PhysicalType.{PhysicalType}
use Rattle.parquet_meta.specs.declared.metadata.PhysicalType.TheVariants as types
use Rattle.parquet_page.specs.Locations.{page_intervals}
use Rattle.pq_common.specs.CellText.{cell_text}
use Rattle.pq_common.specs.Rows.{line}

-- ---- what is told of values

-- what is known, or a question mark, behind a blank
abbrev pub end_text : Option Cell → List ℕ
end_text end = codes " " ++ option_map_or cell_text end (codes "?")

abbrev pub nulls_text : Option ℕ → List ℕ
nulls_text count = codes " " ++ option_map_or decimal count (codes "?")

-- two ends and a number of nulls
abbrev pub told_text : Option Cell → Option Cell → Option ℕ → List ℕ
told_text low high nulls = end_text low ++ end_text high ++ nulls_text nulls

-- ---- pages

abbrev pub is_fixed : PhysicalType → Bool
is_fixed (types.FixedLenByteArray size) = true
is_fixed type = false

-- A chunk has lines of pages where it has both indexes and stands in this file in the clear, unless it holds fixed bytes.
abbrev pub tells_pages : ColumnChunkMetaData → Bool
tells_pages column =
    is_some column.offset_index && is_some column.column_index
    && not column.foreign && not column.encrypted && not (is_fixed (type_of column))

-- which rows the pages hold, of a group of so many
abbrev pub page_rows : ℕ → List ℕ → ColumnChunkMetaData → Option (List Interval)
page_rows rows bytes column = locations_of bytes column >>= (λ locations. page_intervals locations rows)

-- what the index tells of them, as values of a type
abbrev pub page_cells : DataType → List ℕ → ColumnChunkMetaData → Option (List (PageIndex Cell))
page_cells data_type bytes column = raw_index bytes column >>= index_cells column.descriptor.primitive_type data_type

-- both, of a chunk without a cause
abbrev pub told_pages : ℕ → DataType → List ℕ → ColumnChunkMetaData → List (Interval × PageIndex Cell)
told_pages rows data_type bytes column =
    zip (unwrap_or (page_rows rows bytes column) []) (unwrap_or (page_cells data_type bytes column) [])

abbrev pub page_line : ℕ → Interval × PageIndex Cell → List ℕ
page_line number page =
    line (codes "page " ++ decimal number ++ codes " " ++ decimal (page.0).start ++ codes "+" ++ decimal (page.0).length
    ++ told_text (page.1).min (page.1).max (option_and_then not_negative (page.1).null_count))

abbrev pub pages_text : ℕ → ℕ → DataType → List ℕ → ColumnChunkMetaData → List ℕ
pages_text number rows data_type bytes column =
    if tells_pages column then flat_map (page_line number) (told_pages rows data_type bytes column) else []

-- ---- what may be wrong

-- The offset index has to be spelled, and its pages to divide the rows.
abbrev pub rows_causes : ℕ → List ℕ → ColumnChunkMetaData → List Cause
rows_causes rows bytes column = unless (is_some (page_rows rows bytes column)) ExternalFormat

-- The column index has to be spelled, and each page to be told of without a cause, alone and in the arrays of all ends.
abbrev pub ends_causes : DataType → List ℕ → ColumnChunkMetaData → List Cause
ends_causes data_type bytes column =
    option_map_or (causes_of_index column.descriptor.primitive_type data_type) (raw_index bytes column) (ExternalFormat ∷ [])

abbrev pub length_told : {X : Type 0} → Option (List X) → ℕ
length_told {X} told = option_map_or length told 0

-- Both indexes tell of as many pages.
abbrev pub are_as_many : ℕ → DataType → List ℕ → ColumnChunkMetaData → Bool
are_as_many rows data_type bytes column =
    length_told (page_cells data_type bytes column) == length_told (page_rows rows bytes column)

abbrev pub indexes_causes : ℕ → DataType → List ℕ → ColumnChunkMetaData → List Cause
indexes_causes rows data_type bytes column =
    and_then (rows_causes rows bytes column ++ ends_causes data_type bytes column)
    (unless (are_as_many rows data_type bytes column) ExternalFormat)

abbrev pub pages_causes : ℕ → DataType → List ℕ → ColumnChunkMetaData → List Cause
pages_causes rows data_type bytes column =
    if tells_pages column then indexes_causes rows data_type bytes column else []

-- ---- how much is read

abbrev pub both_indexes_length : ColumnChunkMetaData → ℕ
both_indexes_length column = offset_index_length column + column_index_length column

abbrev pub indexes_length : ColumnChunkMetaData → ℕ
indexes_length column = if tells_pages column then both_indexes_length column else 0
