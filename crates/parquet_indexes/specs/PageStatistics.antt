-- What the ends of pages and their counts of nulls are as arrays.
use Rattle.std.specs.Prelude.{◌≡◌, ℕ, ℤ, List, map, Option, option_and_then, unwrap_or}
use Rattle.columns_core.specs.Array.{column_of}
use Rattle.columns_core.specs.Column.{Column}
use Rattle.columns_core.specs.declared.cell.Cell.{Cell, Null}
use Rattle.columns_core.specs.declared.data_type.DataType.{DataType, UInt64}
use Rattle.parquet_meta.specs.Code.{not_negative}
use Rattle.parquet_meta.specs.declared.metadata.PageIndex.{PageIndex}
use Rattle.column_ends.specs.Converted.{low_of_page, high_of_page}
use Rattle.parquet_indexes.specs.declared.page_statistics.ColumnPageStatistics.{ColumnPageStatistics}

-- the cell of an end, null where it is not told
abbrev pub end_slot : Option Cell → Cell
end_slot end = unwrap_or end Null

-- ends as a type and cells
abbrev pub end_column : DataType → List (Option Cell) → DataType × List Cell
end_column data_type ends = (data_type, map end_slot ends)

-- a count of nulls that is told
abbrev pub told_count : Option ℤ → Option ℕ
told_count count = option_and_then not_negative count

abbrev pub nulls_of_page : PageIndex Cell → Option ℕ
nulls_of_page page = told_count page.null_count

abbrev pub count_column : List (PageIndex Cell) → Column ℕ
count_column pages = record { data_type = UInt64; items = map nulls_of_page pages }

-- Three arrays tell of pages in a type: each has a slot for each page, in turn.
pub record AreOfPages (data_type : DataType) (pages : List (PageIndex Cell)) (statistics : ColumnPageStatistics) : Type 0 where
  pub low : column_of statistics.min ≡ end_column data_type (map low_of_page pages)
  pub high : column_of statistics.max ≡ end_column data_type (map high_of_page pages)
  pub nulls : statistics.null_count ≡ count_column pages
