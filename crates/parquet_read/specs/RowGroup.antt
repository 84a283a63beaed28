-- What is left of a row group that is read.
use Rattle.std.specs.Prelude.{ℕ, ◌-◌, ◌^◌, List, map, min, sum_by, Option, Result}
use Rattle.std.specs.Iterator.{Count, at_most}
use Rattle.flat_values.specs.ColumnLeft.{ColumnLeft}
use Rattle.flat_binary.specs.Layers.{array_left}
use Rattle.parquet_read.specs.ColumnPages.{column_causes, column_count, column_pages, rows_to_lend}
use Rattle.columns_core.specs.declared.array.Array.{Array}
use Rattle.columns_core.specs.declared.error.Error.{Error}
use Rattle.flat_binary.specs.declared.array_iter.ArrayIter.{ArrayIter}
use Rattle.parquet_read.specs.declared.column_pages.ColumnPages.{ColumnPages}
use Rattle.parquet_read.specs.declared.row_group.RowGroupDeserializer.{RowGroupDeserializer}
use Rattle.parquet_read.specs.Rows.{GivesNextRows, GroupLeft}

-- what is left of a column
abbrev pub iter_left : ArrayIter ColumnPages → ColumnLeft
iter_left arrays = array_left column_pages column_causes rows_to_lend column_count arrays

abbrev pub group_left : RowGroupDeserializer → GroupLeft
group_left group = record { columns = map iter_left group.columns.items; num_rows = group.num_rows; wanted = group.wanted }

-- how many pages were lent for all columns
abbrev pub group_lent : RowGroupDeserializer → ℕ
group_lent group = min (sum_by (λ (left : ColumnLeft). left.lent) (group_left group).columns) (2 ^ 64 - 1)

-- the next chunk, over steps of its own
abbrev pub GivesRowsAlone : RowGroupDeserializer → Option (Result (List Array) Error) → RowGroupDeserializer → Type 0
GivesRowsAlone old result new = (steps : ℕ) × GivesNextRows (group_left old) result (group_left new) 0 steps

-- no more chunks than these come
abbrev pub chunks_to_come : RowGroupDeserializer → Count
chunks_to_come group = at_most group.wanted
