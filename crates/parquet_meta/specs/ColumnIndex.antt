-- A column index as it is stored: for each page whether it is a page of nulls alone, its ends and its count of nulls.
use Rattle.std.specs.Prelude.{ℕ, ℤ, Bool, true, ◌&&◌, ◌==◌, List, length, Option, Some, None, if◌then◌else◌}
use Rattle.std.specs.Option.{option_map_or}
use Rattle.parquet_base.specs.Reading.{◌>>=◌, given}
use Rattle.parquet_meta.specs.Front.{value_in}
use Rattle.parquet_meta.specs.Meaning.{Rule, Field, i64, byte_string, truth_element, struct_of, list_of, is_id, setting, passing, made}
use Rattle.parquet_meta.specs.declared.column_index.ColumnIndex.{ColumnIndex}
use Rattle.parquet_meta.specs.declared.column_index.ColumnIndexFields.{ColumnIndexFields}

-- ColumnIndex: 1 null_pages, 2 min_values, 3 max_values, all required; 5 null_counts
unfoldable pub column_index_field : Field ColumnIndexFields
column_index_field s id =
    if is_id id 1 then setting (λ xs. record s { null_pages = Some xs }) (list_of truth_element)
    else (if is_id id 2 then setting (λ xs. record s { min_values = Some xs }) (list_of byte_string)
    else (if is_id id 3 then setting (λ xs. record s { max_values = Some xs }) (list_of byte_string)
    else (if is_id id 5 then setting (λ xs. record s { null_counts = Some xs }) (list_of i64)
    else passing s)))

-- the lists have an entry for each page
abbrev pub has_one_length : ColumnIndex → Bool
has_one_length index =
    let pages = length index.null_pages in
    length index.min_values == pages && length index.max_values == pages && option_map_or (λ counts. length counts == pages) index.null_counts true

abbrev pub index_with : List Bool → List (List ℕ) → List (List ℕ) → Option (List ℤ) → ColumnIndex
index_with nulls lows highs counts = record { null_pages = nulls; min_values = lows; max_values = highs; null_counts = counts }

unfoldable pub column_index_of : ColumnIndexFields → Option ColumnIndex
column_index_of s = do
  nulls ← s.null_pages
  lows ← s.min_values
  highs ← s.max_values
  given (has_one_length (index_with nulls lows highs s.null_counts)) (index_with nulls lows highs s.null_counts)

unfoldable pub column_index : Rule ColumnIndex
column_index = made (struct_of column_index_field (record { null_pages = None; min_values = None; max_values = None; null_counts = None })) column_index_of

-- the column index that the bytes begin with; bytes after it are passed over
unfoldable pub column_index_in : List ℕ → Option ColumnIndex
column_index_in = value_in column_index
