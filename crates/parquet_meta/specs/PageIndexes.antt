-- The typed ends of pages, by a stored column index.
use Rattle.std.specs.Prelude.{ℕ, ℤ, pos, Bool, true, false, List, [], ◌∷◌, get_or, Option, Some, None, option_map}
use Rattle.parquet_base.specs.Reading.{◌>>=◌}
use Rattle.parquet_meta.specs.StoredEnds.{boolean_end, int32_end, int64_end, int96_end, bytes_end, fixed_end}
use Rattle.parquet_meta.specs.declared.column_index.ColumnIndex.{ColumnIndex}
use Rattle.parquet_meta.specs.declared.metadata.Index.{Index}
use Rattle.parquet_meta.specs.declared.metadata.Index.TheVariants as indexes
use Rattle.parquet_meta.specs.declared.metadata.PageIndex.{PageIndex}
use Rattle.parquet_meta.specs.declared.metadata.PhysicalType.{PhysicalType}
use Rattle.parquet_meta.specs.declared.metadata.PhysicalType.TheVariants as types

-- the count of nulls of a page, where the counts are told
abbrev pub count_at : Option (List ℤ) → ℕ → Option ℤ
count_at counts page = option_map (λ ns. get_or ns page (pos 0)) counts

-- an end of a page: a page of nulls alone has none, whatever is stored for it
abbrev pub page_end : {A : Type 0} → (List ℕ → Option A) → Bool → List ℕ → Option (Option A)
page_end end true bytes = Some None
page_end {A = A} end false bytes = option_map {T = A} {U = Option A} Some (end bytes)

abbrev pub page_index : {A : Type 0} → (List ℕ → Option A) → Bool → List ℕ → List ℕ → Option ℤ → Option (PageIndex A)
page_index end is_null low high nulls = do
  min ← page_end end is_null low
  max ← page_end end is_null high
  Some (record { min = min; max = max; null_count = nulls })

-- the pages in turn; the lists have one length
unfoldable pub pages : {A : Type 0} → (List ℕ → Option A) → List Bool → List (List ℕ) → List (List ℕ) → Option (List ℤ) → Option (List (PageIndex A))
pages end [] [] [] None = Some []
pages end [] [] [] (Some []) = Some []
pages end (is_null ∷ others) (low ∷ lows) (high ∷ highs) None = do
  first ← page_index end is_null low high None
  behind ← pages end others lows highs None
  Some (first ∷ behind)
pages end (is_null ∷ others) (low ∷ lows) (high ∷ highs) (Some (count ∷ counts)) = do
  first ← page_index end is_null low high (Some count)
  behind ← pages end others lows highs (Some counts)
  Some (first ∷ behind)
pages _ _ _ _ _ = None

unfoldable pub page_indexes : {A : Type 0} → (List ℕ → Option A) → ColumnIndex → Option (List (PageIndex A))
page_indexes end index = pages end index.null_pages index.min_values index.max_values index.null_counts

-- the index of a column of this physical type
unfoldable pub typed_index : PhysicalType → ColumnIndex → Option Index
typed_index types.Boolean index = option_map indexes.Boolean (page_indexes boolean_end index)
typed_index types.Int32 index = option_map indexes.Int32 (page_indexes int32_end index)
typed_index types.Int64 index = option_map indexes.Int64 (page_indexes int64_end index)
typed_index types.Int96 index = option_map indexes.Int96 (page_indexes int96_end index)
typed_index types.Float index = None
typed_index types.Double index = None
typed_index types.ByteArray index = option_map indexes.ByteArray (page_indexes bytes_end index)
typed_index (types.FixedLenByteArray width) index = option_map (indexes.FixedLenByteArray width) (page_indexes (fixed_end width) index)
