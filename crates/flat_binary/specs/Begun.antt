-- What is left of a column before its first array is given, and what a call answers that begins to read one.
use Rattle.std.specs.Prelude.{◌≡◌, ℕ, min, if◌then◌else◌, Option, Some, Result, IfErr, IfOk}
use Rattle.std.specs.Result.{IsErrAnd}
use Rattle.columns_core.specs.Causes.{IsWantOfMemory, NotYetImplemented, cause_of}
use Rattle.columns_core.specs.declared.data_type.DataType.{DataType}
use Rattle.columns_core.specs.declared.error.Error.{Error}
use Rattle.parquet_meta.specs.declared.metadata.PhysicalType.{PhysicalType}
use Rattle.flat_values.specs.ColumnLeft.{ColumnLeft}
use Rattle.flat_values.specs.Conversion.{Conversion}
use Rattle.flat_values.specs.NullChunks.{nulls_left}
use Rattle.flat_binary.specs.Left.{Supply, converted_left}
use Rattle.flat_binary.specs.NullType.{is_null_type}

-- All rows of the pages, at most so many, by the conversion of the pair. Nulls are read without pages.
abbrev pub column_left : PhysicalType → DataType → Option ℕ → ℕ → Supply → Conversion → ColumnLeft
column_left physical data_type size num_rows supply rule =
    if is_null_type data_type then nulls_left (record { size = size; rows = min num_rows supply.row_count })
    else converted_left physical data_type size num_rows supply rule

-- The iterator has this left, or memory is wanting.
pub record BeginsColumn {X : Type 0} (left_of : X → ColumnLeft) (left : ColumnLeft) (result : Result X Error) : Type 0 where
  pub begun : IfOk result (λ iter. left_of iter ≡ left)
  pub memory : IfErr result IsWantOfMemory

-- The pair of the types is not carried.
abbrev pub IsRefusedPair : {X : Type 0} → Result X Error → Type 0
IsRefusedPair result = IsErrAnd result (λ error. cause_of error ≡ Some NotYetImplemented)
