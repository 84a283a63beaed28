-- What is left of a column of texts or byte strings that is read in arrays.
use Rattle.std.specs.Prelude.{ℕ, List, Option, Some, Result}
use Rattle.std.specs.Iterator.{Count}
use Rattle.columns_core.specs.Array.{cells, data_type_of}
use Rattle.columns_core.specs.Causes.{Cause}
use Rattle.columns_core.specs.declared.array.Array.{Array}
use Rattle.columns_core.specs.declared.error.Error.{Error}
use Rattle.parquet_meta.specs.declared.metadata.PhysicalType.TheVariants.{ByteArray}
use Rattle.parquet_page.specs.Content.{Content}
use Rattle.flat_values.specs.Arrays.{flat_left}
use Rattle.flat_values.specs.ColumnLeft.{ColumnLeft, GivesArray, arrays_at_most}
use Rattle.binary_values.specs.ByteStrings.{byte_rule}
use Rattle.binary_values.specs.declared.binary.Iter.{Iter}

module _ {O I : Type 0} (greatest : ℕ) (to_come : I → List Content) (causes : I → List Cause) (row_count lent_count : I → ℕ) where
  abbrev pub bytes_left : Iter O I → ColumnLeft
  bytes_left iter =
      flat_left (λ _. Some greatest) (λ values. byte_rule values.is_text) (λ _. ByteArray) to_come causes row_count lent_count
      iter.arrays.data_type iter.arrays.chunks

  -- the next array, over steps of its own
  abbrev pub GivesBytes : Iter O I → Option (Result Array Error) → Iter O I → Type 0
  GivesBytes old result new = GivesArray data_type_of cells (bytes_left old) result (bytes_left new)

  -- how many arrays come at most
  abbrev pub most_arrays : Iter O I → Count
  most_arrays iter = arrays_at_most (bytes_left iter)
