-- All arrays of a column whose iterator has begun.
use Rattle.std.proofs.Common.{◌≡◌, ℕ, Bool, true, false, List, Option, None, Some, arith, inl, refl, subst, sym}
use Rattle.std.specs.Prelude.{IfSome, Ok, Err, if◌then◌else◌}
use Rattle.columns_core.specs.declared.array.Array.{Array}
use Rattle.columns_core.specs.declared.data_type.DataType.{DataType}
use Rattle.columns_core.specs.declared.error.Error.{Error}
use Rattle.parquet_meta.specs.declared.metadata.PhysicalType.{PhysicalType}
use Rattle.page_decoding.specs.Queue.{IsChunkSize}
use Rattle.flat_values.specs.ColumnLeft.{ColumnLeft}
use Rattle.flat_values.specs.Conversion.{Conversion}
use Rattle.flat_binary.specs.Begun.{BeginsColumn, IsRefusedPair, column_left}
use Rattle.flat_binary.specs.Collected.{Collects}
use Rattle.flat_binary.specs.Left.{Supply, converted_left}
use Rattle.flat_binary.specs.NullType.{is_null_type}

-- What holds of a column of nulls and of one whose pages are read holds of a column.
either_way : (P : ColumnLeft → Type 0) (is_null : Bool) (nulls values : ColumnLeft) → P nulls → P values → P (if is_null then nulls else values)
either_way P true nulls values first second = first
either_way P false nulls values first second = second

pub has_size : (physical : PhysicalType) (data_type : DataType) (size : Option ℕ) (num_rows : ℕ) (supply : Supply) (rule : Conversion) → IsChunkSize size → IsChunkSize (column_left physical data_type size num_rows supply rule).size
has_size physical data_type size num_rows supply rule some = either_way (λ left. IsChunkSize left.size) (is_null_type data_type) _ (converted_left physical data_type size num_rows supply rule) some some

pub none_lent : (physical : PhysicalType) (data_type : DataType) (size : Option ℕ) (num_rows : ℕ) (supply : Supply) (rule : Conversion) → supply.lent ≡ 0 → (column_left physical data_type size num_rows supply rule).lent ≡ 0
none_lent physical data_type size num_rows supply rule fresh = either_way (λ left. left.lent ≡ 0) (is_null_type data_type) _ (converted_left physical data_type size num_rows supply rule) refl fresh

module _ {X : Type 0} (left_of : X → ColumnLeft) (left : Conversion → ColumnLeft) where
  -- What an iterator has left holds of what a column has, whatever its conversion is.
  pub begun_has : (P : ColumnLeft → Type 0) (found : Option Conversion) (iter : X) → IfSome found (λ rule. BeginsColumn left_of (left rule) (Ok iter)) → (found ≡ None → IsRefusedPair {X = X} (Ok iter)) → ((rule : Conversion) → P (left rule)) → P (left_of iter)
  begun_has P None iter begins refused all = absurd (refused refl)
  begun_has P (Some rule) iter begins refused all = subst P (sym begins.begun) (all rule)

  -- and the other way round
  pub as_begun : (P : ColumnLeft → Type 0) (found : Option Conversion) (iter : X) → IfSome found (λ rule. BeginsColumn left_of (left rule) (Ok iter)) → P (left_of iter) → IfSome found (λ rule. P (left rule))
  as_begun P None iter begins holds = tt
  as_begun P (Some rule) iter begins holds = subst P begins.begun holds

  -- Where none has begun memory is wanting, and no page was lent.
  pub none_begun : {Y : Type 0} (arrays : Y → List Array) (count : Y → ℕ) (found : Option Conversion) (error : Error) (steps : ℕ) → IfSome found (λ rule. BeginsColumn left_of (left rule) (Err error)) → IfSome found (λ rule. Collects arrays count (left rule) (Err error) steps steps)
  none_begun arrays count None error steps begins = tt
  none_begun arrays count (Some rule) error steps begins = record { collected = tt; cause = inl (inl begins.memory); later = omega arith; counted = tt; lent = tt }
