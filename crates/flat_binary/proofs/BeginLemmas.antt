-- What is left of a column at first, as its iterator has it.
use Rattle.std.proofs.Common.{◌≡◌, ℕ, false, true, Option, Some, None, ap, refl, sym, subst}
use Rattle.std.specs.Prelude.{IfSome, Result, is_some, option_and_then}
use Rattle.columns_core.specs.DictionaryType.{entry_type_at, key_type, key_type_at}
use Rattle.columns_core.specs.Types.{Layer}
use Rattle.columns_core.specs.declared.data_type.DataType.{DataType, out-DataType}
use Rattle.columns_core.specs.declared.data_type.DataType.TheOpen.{DataType-F}
use Rattle.columns_core.specs.declared.data_type.IntegerType.{IntegerType}
use Rattle.columns_core.specs.declared.error.Error.{Error}
use Rattle.parquet_meta.specs.declared.metadata.PhysicalType.{PhysicalType}
use Rattle.parquet_meta.specs.declared.metadata.PrimitiveLogicalType.{PrimitiveLogicalType}
use Rattle.parquet_meta.specs.declared.metadata.PrimitiveType.{PrimitiveType}
use Rattle.flat_values.specs.ColumnLeft.{ColumnLeft}
use Rattle.flat_values.specs.Conversion.{Conversion}
use Rattle.flat_values.specs.Pairs.{conversion, conversion_at, entry_from_physical, from_physical, is_repeated}
use Rattle.flat_binary.specs.Left.{Supply, converted_left}
use Rattle.flat_binary.specs.Decoding.{entry_conversion}
use Rattle.flat_binary.specs.NullType.{is_null_at, is_null_type}
use Rattle.flat_binary.specs.Begun.{BeginsColumn, column_left}

-- A type that is no dictionary's and not that of nulls has the conversion of values.
pub values_rule : (physical : PhysicalType) (logical : Option PrimitiveLogicalType) (data_type : DataType) → is_null_type data_type ≡ false → key_type data_type ≡ None → conversion_at physical logical (out-DataType data_type) ≡ from_physical physical logical (out-DataType data_type)
values_rule physical logical data_type some flat = by (out-DataType data_type) some flat where
  by : (layer : Layer) → is_null_at layer ≡ false → key_type_at layer ≡ None → conversion_at physical logical layer ≡ from_physical physical logical layer
  by DataType-F.Null some flat = absurd cc
  by (DataType-F.Dictionary key value ordered) some flat = absurd cc
  by layer some flat = refl

-- A dictionary type has that of its entries.
pub keys_rule : (physical : PhysicalType) (logical : Option PrimitiveLogicalType) (data_type : DataType) → is_some (key_type data_type) ≡ true
    → conversion_at physical logical (out-DataType data_type) ≡ entry_conversion (entry_from_physical physical logical) data_type
keys_rule physical logical data_type keyed = by (out-DataType data_type) keyed where
  by : (layer : Layer) → is_some (key_type_at layer) ≡ true → conversion_at physical logical layer ≡ option_and_then (λ value. entry_from_physical physical logical (out-DataType value)) (entry_type_at layer)
  by (DataType-F.Dictionary key value ordered) keyed = refl
  by layer keyed = absurd cc

-- What is known of the pages of a column of keys.
pub known_of_keys : {P : Type 0} (key : Option IntegerType) → is_some key ≡ true → IfSome key (λ _. P) → P
known_of_keys None keyed known = absurd cc
known_of_keys (Some key) keyed known = known

-- The conversion of a column that is not repeated.
pub one_rule : (stored : PrimitiveType) (unit : Option PrimitiveLogicalType) (data_type : DataType) → is_repeated stored.repetition ≡ false → unit ≡ stored.logical_type
    → conversion stored data_type ≡ conversion_at stored.physical_type unit (out-DataType data_type)
one_rule stored unit data_type once is = rw once (ap (λ (unit : Option PrimitiveLogicalType). conversion_at stored.physical_type unit (out-DataType data_type)) (sym is))

-- Its pages are read.
pub values_left : (physical : PhysicalType) (data_type : DataType) (size : Option ℕ) (num_rows : ℕ) (supply : Supply) (rule : Conversion) → is_null_type data_type ≡ false
    → converted_left physical data_type size num_rows supply rule ≡ column_left physical data_type size num_rows supply rule
values_left physical data_type size num_rows supply rule some = rw some refl

-- The same may be said in other words.
pub renamed : {X : Type 0} (left_of : X → ColumnLeft) (fresh own : Conversion → ColumnLeft) → ((rule : Conversion) → fresh rule ≡ own rule) → (result : Result X Error) (found other : Option Conversion) → other ≡ found
    → IfSome found (λ rule. BeginsColumn left_of (fresh rule) result) → IfSome other (λ rule. BeginsColumn left_of (own rule) result)
renamed left_of fresh own same result found other is begins =
    subst (λ (o : Option Conversion). IfSome o (λ rule. BeginsColumn left_of (own rule) result)) (sym is) (by found begins) where
      by : (found : Option Conversion) → IfSome found (λ rule. BeginsColumn left_of (fresh rule) result) → IfSome found (λ rule. BeginsColumn left_of (own rule) result)
      by None begins = tt
      by (Some rule) begins = subst (λ (left : ColumnLeft). BeginsColumn left_of left result) (same rule) begins
