-- What is left at first of a column of keys, by a reader of its entries.
use Rattle.std.proofs.Common.{◌≡◌, ◌∙◌, ℕ, Bool, true, false, List, Option, Some, None, ap, ap₂, refl, sym, subst}
use Rattle.std.specs.Prelude.{IfSome, Result, Ok, is_some, option_and_then, option_map}
use denote.Hole.Carrier
use Rattle.columns_core.specs.Causes.{Cause}
use Rattle.columns_core.specs.DictionaryType.{entry_type, entry_type_at, key_type, key_type_at}
use Rattle.columns_core.specs.Types.{Layer, value_type_at}
use Rattle.columns_core.specs.declared.cell.Cell.{Cell}
use Rattle.columns_core.specs.declared.data_type.DataType.{DataType, out-DataType}
use Rattle.columns_core.specs.declared.data_type.DataType as type
use Rattle.columns_core.specs.declared.data_type.DataType.TheBlock
use Rattle.columns_core.specs.declared.data_type.DataType.TheOpen.{DataType-F}
use Rattle.columns_core.specs.declared.data_type.IntegerType.{IntegerType}
use Rattle.columns_core.specs.declared.error.Error.{Error}
use Rattle.parquet_meta.specs.declared.metadata.PhysicalType.{PhysicalType}
use Rattle.parquet_meta.specs.declared.metadata.PrimitiveLogicalType.{PrimitiveLogicalType}
use Rattle.parquet_page.specs.Content.{DictContent}
use Rattle.flat_values.specs.ColumnLeft.{ColumnLeft, Decoding}
use Rattle.flat_values.specs.Conversion.{Conversion}
use Rattle.flat_values.specs.MostBytes.{most_bytes, most_bytes_at}
use Rattle.flat_values.specs.Outcomes.{fitted_by}
use Rattle.flat_values.specs.Pairs.{entry_from_physical}
use Rattle.dictionary_values.specs.DictLeft.{keys_decoding}
use Rattle.dictionary_values.specs.Keys.{keys_of}
use Rattle.flat_binary.specs.Decoding.{column_decoding, entry_conversion, outcomes_by}
use Rattle.flat_binary.specs.Left.{Supply, converted_left, decoded_left}
use Rattle.flat_binary.specs.NullType.{is_null_at, is_null_type}
use Rattle.flat_binary.specs.Begun.{BeginsColumn}
use Rattle.flat_binary.specs.EntryReaders.{Reader, ReadsEntries, entries_read}

-- ---- a dictionary type by its constructor

dictionary_out : (key : IntegerType) (value : DataType) (ordered : Bool) → out-DataType (type.Dictionary key value ordered) ≡ DataType-F.Dictionary key value ordered
unfolding type.out-DataType denote.Hole.Carrier.out Rattle.columns_core.specs.declared.data_type.DataType.TheBlock.shown-the_row-DataType-0 denote.Hole.Carrier.shown denote.Hole.Carrier.hidden
dictionary_out key value ordered = refl

pub key_named : (data_type : DataType) (key : IntegerType) (value : DataType) (ordered : Bool) → data_type ≡ type.Dictionary key value ordered → key_type data_type ≡ Some key
key_named data_type key value ordered is = ap key_type_at (ap out-DataType is ∙ dictionary_out key value ordered)

pub entry_named : (data_type : DataType) (key : IntegerType) (value entry : DataType) (ordered : Bool) → data_type ≡ type.Dictionary key value ordered → entry ≡ value → entry_type data_type ≡ Some entry
entry_named data_type key value entry ordered is same = ap entry_type_at (ap out-DataType is ∙ dictionary_out key value ordered) ∙ ap (λ (d : DataType). Some d) (sym same)

pub is_keyed : (data_type : DataType) (key : IntegerType) (value : DataType) (ordered : Bool) → data_type ≡ type.Dictionary key value ordered → is_some (key_type data_type) ≡ true
is_keyed data_type key value ordered is = ap (λ (o : Option IntegerType). is_some o) (key_named data_type key value ordered is)

pub is_not_null : (data_type : DataType) (key : IntegerType) (value : DataType) (ordered : Bool) → data_type ≡ type.Dictionary key value ordered → is_null_type data_type ≡ false
is_not_null data_type key value ordered is = ap is_null_at (ap out-DataType is ∙ dictionary_out key value ordered)

-- ---- what is left

-- A column of keys is decoded by what its reader reads.
keys_decoded : (physical : PhysicalType) (data_type : DataType) (rule : Conversion) (key : IntegerType) (entry : DataType) (read : DictContent → Result (List Cell) (List Cause))
    → key_type data_type ≡ Some key → entry_type data_type ≡ Some entry → read ≡ fitted_by (most_bytes entry) rule physical → keys_decoding read (keys_of key) ≡ column_decoding physical data_type rule
keys_decoded physical data_type rule key entry read keyed entries same = by (out-DataType data_type) keyed entries where
  by : (layer : Layer) → key_type_at layer ≡ Some key → entry_type_at layer ≡ Some entry
      → keys_decoding read (keys_of key)
      ≡ (let own : Decoding = record { entries = fitted_by (most_bytes (value_type_at data_type layer)) rule physical; outcomes = outcomes_by (option_map keys_of (key_type_at layer)) rule; most_bytes = most_bytes_at layer } in own)
  by (DataType-F.Dictionary own value ordered) keyed entries =
      let k : key ≡ own = cc in
      let v : entry ≡ value = cc in
      ap₂ (λ (r : DictContent → Result (List Cell) (List Cause)) (n : ℕ). keys_decoding r n) (same ∙ ap (λ (d : DataType). fitted_by (most_bytes d) rule physical) v) (ap keys_of k)
  by layer keyed entries = absurd cc

-- So all of it is left.
pub keys_begin : {X : Type 0} (left_of : X → ColumnLeft) (physical : PhysicalType) (logical : Option PrimitiveLogicalType) (data_type : DataType) (size : Option ℕ) (rows : ℕ) (supply : Supply) (key : IntegerType) (entry : DataType) (reader : Reader) (result : Result X Error)
    → key_type data_type ≡ Some key → entry_type data_type ≡ Some entry → IfSome (entry_from_physical physical logical (out-DataType entry)) (λ rule. ReadsEntries physical entry rule (Ok reader))
    → BeginsColumn left_of (decoded_left (keys_decoding (entries_read reader) (keys_of key)) data_type size rows supply) result
    → IfSome (entry_conversion (entry_from_physical physical logical) data_type) (λ rule. BeginsColumn left_of (converted_left physical data_type size rows supply rule) result)
keys_begin left_of physical logical data_type size rows supply key entry reader result keyed entries reads begins =
    let table = λ (value : DataType). entry_from_physical physical logical (out-DataType value) in
    let is : entry_conversion (entry_from_physical physical logical) data_type ≡ table entry = ap (λ (o : Option DataType). option_and_then table o) entries in
    subst (λ (o : Option Conversion). IfSome o (λ rule. BeginsColumn left_of (converted_left physical data_type size rows supply rule) result)) (sym is) (by (table entry) reads) where
      by : (found : Option Conversion) → IfSome found (λ rule. ReadsEntries physical entry rule (Ok reader)) → IfSome found (λ rule. BeginsColumn left_of (converted_left physical data_type size rows supply rule) result)
      by None reads = tt
      by (Some rule) reads =
          subst (λ (d : Decoding). BeginsColumn left_of (decoded_left d data_type size rows supply) result) (keys_decoded physical data_type rule key entry (entries_read reader) keyed entries reads.entries) begins
