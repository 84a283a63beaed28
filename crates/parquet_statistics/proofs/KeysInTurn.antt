-- The keys of arrays in the shape of a type: a dictionary's alone are asked about.
use Rattle.std.proofs.Common.{◌≡◌, refl, sym, ◌∙◌, ap, Bool, true, false, List, None, Some, Ok, Err}
use Rattle.std.specs.Prelude.{IfOk, Result, is_some}
use Rattle.columns_core.specs.Array.{cells, column_of}
use Rattle.columns_core.specs.DictionaryType.{key_type, key_type_at}
use Rattle.columns_core.specs.Shown.{Shown}
use Rattle.columns_core.specs.Types.{Layer}
use Rattle.columns_core.specs.declared.array.Array.{Array}
use Rattle.columns_core.specs.declared.cell.Cell.{Cell}
use Rattle.columns_core.specs.declared.data_type.DataType.{DataType, List as ListType, LargeList, Struct, Map, out-DataType}
use Rattle.columns_core.specs.declared.data_type.DataType.TheOpen.{DataType-F}
use Rattle.columns_core.specs.declared.data_type.Field.{Field}
use Rattle.columns_core.specs.declared.error.Error.{Error}
use Rattle.parquet_statistics.specs.LeafTypes.{Values}
use Rattle.parquet_statistics.specs.Made.{HasKeysInTurn, dictionary_made, keyed_in, keyed_in_turn, made_array, made_shown}
use Rattle.parquet_statistics.proofs.LayerLemmas.{inside_layer, inside_of, large_out, list_out, map_out, struct_out}

-- a dictionary has as many cells as entries
pub keyed_over : (r : Result Array Error) (data_type own : DataType) (entries : Array) → IfOk r (λ array. column_of array ≡ made_shown (dictionary_made own (made_array entries)))
    → IfOk r (λ array. keyed_in array ≡ Some (keyed_in_turn (cells entries))) → IfOk r (HasKeysInTurn data_type)
keyed_over (Err e) data_type own entries is keyed = tt
keyed_over (Ok array) data_type own entries is keyed = λ asked. keyed ∙ ap (λ (all : List Cell). Some (keyed_in_turn all)) (sym (ap (λ (shown : Shown). shown.1) is))

keyless_at : (layer : Layer) → inside_layer layer ≡ Values → key_type_at layer ≡ None
keyless_at (DataType-F.Dictionary key value ordered) values = absurd cc
keyless_at _ values = refl

not_asked : (data_type : DataType) (r : Result Array Error) → key_type data_type ≡ None → IfOk r (HasKeysInTurn data_type)
not_asked data_type (Err e) none = tt
not_asked data_type (Ok array) none = λ asked. absurd (nothing (sym (ap is_some none) ∙ asked)) where
  nothing : false ≡ true → ⊥
  nothing e = absurd cc

module _ (data_type : DataType) (r : Result Array Error) where
  pub keyless_list : (field : Field) → data_type ≡ ListType field → IfOk r (HasKeysInTurn data_type)
  keyless_list field is = not_asked data_type r (ap key_type is ∙ ap key_type_at (list_out field))

  pub keyless_large : (field : Field) → data_type ≡ LargeList field → IfOk r (HasKeysInTurn data_type)
  keyless_large field is = not_asked data_type r (ap key_type is ∙ ap key_type_at (large_out field))

  pub keyless_map : (field : Field) (is_sorted : Bool) → data_type ≡ Map field is_sorted → IfOk r (HasKeysInTurn data_type)
  keyless_map field is_sorted is = not_asked data_type r (ap key_type is ∙ ap key_type_at (map_out field is_sorted))

  pub keyless_struct : (fields : List Field) → data_type ≡ Struct fields → IfOk r (HasKeysInTurn data_type)
  keyless_struct fields is = not_asked data_type r (ap key_type is ∙ ap key_type_at (struct_out fields))

  pub keyless_values : inside_of data_type ≡ Values → IfOk r (HasKeysInTurn data_type)
  keyless_values values = not_asked data_type r (keyless_at (out-DataType data_type) values)
