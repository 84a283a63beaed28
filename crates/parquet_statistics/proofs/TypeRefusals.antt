-- Why there is no builder of a type, by its outermost constructor.
use Rattle.std.proofs.Common.{◌≡◌, refl, sym, ◌∙◌, ap, subst, Bool, true, false, List, [], ◌∷◌, map, inl, inr}
use Rattle.std.specs.Prelude.{◌⊎◌, ◌==◌, not, if◌then◌else◌, Some}
use Rattle.columns_core.specs.Causes.{IsWantOfMemory, NotYetImplemented}
use Rattle.columns_core.specs.Types.{Layer}
use Rattle.columns_core.specs.declared.data_type.DataType.{DataType, Dictionary, List as ListType, LargeList, Struct, Map, fold_out-DataType, map-DataType, out-DataType, roll-out-DataType, roll-DataType}
use Rattle.columns_core.specs.declared.data_type.DataType.TheOpen.{DataType-F}
use denote.Hole.Carrier
use Rattle.columns_core.specs.declared.data_type.DataType.TheViews
use Rattle.columns_core.specs.declared.data_type.DataType.TheVariants.{rolls-Dictionary, rolls-List, rolls-LargeList, rolls-Struct, rolls-Map}
use Rattle.columns_core.specs.declared.data_type.Field.{Field, fold-Field, fold_out-Field}
use Rattle.columns_core.specs.declared.data_type.IntegerType.{IntegerType}
use Rattle.columns_core.specs.declared.error.Error.{Error}
use Rattle.columns_core.specs.DictionaryType.{entry_type, entry_type_at}
use Rattle.columns_core.specs.Nested.{map_type, map_type_at, field_types, field_types_at, list_type_at}
use Rattle.flat_builders.specs.Flat.{Flat, Sizeless, flatness, flatness_at}
use Rattle.flat_builders.specs.Kept.{IsRefusedType}
use Rattle.parquet_statistics.specs.BuiltTypes.{item_type, is_large_list_at, refusals_of_all, refusals_of_field, refusals_of_fields, type_refusals, type_refusals_at}
use Rattle.parquet_statistics.specs.Refusal.{Refusal, Caused, IsRefusedBy, demand}
use Rattle.parquet_statistics.proofs.LayerLemmas.{dictionary_out, large_out, list_out, map_out, struct_out}
use Rattle.parquet_statistics.proofs.RefusalLemmas.{first_refusal, refused_cause}

abbrev Refusals : Type 0
Refusals = List Refusal

abbrev inside : Field → Refusals
inside = fold-Field Refusals Refusals type_refusals_at refusals_of_field

inside_is : (field : Field) → inside field ≡ type_refusals field.data_type
unfolding type_refusals
inside_is field = fold_out-Field Refusals Refusals type_refusals_at refusals_of_field field

each_inside : (fields : List Field) → map inside fields ≡ map (λ (field : Field). type_refusals field.data_type) fields
each_inside [] = refl
each_inside (field ∷ fields) = λ i. inside_is field i ∷ each_inside fields i

abbrev pub refusals_here : Layer → Refusals
refusals_here (DataType-F.Dictionary key value ordered) = type_refusals value
refusals_here (DataType-F.List field) = type_refusals field.data_type
refusals_here (DataType-F.LargeList field) = type_refusals field.data_type
refusals_here (DataType-F.Map field is_sorted) = type_refusals field.data_type
refusals_here (DataType-F.Struct fields) = refusals_of_fields fields
refusals_here (DataType-F.FixedSizeBinary size) = demand (not (size == 0)) (Caused NotYetImplemented)
refusals_here _ = []

refusals_at : (layer : Layer) → type_refusals_at (map-DataType DataType Field Refusals Refusals type_refusals inside layer) ≡ refusals_here layer
refusals_at (DataType-F.Dictionary key value ordered) = refl
refusals_at (DataType-F.List field) = inside_is field
refusals_at (DataType-F.LargeList field) = inside_is field
refusals_at (DataType-F.Map field is_sorted) = inside_is field
refusals_at (DataType-F.Struct fields) = ap refusals_of_all (each_inside fields)
refusals_at (DataType-F.FixedSizeBinary size) = refl
refusals_at _ = refl

pub refusals_out : (data_type : DataType) → type_refusals data_type ≡ refusals_here (out-DataType data_type)
unfolding type_refusals
refusals_out data_type = fold_out-DataType Refusals Refusals type_refusals_at refusals_of_field data_type ∙ refusals_at (out-DataType data_type)

-- ---- by the constructor of a type

module _ (key : IntegerType) (value : DataType) (ordered : Bool) where
  pub refusals_of_dictionary : type_refusals (Dictionary key value ordered) ≡ type_refusals value
  refusals_of_dictionary = refusals_out (Dictionary key value ordered) ∙ ap refusals_here (dictionary_out key value ordered)

  pub entry_of_dictionary : entry_type (Dictionary key value ordered) ≡ Some value
  entry_of_dictionary = ap entry_type_at (dictionary_out key value ordered)

module _ (field : Field) where
  pub refusals_of_list : type_refusals (ListType field) ≡ type_refusals field.data_type
  refusals_of_list = refusals_out (ListType field) ∙ ap refusals_here (list_out field)

  pub item_of_list : item_type (ListType field) ≡ Some field.data_type
  item_of_list = ap (λ (layer : Layer). list_type_at (is_large_list_at layer) layer) (list_out field)

  pub refusals_of_large : type_refusals (LargeList field) ≡ type_refusals field.data_type
  refusals_of_large = refusals_out (LargeList field) ∙ ap refusals_here (large_out field)

  pub item_of_large : item_type (LargeList field) ≡ Some field.data_type
  item_of_large = ap (λ (layer : Layer). list_type_at (is_large_list_at layer) layer) (large_out field)

  module _ (is_sorted : Bool) where
    pub refusals_of_map : type_refusals (Map field is_sorted) ≡ type_refusals field.data_type
    refusals_of_map = refusals_out (Map field is_sorted) ∙ ap refusals_here (map_out field is_sorted)

    pub pairs_of_map : map_type (Map field is_sorted) ≡ Some field.data_type
    pairs_of_map = ap map_type_at (map_out field is_sorted)

module _ (fields : List Field) where
  pub refusals_of_struct : type_refusals (Struct fields) ≡ refusals_of_fields fields
  refusals_of_struct = refusals_out (Struct fields) ∙ ap refusals_here (struct_out fields)

  pub fields_of_struct : field_types (Struct fields) ≡ Some (map (λ (field : Field). field.data_type) fields)
  fields_of_struct = ap field_types_at (struct_out fields)

-- ---- any other type

sized_flat : (none : Bool) → (if none then Sizeless else Flat) ≡ Flat → demand (not none) (Caused NotYetImplemented) ≡ []
sized_flat false e = refl
sized_flat true e = absurd cc

-- a flat type is not refused
flat_free : (layer : Layer) → flatness_at layer ≡ Flat → refusals_here layer ≡ []
flat_free (DataType-F.Dictionary key value ordered) e = absurd cc
flat_free (DataType-F.List field) e = absurd cc
flat_free (DataType-F.LargeList field) e = absurd cc
flat_free (DataType-F.Map field is_sorted) e = absurd cc
flat_free (DataType-F.Struct fields) e = absurd cc
flat_free (DataType-F.FixedSizeBinary size) e = sized_flat (size == 0) e
flat_free _ e = refl

pub flat_is_free : (data_type : DataType) → flatness data_type ≡ Flat → type_refusals data_type ≡ []
flat_is_free data_type e = refusals_out data_type ∙ flat_free (out-DataType data_type) e

sized_refused : (e : Error) (none : Bool) → IsRefusedType (if none then Sizeless else Flat) e → IsRefusedBy (demand (not none) (Caused NotYetImplemented)) e
sized_refused e false memory = inl memory
sized_refused e true cause = refused_cause e (Caused NotYetImplemented ∷ []) NotYetImplemented cause (first_refusal (Caused NotYetImplemented) [])

module _ (data_type : DataType) (no_dictionary : (key : IntegerType) (value : DataType) (ordered : Bool) → data_type ≡ Dictionary key value ordered → ⊥) (no_list : (field : Field) → data_type ≡ ListType field → ⊥)
    (no_large : (field : Field) → data_type ≡ LargeList field → ⊥) (no_struct : (fields : List Field) → data_type ≡ Struct fields → ⊥) (no_map : (field : Field) (is_sorted : Bool) → data_type ≡ Map field is_sorted → ⊥) where
  rolled : (layer : Layer) → out-DataType data_type ≡ layer → data_type ≡ roll-DataType layer
  rolled layer e = sym (roll-out-DataType data_type) ∙ ap roll-DataType e

  flat_by : (e : Error) (layer : Layer) → out-DataType data_type ≡ layer → IsRefusedType (flatness_at layer) e → IsRefusedBy (refusals_here layer) e
  unfolding Rattle.columns_core.specs.declared.data_type.DataType.TheViews.roll-DataType out-DataType denote.Hole.Carrier.roll
  flat_by e (DataType-F.Dictionary key value ordered) is refused = absurd (no_dictionary key value ordered (rolled (DataType-F.Dictionary key value ordered) is ∙ sym (rolls-Dictionary key value ordered)))
  flat_by e (DataType-F.List field) is refused = absurd (no_list field (rolled (DataType-F.List field) is ∙ sym (rolls-List field)))
  flat_by e (DataType-F.LargeList field) is refused = absurd (no_large field (rolled (DataType-F.LargeList field) is ∙ sym (rolls-LargeList field)))
  flat_by e (DataType-F.Struct fields) is refused = absurd (no_struct fields (rolled (DataType-F.Struct fields) is ∙ sym (rolls-Struct fields)))
  flat_by e (DataType-F.Map field is_sorted) is refused = absurd (no_map field is_sorted (rolled (DataType-F.Map field is_sorted) is ∙ sym (rolls-Map field is_sorted)))
  flat_by e (DataType-F.FixedSizeBinary size) is refused = sized_refused e (size == 0) refused
  flat_by e _ is refused = inl refused

  -- a type that is none of these is refused as a flat one
  flat_refused : (e : Error) → IsRefusedType (flatness data_type) e → IsRefusedBy (type_refusals data_type) e
  flat_refused e refused = subst (λ refusals. IsRefusedBy refusals e) (sym (refusals_out data_type)) (flat_by e (out-DataType data_type) refl refused)

  pub flat_or_memory : (e : Error) → IsWantOfMemory e ⊎ IsRefusedType (flatness data_type) e → IsRefusedBy (type_refusals data_type) e
  flat_or_memory e (inl memory) = inl memory
  flat_or_memory e (inr refused) = flat_refused e refused
