-- Builders over empty builders are empty, and what is refused of fields one by one is refused of all.
use Rattle.std.proofs.Common.{◌≡◌, refl, sym, ◌∙◌, ap, subst, ℕ, zero, suc, ◌+◌, ◌<◌, true, false, List, [], ◌∷◌, ◌++◌, length, get_or, map, take, arith}
use Rattle.std.specs.Prelude.{◌==◌, ◌&&◌, not, Option, Some, flat_map}
use Rattle.std.specs.Cmp.{first_so, second_so}
use Rattle.std.specs.Option.{option_map_or}
use Rattle.std.proofs.lemmas.List.{length-map, map-append, take_more}
use Rattle.std.proofs.lemmas.List.Concat.{flat_map-append}
use Rattle.std.proofs.lemmas.List.Folds.{flat_map-map}
use Rattle.columns_core.specs.DictionaryType.{entry_type}
use Rattle.columns_core.specs.Nested.{map_type, field_types}
use Rattle.columns_core.specs.Same.{same_itself}
use Rattle.columns_core.specs.Shown.{Shown}
use Rattle.columns_core.specs.contracts.data_type.DataType.{the_row as data_type_row}
use Rattle.columns_core.specs.declared.data_type.DataType.{DataType}
use Rattle.columns_core.specs.declared.data_type.Field.{Field}
use Rattle.columns_core.specs.declared.error.Error.{Error}
use Rattle.flat_builders.specs.Flat.{Flat as FlatShape, flatness}
use Rattle.parquet_statistics.specs.BuiltTypes.{OfType, are_each, are_empty_of, is_empty_of, is_empty_over, is_flat_shape, is_same_type, item_type, refusals_of_fields, type_refusals}
use Rattle.parquet_statistics.specs.Refusal.{Argument, IsRefusedBy}
use Rattle.parquet_statistics.specs.declared.dyn_mutable.DynMutable.{DynMutable, Flat, Dictionary, List as ListBuilder, Map, Struct}
use Rattle.parquet_statistics.specs.declared.dyn_mutable.DynMutableDictionary.{DynMutableDictionary}
use Rattle.parquet_statistics.specs.declared.dyn_mutable.DynMutableListArray.{DynMutableListArray}
use Rattle.parquet_statistics.specs.declared.dyn_mutable.DynMutableMapArray.{DynMutableMapArray}
use Rattle.parquet_statistics.specs.declared.dyn_mutable.DynMutableStructArray.{DynMutableStructArray}
use Rattle.parquet_statistics.proofs.BuilderLemmas.{empty_dictionary, empty_flat, empty_list, empty_map, empty_struct}
use Rattle.parquet_statistics.proofs.RefusalLemmas.{demand_met, none_of_both, refused_left, refused_right}

same_so : (a b : DataType) → a ≡ b → is_same_type a b ≡ true
same_so a b e = same_itself data_type_row.coded a b e

over_so : (own : DataType) (inner : OfType) (named : Option DataType) (inside data_type : DataType) → own ≡ data_type → named ≡ Some inside → inner inside ≡ true → is_empty_over own inner named data_type ≡ true
over_so own inner named inside data_type e is empty =
    let within = ap (λ (found : Option DataType). option_map_or inner found false) is ∙ empty in
    λ i. same_so own data_type e i && within i

module _ (data_type : DataType) where
  pub flat_so : (builder : Shown) → builder ≡ (data_type, []) → flatness data_type ≡ FlatShape → is_empty_of data_type (Flat builder) ≡ true
  flat_so builder e flat =
      empty_flat builder data_type
      ∙ ap (λ (own : Shown). is_same_type own.0 data_type && is_flat_shape (flatness data_type) && length own.1 == 0) e
      ∙ (λ i. same_so data_type data_type refl i && is_flat_shape (flat i) && true)

  module _ (inside : DataType) (inner : DynMutable) (empty : is_empty_of inside inner ≡ true) where
    pub dictionary_so : (entries : DynMutableDictionary) → entry_type data_type ≡ Some inside → (entries.data_type ≡ data_type) × (entries.inner.value ≡ inner) → is_empty_of data_type (Dictionary entries) ≡ true
    dictionary_so entries named over =
        empty_dictionary entries data_type
        ∙ over_so entries.data_type (λ type. is_empty_of type entries.inner.value) (entry_type data_type) inside data_type over.0 named (ap (is_empty_of inside) over.1 ∙ empty)

    pub list_so : (items : DynMutableListArray) → item_type data_type ≡ Some inside → (items.data_type ≡ data_type) × (items.inner.value ≡ inner) → is_empty_of data_type (ListBuilder items) ≡ true
    list_so items named over =
        empty_list items data_type
        ∙ over_so items.data_type (λ type. is_empty_of type items.inner.value) (item_type data_type) inside data_type over.0 named (ap (is_empty_of inside) over.1 ∙ empty)

    pub map_so : (pairs : DynMutableMapArray) → map_type data_type ≡ Some inside → (pairs.data_type ≡ data_type) × (pairs.inner.value ≡ inner) → is_empty_of data_type (Map pairs) ≡ true
    map_so pairs named over =
        empty_map pairs data_type
        ∙ over_so pairs.data_type (λ type. is_empty_of type pairs.inner.value) (map_type data_type) inside data_type over.0 named (ap (is_empty_of inside) over.1 ∙ empty)

  pub struct_so : (fields : List Field) (builders : List DynMutable) (built : DynMutableStructArray) → field_types data_type ≡ Some (map (λ (field : Field). field.data_type) fields)
      → built.data_type ≡ data_type → built.inner.items ≡ builders → are_empty_of fields builders ≡ true → is_empty_of data_type (Struct built) ≡ true
  struct_so fields builders built named e is empty =
      let each : option_map_or (are_each (map (λ builder type. is_empty_of type builder) built.inner.items)) (field_types data_type) false ≡ true =
      ap (λ (found : Option (List DataType)). option_map_or (are_each (map (λ builder type. is_empty_of type builder) built.inner.items)) found false) named ∙ ap (are_empty_of fields) is ∙ empty in
      empty_struct built data_type ∙ (λ i. same_so built.data_type data_type e i && each i)

-- ---- fields one by one

each_more : (builders : List OfType) (types : List DataType) (builder : OfType) (type : DataType) → are_each builders types ≡ true → builder type ≡ true → are_each (builders ++ builder ∷ []) (types ++ type ∷ []) ≡ true
each_more [] [] builder type e h = λ i. h i && true
each_more [] (t ∷ types) builder type e h = absurd cc
each_more (b ∷ builders) [] builder type e h = absurd cc
each_more (b ∷ builders) (t ∷ types) builder type e h =
    λ i. first_so (b t) (are_each builders types) e i && each_more builders types builder type (second_so (b t) (are_each builders types) e) h i

module _ (fields : List Field) (i : ℕ) (field : Field) (within : i < length fields) (is : field ≡ get_or fields i field) where
  front : take (i + 1) fields ≡ take i fields ++ field ∷ []
  front = take_more fields i field within ∙ ap (λ (own : Field). take i fields ++ own ∷ []) (sym is)

  pub empty_more : (builders : List DynMutable) (builder : DynMutable) → are_empty_of (take i fields) builders ≡ true → is_empty_of field.data_type builder ≡ true → are_empty_of (take (i + 1) fields) (builders ++ builder ∷ []) ≡ true
  empty_more builders builder e h =
      ap (λ (own : List Field). are_empty_of own (builders ++ builder ∷ [])) front
      ∙ (λ k. are_each (map-append (λ builder type. is_empty_of type builder) builders (builder ∷ []) k) (map-append (λ (field : Field). field.data_type) (take i fields) (field ∷ []) k))
      ∙ each_more (map (λ builder type. is_empty_of type builder) builders) (map (λ (field : Field). field.data_type) (take i fields)) (λ type. is_empty_of type builder) field.data_type e h

  pub free_more : flat_map (λ (field : Field). type_refusals field.data_type) (take i fields) ≡ [] → type_refusals field.data_type ≡ [] → flat_map (λ (field : Field). type_refusals field.data_type) (take (i + 1) fields) ≡ []
  free_more e h =
      ap (flat_map (λ (field : Field). type_refusals field.data_type)) front ∙ flat_map-append (λ (field : Field). type_refusals field.data_type) (take i fields) (field ∷ [])
      ∙ (λ k. e k ++ (h k ++ []))

  pub field_refused : (e : Error) → IsRefusedBy (type_refusals field.data_type) e → IsRefusedBy (refusals_of_fields fields) e
  field_refused e refused = refused_right e _ _ (subst (λ refusals. IsRefusedBy refusals e) (sym (flat_map-map (λ refusals. refusals) (λ (field : Field). type_refusals field.data_type) fields)) (any fields i within is)) where
    any : (fields : List Field) (i : ℕ) → i < length fields → field ≡ get_or fields i field → IsRefusedBy (flat_map (λ (field : Field). type_refusals field.data_type) fields) e
    any [] i h is = absurd (omega arith)
    any (first ∷ fields) zero h is = refused_left e _ _ (subst (λ (own : Field). IsRefusedBy (type_refusals own.data_type) e) is refused)
    any (first ∷ fields) (suc i) h is = refused_right e (type_refusals first.data_type) _ (any fields i (omega arith) is)

not_none : (n : ℕ) → 0 < n → not (n == 0) ≡ true
not_none n h = grind (arith, h)

pub some_free : (fields : List Field) → 0 < length fields → flat_map (λ (field : Field). type_refusals field.data_type) fields ≡ [] → refusals_of_fields fields ≡ []
some_free fields some e =
    let long = length-map fields (λ (field : Field). type_refusals field.data_type) in
    none_of_both _ _ (demand_met _ Argument (not_none (length (map (λ (field : Field). type_refusals field.data_type) fields)) (omega (arith, some, long))))
    (flat_map-map (λ refusals. refusals) (λ (field : Field). type_refusals field.data_type) fields ∙ e)
