use Rattle.std.proofs.Common.{◌≡◌, ◌∙◌, ◌++◌, Bor, List, [], ◌∷◌, ap, map, sym, Ok, Err}
use Rattle.std.specs.Prelude.{OnOk, Result}
use Rattle.std.proofs.lemmas.List.{map-append}
use Rattle.std.specs.Prelude.{flat_map}
use Rattle.columns_core.specs.declared.data_type.DataType.{DataType}
use Rattle.columns_core.specs.declared.data_type.Field.{Field}
use Rattle.parquet_statistics.specs.LeafTypes.{leaf_types}
use Rattle.parquet_statistics.proofs.LayerLemmas.{inside_values, types_of_dictionary, types_of_large, types_of_list, types_of_map, types_of_struct, types_of_values}
use Rattle.parquet_statistics.proofs.types_inside.+push_types.Goals as goal

grown : {T E : Type 0} (r : Result T E) (all front x y : List DataType) → x ≡ y → OnOk r (all ≡ front ++ x) → OnOk r (all ≡ front ++ y)
grown (Ok done) all front x y same pushed = pushed ∙ ap (λ types. front ++ types) same
grown (Err e) all front x y same pushed = tt

pub push_types-returns-in-Dictionary-clause-pushed : goal.push_types-returns-in-Dictionary-clause-pushed
push_types-returns-in-Dictionary-clause-pushed t c =
    grown c.push_types.result _ _ _ _ (ap leaf_types c.get.ensures ∙ sym (types_of_dictionary c.in-Dictionary.field-0 c.in-Dictionary.value c.in-Dictionary.field-2) ∙ ap leaf_types (sym c.in-Dictionary.is)) c.push_types.ensures.pushed

pub push_types-returns-in-List-clause-pushed : goal.push_types-returns-in-List-clause-pushed
push_types-returns-in-List-clause-pushed t c =
    grown c.push_types-in-List.result _ _ _ _ (ap (λ (field : Field). leaf_types field.data_type) c.get-in-List.ensures ∙ sym (types_of_list c.in-List.field) ∙ ap leaf_types (sym c.in-List.is)) c.push_types-in-List.ensures.pushed

pub push_types-returns-in-LargeList-clause-pushed : goal.push_types-returns-in-LargeList-clause-pushed
push_types-returns-in-LargeList-clause-pushed t c =
    grown c.push_types-in-LargeList.result _ _ _ _ (ap (λ (field : Field). leaf_types field.data_type) c.get-in-LargeList.ensures ∙ sym (types_of_large c.in-LargeList.field) ∙ ap leaf_types (sym c.in-LargeList.is)) c.push_types-in-LargeList.ensures.pushed

pub push_types-returns-in-Map-clause-pushed : goal.push_types-returns-in-Map-clause-pushed
push_types-returns-in-Map-clause-pushed t c =
    grown c.push_types-in-Map.result _ _ _ _ (ap (λ (field : Field). leaf_types field.data_type) c.get-in-Map.ensures ∙ sym (types_of_map c.in-Map.field _) ∙ ap leaf_types (sym c.in-Map.is)) c.push_types-in-Map.ensures.pushed

pub push_types-returns-in-Struct-clause-pushed : goal.push_types-returns-in-Struct-clause-pushed
push_types-returns-in-Struct-clause-pushed t c =
    grown c.push_types_of_fields.result _ _ _ _ (ap (flat_map (λ (field : Field). leaf_types field.data_type)) c.as_slice.ensures ∙ sym (types_of_struct c.in-Struct.fields) ∙ ap leaf_types (sym c.in-Struct.is)) c.push_types_of_fields.ensures.pushed

pub push_types-returns-in_ok-push-in_default : goal.push_types-returns-in_ok-push-in_default
push_types-returns-in_ok-push-in_default t c = record {
  pushed = ap (map (λ (data_type : Bor DataType). data_type.now)) c.in_ok-push-in_default.ensures.items
      ∙ map-append (λ (data_type : Bor DataType). data_type.now) c.args.types.now.items (c.args.data_type ∷ [])
      ∙ ap (λ types. map (λ (data_type : Bor DataType). data_type.now) c.args.types.now.items ++ types)
      (sym (types_of_values c.args.data_type.now (inside_values c.args.data_type.now c.in_default.not-Dictionary c.in_default.not-List c.in_default.not-LargeList c.in_default.not-Struct c.in_default.not-Map)));
  memory = tt;
}
