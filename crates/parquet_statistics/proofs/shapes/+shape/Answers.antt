use Rattle.std.proofs.Common.{◌∙◌, ◌+◌, refl, List, ap, drop, length, map, subst, sym}
use Rattle.std.proofs.lemmas.List.{drop_all}
use Rattle.std.proofs.lemmas.Result.{err_from_is_err_and}
use Rattle.columns_core.specs.Array.{cells, data_type_of}
use Rattle.columns_core.specs.declared.data_type.Field.{Field}
use Rattle.parquet_meta.proofs.ListLemmas.{item_and_others}
use Rattle.parquet_statistics.specs.Made.{dictionary_made, list_made, made_array, map_made}
use Rattle.parquet_statistics.specs.LeafTypes.{leaf_types}
use Rattle.parquet_statistics.specs.Parts.{AreOfTypes, AreShapesRefused, shaped_each}
use Rattle.parquet_statistics.proofs.ShapeLemmas.{on_ok}
use Rattle.parquet_statistics.proofs.KeysInTurn.{keyless_large, keyless_list, keyless_map, keyless_struct, keyless_values}
use Rattle.parquet_statistics.proofs.LayerLemmas.{inside_values, type_of_field, types_inside}
use Rattle.parquet_statistics.proofs.ShapeSteps.{all_made, and_these, array_over, field_leads, field_refused, leads_fields, leads_first, leads_inside, left_fields, left_inside, next_leads, next_left, next_made, over_dictionary, over_large, over_list, over_map, refused_fields, refused_inside, refused_over, struct_array, struct_refused, these_none, values_array, values_left, values_refused}
use Rattle.parquet_statistics.proofs.shapes.+shape.Goals as goal

pub shape-returns-in_err-entries-in-Dictionary-clause-err : goal.shape-returns-in_err-entries-in-Dictionary-clause-err
shape-returns-in_err-entries-in-Dictionary-clause-err t c =
    let p = err_from_is_err_and c.from_residual.result c.from_residual.ensures.1 in
    λ leads. rw (p.1, p.2) (refused_inside c.args.data_type.now c.get.result.now (dictionary_made c.args.data_type.now) (over_dictionary c.args.data_type.now c.get.result.now c.in-Dictionary.field-0 c.in-Dictionary.value c.in-Dictionary.field-2 c.in-Dictionary.is c.get.ensures) c.args.columns.now.items c.args.columns.now.items c.in_err-entries-in-Dictionary.field-0.0 (c.in_err-entries-in-Dictionary.ensures.err (leads_inside c.args.data_type.now c.get.result.now (dictionary_made c.args.data_type.now) (over_dictionary c.args.data_type.now c.get.result.now c.in-Dictionary.field-0 c.in-Dictionary.value c.in-Dictionary.field-2 c.in-Dictionary.is c.get.ensures) c.args.columns.now.items c.args.columns.now.items leads)))

pub shape-returns-in_ok-entries-in-Dictionary : goal.shape-returns-in_ok-entries-in-Dictionary
shape-returns-in_ok-entries-in-Dictionary t c =
    let over = (over_dictionary c.args.data_type.now c.get.result.now c.in-Dictionary.field-0 c.in-Dictionary.value c.in-Dictionary.field-2 c.in-Dictionary.is c.get.ensures) in
    let before = c.args.columns.now.items in
    let after = c.shape.new.columns.items in
    record {
      array = λ leads. array_over c.args.data_type.now c.get.result.now (dictionary_made c.args.data_type.now) over before after c.in_ok-entries-in-Dictionary.entries (c.in_ok-entries-in-Dictionary.ensures.array (leads_inside c.args.data_type.now c.get.result.now (dictionary_made c.args.data_type.now) over before after leads)) c.dictionary_over.result c.dictionary_over.ensures.array;
      keys = c.dictionary_over.ensures.keys;
      rest = on_ok c.dictionary_over.result _ (left_inside c.args.data_type.now c.get.result.now (dictionary_made c.args.data_type.now) over before after c.in_ok-entries-in-Dictionary.ensures.rest);
      err = λ leads. refused_over c.args.data_type.now c.get.result.now (dictionary_made c.args.data_type.now) over before after c.in_ok-entries-in-Dictionary.entries (c.in_ok-entries-in-Dictionary.ensures.array (leads_inside c.args.data_type.now c.get.result.now (dictionary_made c.args.data_type.now) over before after leads)) c.dictionary_over.result c.dictionary_over.ensures.err;
    }

pub shape-returns-in_err-items-in-List-clause-err : goal.shape-returns-in_err-items-in-List-clause-err
shape-returns-in_err-items-in-List-clause-err t c =
    let p = err_from_is_err_and c.from_residual-in_err-items-in-List.result c.from_residual-in_err-items-in-List.ensures.1 in
    λ leads. rw (p.1, p.2) (refused_inside c.args.data_type.now c.get-in-List.result.now.data_type (list_made c.args.data_type.now) (over_list c.args.data_type.now c.get-in-List.result.now c.in-List.field c.in-List.is c.get-in-List.ensures) c.args.columns.now.items c.args.columns.now.items c.in_err-items-in-List.field-0.0 (c.in_err-items-in-List.ensures.err (leads_inside c.args.data_type.now c.get-in-List.result.now.data_type (list_made c.args.data_type.now) (over_list c.args.data_type.now c.get-in-List.result.now c.in-List.field c.in-List.is c.get-in-List.ensures) c.args.columns.now.items c.args.columns.now.items leads)))

pub shape-returns-in_ok-items-in-List : goal.shape-returns-in_ok-items-in-List
shape-returns-in_ok-items-in-List t c =
    let over = (over_list c.args.data_type.now c.get-in-List.result.now c.in-List.field c.in-List.is c.get-in-List.ensures) in
    let before = c.args.columns.now.items in
    let after = c.shape-in-List.new.columns.items in
    record {
      array = λ leads. array_over c.args.data_type.now c.get-in-List.result.now.data_type (list_made c.args.data_type.now) over before after c.in_ok-items-in-List.items (c.in_ok-items-in-List.ensures.array (leads_inside c.args.data_type.now c.get-in-List.result.now.data_type (list_made c.args.data_type.now) over before after leads)) c.lists_over.result c.lists_over.ensures.array;
      keys = keyless_list c.args.data_type.now c.lists_over.result c.in-List.field c.in-List.is;
      rest = on_ok c.lists_over.result _ (left_inside c.args.data_type.now c.get-in-List.result.now.data_type (list_made c.args.data_type.now) over before after c.in_ok-items-in-List.ensures.rest);
      err = λ leads. refused_over c.args.data_type.now c.get-in-List.result.now.data_type (list_made c.args.data_type.now) over before after c.in_ok-items-in-List.items (c.in_ok-items-in-List.ensures.array (leads_inside c.args.data_type.now c.get-in-List.result.now.data_type (list_made c.args.data_type.now) over before after leads)) c.lists_over.result c.lists_over.ensures.err;
    }

pub shape-returns-in_err-items-in-LargeList-clause-err : goal.shape-returns-in_err-items-in-LargeList-clause-err
shape-returns-in_err-items-in-LargeList-clause-err t c =
    let p = err_from_is_err_and c.from_residual-in_err-items-in-LargeList.result c.from_residual-in_err-items-in-LargeList.ensures.1 in
    λ leads. rw (p.1, p.2) (refused_inside c.args.data_type.now c.get-in-LargeList.result.now.data_type (list_made c.args.data_type.now) (over_large c.args.data_type.now c.get-in-LargeList.result.now c.in-LargeList.field c.in-LargeList.is c.get-in-LargeList.ensures) c.args.columns.now.items c.args.columns.now.items c.in_err-items-in-LargeList.field-0.0 (c.in_err-items-in-LargeList.ensures.err (leads_inside c.args.data_type.now c.get-in-LargeList.result.now.data_type (list_made c.args.data_type.now) (over_large c.args.data_type.now c.get-in-LargeList.result.now c.in-LargeList.field c.in-LargeList.is c.get-in-LargeList.ensures) c.args.columns.now.items c.args.columns.now.items leads)))

pub shape-returns-in_ok-items-in-LargeList : goal.shape-returns-in_ok-items-in-LargeList
shape-returns-in_ok-items-in-LargeList t c =
    let over = (over_large c.args.data_type.now c.get-in-LargeList.result.now c.in-LargeList.field c.in-LargeList.is c.get-in-LargeList.ensures) in
    let before = c.args.columns.now.items in
    let after = c.shape-in-LargeList.new.columns.items in
    record {
      array = λ leads. array_over c.args.data_type.now c.get-in-LargeList.result.now.data_type (list_made c.args.data_type.now) over before after c.in_ok-items-in-LargeList.items (c.in_ok-items-in-LargeList.ensures.array (leads_inside c.args.data_type.now c.get-in-LargeList.result.now.data_type (list_made c.args.data_type.now) over before after leads)) c.lists_over-in-LargeList.result c.lists_over-in-LargeList.ensures.array;
      keys = keyless_large c.args.data_type.now c.lists_over-in-LargeList.result c.in-LargeList.field c.in-LargeList.is;
      rest = on_ok c.lists_over-in-LargeList.result _ (left_inside c.args.data_type.now c.get-in-LargeList.result.now.data_type (list_made c.args.data_type.now) over before after c.in_ok-items-in-LargeList.ensures.rest);
      err = λ leads. refused_over c.args.data_type.now c.get-in-LargeList.result.now.data_type (list_made c.args.data_type.now) over before after c.in_ok-items-in-LargeList.items (c.in_ok-items-in-LargeList.ensures.array (leads_inside c.args.data_type.now c.get-in-LargeList.result.now.data_type (list_made c.args.data_type.now) over before after leads)) c.lists_over-in-LargeList.result c.lists_over-in-LargeList.ensures.err;
    }

pub shape-returns-in_err-pairs-in-Map-clause-err : goal.shape-returns-in_err-pairs-in-Map-clause-err
shape-returns-in_err-pairs-in-Map-clause-err t c =
    let p = err_from_is_err_and c.from_residual-in_err-pairs-in-Map.result c.from_residual-in_err-pairs-in-Map.ensures.1 in
    λ leads. rw (p.1, p.2) (refused_inside c.args.data_type.now c.get-in-Map.result.now.data_type (map_made c.args.data_type.now) (over_map c.args.data_type.now c.get-in-Map.result.now c.in-Map.field _ c.in-Map.is c.get-in-Map.ensures) c.args.columns.now.items c.args.columns.now.items c.in_err-pairs-in-Map.field-0.0 (c.in_err-pairs-in-Map.ensures.err (leads_inside c.args.data_type.now c.get-in-Map.result.now.data_type (map_made c.args.data_type.now) (over_map c.args.data_type.now c.get-in-Map.result.now c.in-Map.field _ c.in-Map.is c.get-in-Map.ensures) c.args.columns.now.items c.args.columns.now.items leads)))

pub shape-returns-in_ok-pairs-in-Map : goal.shape-returns-in_ok-pairs-in-Map
shape-returns-in_ok-pairs-in-Map t c =
    let over = (over_map c.args.data_type.now c.get-in-Map.result.now c.in-Map.field _ c.in-Map.is c.get-in-Map.ensures) in
    let before = c.args.columns.now.items in
    let after = c.shape-in-Map.new.columns.items in
    record {
      array = λ leads. array_over c.args.data_type.now c.get-in-Map.result.now.data_type (map_made c.args.data_type.now) over before after c.in_ok-pairs-in-Map.pairs (c.in_ok-pairs-in-Map.ensures.array (leads_inside c.args.data_type.now c.get-in-Map.result.now.data_type (map_made c.args.data_type.now) over before after leads)) c.map_over.result c.map_over.ensures.array;
      keys = keyless_map c.args.data_type.now c.map_over.result c.in-Map.field _ c.in-Map.is;
      rest = on_ok c.map_over.result _ (left_inside c.args.data_type.now c.get-in-Map.result.now.data_type (map_made c.args.data_type.now) over before after c.in_ok-pairs-in-Map.ensures.rest);
      err = λ leads. refused_over c.args.data_type.now c.get-in-Map.result.now.data_type (map_made c.args.data_type.now) over before after c.in_ok-pairs-in-Map.pairs (c.in_ok-pairs-in-Map.ensures.array (leads_inside c.args.data_type.now c.get-in-Map.result.now.data_type (map_made c.args.data_type.now) over before after leads)) c.map_over.result c.map_over.ensures.err;
    }

pub shape-returns-in_err-inside-in-Struct-clause-err : goal.shape-returns-in_err-inside-in-Struct-clause-err
shape-returns-in_err-inside-in-Struct-clause-err t c =
    let p = err_from_is_err_and c.from_residual-in_err-inside-in-Struct.result c.from_residual-in_err-inside-in-Struct.ensures.1 in
    λ leads. rw (p.1, p.2) (refused_fields c.args.data_type.now c.as_slice.result.now c.in-Struct.fields c.in-Struct.is c.as_slice.ensures c.args.columns.now.items c.args.columns.now.items c.in_err-inside-in-Struct.field-0.0 (c.in_err-inside-in-Struct.ensures.err (leads_fields c.args.data_type.now c.as_slice.result.now c.in-Struct.fields c.in-Struct.is c.as_slice.ensures c.args.columns.now.items c.args.columns.now.items leads)))

pub shape-returns-in_ok-inside-in-Struct : goal.shape-returns-in_ok-inside-in-Struct
shape-returns-in_ok-inside-in-Struct t c =
    let own = c.as_slice.result.now in
    let fields = c.in-Struct.fields in
    let before = c.args.columns.now.items in
    let after = c.shape_fields.new.columns.items in
    let arrays = c.in_ok-inside-in-Struct.inside.items in
    record {
      array = λ leads. struct_array c.args.data_type.now own fields c.in-Struct.is c.as_slice.ensures before after arrays (c.in_ok-inside-in-Struct.ensures.arrays (leads_fields c.args.data_type.now own fields c.in-Struct.is c.as_slice.ensures before after leads)) c.struct_over.result c.struct_over.ensures.array;
      keys = keyless_struct c.args.data_type.now c.struct_over.result fields c.in-Struct.is;
      rest = on_ok c.struct_over.result _ (left_fields c.args.data_type.now own fields c.in-Struct.is c.as_slice.ensures before after c.in_ok-inside-in-Struct.ensures.rest);
      err = λ leads. struct_refused c.args.data_type.now own fields c.in-Struct.is c.as_slice.ensures before after arrays (c.in_ok-inside-in-Struct.ensures.arrays (leads_fields c.args.data_type.now own fields c.in-Struct.is c.as_slice.ensures before after leads)) c.struct_over.result c.struct_over.ensures.err;
    }

pub shape-returns-in_default : goal.shape-returns-in_default
shape-returns-in_default t c =
    let values = inside_values c.args.data_type.now c.in_default.not-Dictionary c.in_default.not-List c.in_default.not-LargeList c.in_default.not-Struct c.in_default.not-Map in
    let before = c.args.columns.now.items in
    let after = c.first_column.new.columns.items in
    record {
      array = λ leads. values_array c.args.data_type.now values before after c.first_column.result leads c.first_column.ensures.first;
      keys = keyless_values c.args.data_type.now c.first_column.result values;
      rest = values_left c.args.data_type.now values before after c.first_column.result c.first_column.ensures.first;
      err = λ leads. values_refused c.args.data_type.now values before after c.first_column.result leads c.first_column.ensures.memory;
    }

pub shape_fields-loop-field-init : goal.shape_fields-loop-field-init
shape_fields-loop-field-init t c = record {
  turned = λ leads. these_none _ ∙ ap (λ arrays. and_these (map made_array arrays) (shaped_each (map type_of_field c.args.fields.now) (map cells c.args.columns.now.items))) (sym c.new-arrays.ensures.items);
  leads = λ leads. leads;
  left = refl;
}

pub shape_fields-loop-field-preserved : goal.shape_fields-loop-field-preserved
shape_fields-loop-field-preserved t c =
    let field = c.field-item.result in
    let rest = drop (c.loop-field.field-index + 1) c.args.fields.now in
    let others = item_and_others c.args.fields.now c.loop-field.field-index field c.loop-field-test.true c.field-item.is in
    let before = c.loop-field.columns.items in
    let after = c.shape.new.columns.items in
    let own = λ (leads : AreOfTypes (types_inside c.args.fields.now) c.args.columns.now.items).
    subst (λ (fields : List Field). AreOfTypes (types_inside fields) before) others (c.loop-field.invariant.leads leads) in
    record {
      turned = λ leads. c.loop-field.invariant.turned leads
          ∙ ap (λ (fields : List Field). and_these (map made_array c.loop-field.arrays.items) (shaped_each (map type_of_field fields) (map cells before))) others
          ∙ next_made c.loop-field.arrays.items _ c.in_ok-shape.field-0 field.data_type (map type_of_field rest) (map cells before) (map cells after) (c.in_ok-shape.ensures.array (field_leads field rest before after c.in_ok-shape.ensures.rest (own leads))) c.in_ok-push.ensures.items;
      leads = λ leads. next_leads field rest before after c.in_ok-shape.ensures.rest (own leads);
      left = next_left field rest before after c.in_ok-shape.ensures.rest _ (ap (λ (fields : List Field). drop (length (types_inside fields)) before) (sym others) ∙ c.loop-field.invariant.left);
    }

pub shape_fields-returns-clause-arrays : goal.shape_fields-returns-clause-arrays
shape_fields-returns-clause-arrays t c =
    λ leads.
    let turned = rw (drop_all c.loop-field.field-index c.args.fields.now c.loop-field-test.false) at c.loop-field.invariant.turned leads in
    turned ∙ all_made (map made_array c.loop-field.arrays.items) (map cells c.loop-field.columns.items)

pub shape_fields-returns-clause-rest : goal.shape_fields-returns-clause-rest
shape_fields-returns-clause-rest t c =
    ap (λ (fields : List Field). drop (length (types_inside fields)) c.loop-field.columns.items) (sym (drop_all c.loop-field.field-index c.args.fields.now c.loop-field-test.false)) ∙ c.loop-field.invariant.left

pub shape_fields-returns-in_err-shape-clause-err : goal.shape_fields-returns-in_err-shape-clause-err
shape_fields-returns-in_err-shape-clause-err t c =
    let p = err_from_is_err_and c.from_residual.result c.from_residual.ensures.1 in
    let field = c.field-item.result in
    let rest = drop (c.loop-field.field-index + 1) c.args.fields.now in
    let others = item_and_others c.args.fields.now c.loop-field.field-index field c.loop-field-test.true c.field-item.is in
    let made = map made_array c.loop-field.arrays.items in
    let columns = map cells c.loop-field.columns.items in
    λ leads. rw (p.1, p.2) (subst (λ found. AreShapesRefused found c.in_err-shape.field-0.0)
    (sym (c.loop-field.invariant.turned leads ∙ ap (λ (fields : List Field). and_these made (shaped_each (map type_of_field fields) columns)) others))
    (field_refused c.in_err-shape.field-0.0 made field.data_type (map type_of_field rest) columns (c.in_err-shape.ensures.err
    (leads_first (leaf_types field.data_type) (types_inside rest) (map data_type_of c.loop-field.columns.items)
    (subst (λ (fields : List Field). AreOfTypes (types_inside fields) c.loop-field.columns.items) others (c.loop-field.invariant.leads leads))))))
