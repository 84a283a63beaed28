use Rattle.std.proofs.Common.{◌∙◌, ◌+◌, List, ap, map, sym, take}
use Rattle.std.specs.Prelude.{Some, flat_map}
use Rattle.std.proofs.lemmas.List.{take_all}
use Rattle.std.proofs.lemmas.Result.{err_from_is_err_and}
use Rattle.columns_core.specs.DictionaryType.{entry_type}
use Rattle.columns_core.specs.Nested.{map_type, field_types}
use Rattle.columns_core.specs.declared.data_type.Field.{Field}
use Rattle.parquet_statistics.specs.BuiltTypes.{are_empty_of, item_type, refusals_of_fields, type_refusals}
use Rattle.parquet_statistics.proofs.EmptyLemmas.{dictionary_so, empty_more, field_refused, flat_so, free_more, list_so, map_so, some_free, struct_so}
use Rattle.parquet_statistics.proofs.RefusalLemmas.{as_refused}
use Rattle.parquet_statistics.proofs.TypeRefusals.{entry_of_dictionary, fields_of_struct, flat_is_free, flat_or_memory, item_of_large, item_of_list, pairs_of_map, refusals_of_dictionary, refusals_of_large, refusals_of_list, refusals_of_map, refusals_of_struct}
use Rattle.parquet_statistics.proofs.empty_builders.+builder_of.Goals as goal

pub builder_of-returns-in_err-inner-in-Dictionary-clause-err : goal.builder_of-returns-in_err-inner-in-Dictionary-clause-err
builder_of-returns-in_err-inner-in-Dictionary-clause-err t c =
    let p = err_from_is_err_and c.from_residual.result c.from_residual.ensures.1 in
    rw (p.1, p.2) (as_refused c.in_err-inner-in-Dictionary.field-0.0 _ _ (ap type_refusals c.get.ensures ∙ sym (refusals_of_dictionary c.in-Dictionary.field-0 c.in-Dictionary.value c.in-Dictionary.field-2) ∙ ap type_refusals (sym c.in-Dictionary.is)) c.in_err-inner-in-Dictionary.ensures.err)

pub builder_of-returns-in_ok-dictionary_over-in-Dictionary-clause-ok : goal.builder_of-returns-in_ok-dictionary_over-in-Dictionary-clause-ok
builder_of-returns-in_ok-dictionary_over-in-Dictionary-clause-ok t c = sym (ap type_refusals c.get.ensures ∙ sym (refusals_of_dictionary c.in-Dictionary.field-0 c.in-Dictionary.value c.in-Dictionary.field-2) ∙ ap type_refusals (sym c.in-Dictionary.is)) ∙ c.in_ok-inner-in-Dictionary.ensures.ok

pub builder_of-returns-in_err-inner-in-List-clause-err : goal.builder_of-returns-in_err-inner-in-List-clause-err
builder_of-returns-in_err-inner-in-List-clause-err t c =
    let p = err_from_is_err_and c.from_residual-in_err-inner-in-List.result c.from_residual-in_err-inner-in-List.ensures.1 in
    rw (p.1, p.2) (as_refused c.in_err-inner-in-List.field-0.0 _ _ (ap (λ (field : Field). type_refusals field.data_type) c.get-in-List.ensures ∙ sym (refusals_of_list c.in-List.field) ∙ ap type_refusals (sym c.in-List.is)) c.in_err-inner-in-List.ensures.err)

pub builder_of-returns-in_ok-list_over-in-List-clause-ok : goal.builder_of-returns-in_ok-list_over-in-List-clause-ok
builder_of-returns-in_ok-list_over-in-List-clause-ok t c = sym (ap (λ (field : Field). type_refusals field.data_type) c.get-in-List.ensures ∙ sym (refusals_of_list c.in-List.field) ∙ ap type_refusals (sym c.in-List.is)) ∙ c.in_ok-inner-in-List.ensures.ok

pub builder_of-returns-in_err-inner-in-LargeList-clause-err : goal.builder_of-returns-in_err-inner-in-LargeList-clause-err
builder_of-returns-in_err-inner-in-LargeList-clause-err t c =
    let p = err_from_is_err_and c.from_residual-in_err-inner-in-LargeList.result c.from_residual-in_err-inner-in-LargeList.ensures.1 in
    rw (p.1, p.2) (as_refused c.in_err-inner-in-LargeList.field-0.0 _ _ (ap (λ (field : Field). type_refusals field.data_type) c.get-in-LargeList.ensures ∙ sym (refusals_of_large c.in-LargeList.field) ∙ ap type_refusals (sym c.in-LargeList.is)) c.in_err-inner-in-LargeList.ensures.err)

pub builder_of-returns-in_ok-list_over-in-LargeList-clause-ok : goal.builder_of-returns-in_ok-list_over-in-LargeList-clause-ok
builder_of-returns-in_ok-list_over-in-LargeList-clause-ok t c = sym (ap (λ (field : Field). type_refusals field.data_type) c.get-in-LargeList.ensures ∙ sym (refusals_of_large c.in-LargeList.field) ∙ ap type_refusals (sym c.in-LargeList.is)) ∙ c.in_ok-inner-in-LargeList.ensures.ok

pub builder_of-returns-in_err-inner-in-Map-clause-err : goal.builder_of-returns-in_err-inner-in-Map-clause-err
builder_of-returns-in_err-inner-in-Map-clause-err t c =
    let p = err_from_is_err_and c.from_residual-in_err-inner-in-Map.result c.from_residual-in_err-inner-in-Map.ensures.1 in
    rw (p.1, p.2) (as_refused c.in_err-inner-in-Map.field-0.0 _ _ (ap (λ (field : Field). type_refusals field.data_type) c.get-in-Map.ensures ∙ sym (refusals_of_map c.in-Map.field _) ∙ ap type_refusals (sym c.in-Map.is)) c.in_err-inner-in-Map.ensures.err)

pub builder_of-returns-in_ok-map_over-in-Map-clause-ok : goal.builder_of-returns-in_ok-map_over-in-Map-clause-ok
builder_of-returns-in_ok-map_over-in-Map-clause-ok t c = sym (ap (λ (field : Field). type_refusals field.data_type) c.get-in-Map.ensures ∙ sym (refusals_of_map c.in-Map.field _) ∙ ap type_refusals (sym c.in-Map.is)) ∙ c.in_ok-inner-in-Map.ensures.ok

pub builder_of-returns-in_err-inner-in-Struct-clause-err : goal.builder_of-returns-in_err-inner-in-Struct-clause-err
builder_of-returns-in_err-inner-in-Struct-clause-err t c =
    let p = err_from_is_err_and c.from_residual-in_err-inner-in-Struct.result c.from_residual-in_err-inner-in-Struct.ensures.1 in
    rw (p.1, p.2) (as_refused c.in_err-inner-in-Struct.field-0.0 _ _ (ap refusals_of_fields c.as_slice.ensures ∙ sym (refusals_of_struct c.in-Struct.fields) ∙ ap type_refusals (sym c.in-Struct.is)) c.in_err-inner-in-Struct.ensures.err)

pub builder_of-returns-in_ok-struct_over-in-Struct-clause-ok : goal.builder_of-returns-in_ok-struct_over-in-Struct-clause-ok
builder_of-returns-in_ok-struct_over-in-Struct-clause-ok t c = sym (ap refusals_of_fields c.as_slice.ensures ∙ sym (refusals_of_struct c.in-Struct.fields) ∙ ap type_refusals (sym c.in-Struct.is)) ∙ c.in_ok-inner-in-Struct.ensures.ok

pub builder_of-returns-in_ok-dictionary_over-in-Dictionary-clause-empty : goal.builder_of-returns-in_ok-dictionary_over-in-Dictionary-clause-empty
builder_of-returns-in_ok-dictionary_over-in-Dictionary-clause-empty t c =
    dictionary_so c.args.data_type.now c.get.result.now c.in_ok-inner-in-Dictionary.inner c.in_ok-inner-in-Dictionary.ensures.empty c.in_ok-dictionary_over-in-Dictionary.field-0
    (ap entry_type c.in-Dictionary.is ∙ entry_of_dictionary c.in-Dictionary.field-0 c.in-Dictionary.value c.in-Dictionary.field-2 ∙ ap Some (sym c.get.ensures))
    c.in_ok-dictionary_over-in-Dictionary.ensures.over

pub builder_of-returns-in_ok-list_over-in-List-clause-empty : goal.builder_of-returns-in_ok-list_over-in-List-clause-empty
builder_of-returns-in_ok-list_over-in-List-clause-empty t c =
    list_so c.args.data_type.now c.get-in-List.result.now.data_type c.in_ok-inner-in-List.inner c.in_ok-inner-in-List.ensures.empty c.in_ok-list_over-in-List.field-0
    (ap item_type c.in-List.is ∙ item_of_list c.in-List.field ∙ ap (λ (field : Field). Some field.data_type) (sym c.get-in-List.ensures))
    c.in_ok-list_over-in-List.ensures.over

pub builder_of-returns-in_ok-list_over-in-LargeList-clause-empty : goal.builder_of-returns-in_ok-list_over-in-LargeList-clause-empty
builder_of-returns-in_ok-list_over-in-LargeList-clause-empty t c =
    list_so c.args.data_type.now c.get-in-LargeList.result.now.data_type c.in_ok-inner-in-LargeList.inner c.in_ok-inner-in-LargeList.ensures.empty c.in_ok-list_over-in-LargeList.field-0
    (ap item_type c.in-LargeList.is ∙ item_of_large c.in-LargeList.field ∙ ap (λ (field : Field). Some field.data_type) (sym c.get-in-LargeList.ensures))
    c.in_ok-list_over-in-LargeList.ensures.over

pub builder_of-returns-in_ok-map_over-in-Map-clause-empty : goal.builder_of-returns-in_ok-map_over-in-Map-clause-empty
builder_of-returns-in_ok-map_over-in-Map-clause-empty t c =
    map_so c.args.data_type.now c.get-in-Map.result.now.data_type c.in_ok-inner-in-Map.inner c.in_ok-inner-in-Map.ensures.empty c.in_ok-map_over-in-Map.field-0
    (ap map_type c.in-Map.is ∙ pairs_of_map c.in-Map.field _ ∙ ap (λ (field : Field). Some field.data_type) (sym c.get-in-Map.ensures))
    c.in_ok-map_over-in-Map.ensures.over

pub builder_of-returns-in_ok-struct_over-in-Struct-clause-empty : goal.builder_of-returns-in_ok-struct_over-in-Struct-clause-empty
builder_of-returns-in_ok-struct_over-in-Struct-clause-empty t c =
    let over = c.in_ok-struct_over-in-Struct.ensures.over in
    struct_so c.args.data_type.now c.as_slice.result.now c.in_ok-inner-in-Struct.inner.items c.in_ok-struct_over-in-Struct.field-0
    (ap field_types c.in-Struct.is ∙ fields_of_struct c.in-Struct.fields ∙ ap (λ (fields : List Field). Some (map (λ (field : Field). field.data_type) fields)) (sym c.as_slice.ensures))
    over.0 (λ i. (over.1 i).items) c.in_ok-inner-in-Struct.ensures.empty

pub builder_of-returns-in_err-flat_builder-in_default : goal.builder_of-returns-in_err-flat_builder-in_default
builder_of-returns-in_err-flat_builder-in_default t c =
    let p = err_from_is_err_and c.from_residual-in_err-flat_builder-in_default.result c.from_residual-in_err-flat_builder-in_default.ensures.1 in
    rw (p.1, p.2) record {
      empty = tt;
      ok = tt;
      err = flat_or_memory c.args.data_type.now c.in_default.not-Dictionary c.in_default.not-List c.in_default.not-LargeList c.in_default.not-Struct c.in_default.not-Map _ c.in_err-flat_builder-in_default.ensures.err;
    }

pub builder_of-returns-in_ok-flat_builder-in_default : goal.builder_of-returns-in_ok-flat_builder-in_default
builder_of-returns-in_ok-flat_builder-in_default t c = record {
  empty = flat_so c.args.data_type.now c.in_ok-flat_builder-in_default.field-0 c.in_ok-flat_builder-in_default.ensures.empty c.in_ok-flat_builder-in_default.ensures.ok;
  ok = flat_is_free c.args.data_type.now c.in_ok-flat_builder-in_default.ensures.ok;
  err = tt;
}

pub builders_of-returns-in_err-builder_of-clause-err : goal.builders_of-returns-in_err-builder_of-clause-err
builders_of-returns-in_err-builder_of-clause-err t c =
    let p = err_from_is_err_and c.from_residual.result c.from_residual.ensures.1 in
    rw (p.1, p.2) (field_refused c.args.fields.now c.loop-field.field-index c.field-item.result c.loop-field-test.true c.field-item.is _ c.in_err-builder_of.ensures.err)

pub builders_of-loop-field-preserved : goal.builders_of-loop-field-preserved
builders_of-loop-field-preserved t c = record {
  some = c.loop-field.invariant.some;
  empty = ap (are_empty_of (take (c.loop-field.field-index + 1) c.args.fields.now)) c.in_ok-push.ensures.items
      ∙ empty_more c.args.fields.now c.loop-field.field-index c.field-item.result c.loop-field-test.true c.field-item.is c.loop-field.builders.items c.in_ok-builder_of.field-0 c.loop-field.invariant.empty c.in_ok-builder_of.ensures.empty;
  free = free_more c.args.fields.now c.loop-field.field-index c.field-item.result c.loop-field-test.true c.field-item.is c.loop-field.invariant.free c.in_ok-builder_of.ensures.ok;
}

pub builders_of-returns-clause-ok : goal.builders_of-returns-clause-ok
builders_of-returns-clause-ok t c =
    some_free c.args.fields.now c.loop-field.invariant.some
    (ap (flat_map (λ (field : Field). type_refusals field.data_type)) (sym (take_all c.loop-field.field-index c.args.fields.now c.loop-field-test.false)) ∙ c.loop-field.invariant.free)
