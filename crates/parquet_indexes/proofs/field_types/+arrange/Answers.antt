use Rattle.std.proofs.Common.{◌≡◌, ◌∙◌, ◌≤◌, ◌+◌, List, Some, ap, length, map, drop, option_map, sym, subst, arith}
use Rattle.std.specs.Prelude.{IfErr, IfOk, OnOk}
use Rattle.std.proofs.lemmas.List.{drop_all}
use Rattle.std.proofs.lemmas.Result.{err_from_is_err_and}
use Rattle.columns_core.specs.Causes.{IsWantOfMemory}
use Rattle.columns_core.specs.declared.data_type.DataType.{DataType}
use Rattle.columns_core.specs.declared.data_type.Field.{Field}
use Rattle.parquet_meta.proofs.ListLemmas.{item_and_others}
use Rattle.parquet_statistics.specs.LeafTypes.{leaf_types}
use Rattle.parquet_statistics.proofs.LayerLemmas.{inside_values, types_inside, types_of_dictionary, types_of_large, types_of_list, types_of_map, types_of_struct, types_of_values}
use Rattle.parquet_indexes.specs.FieldTypes.{Arranged, arranged, arranged_in_turn, of_fields}
use Rattle.parquet_indexes.proofs.FieldTypeLemmas.{and_then_these, arranged_dictionary, arranged_large, arranged_list, arranged_map, arranged_struct, arranged_values, count_next, these_none, turn_next, turned_all}
use Rattle.parquet_indexes.proofs.field_types.+arrange.Goals as goal

pub arrange-returns-in-Dictionary-clause-arranged : goal.arrange-returns-in-Dictionary-clause-arranged
arrange-returns-in-Dictionary-clause-arranged t c =
    subst (λ (whole : Arranged). IfOk c.arrange.result (λ statistics. whole c.args.columns.now.items ≡ Some (statistics, c.arrange.new.columns.items)))
    (ap arranged c.get.ensures ∙ sym (arranged_dictionary c.in-Dictionary.field-0 c.in-Dictionary.value c.in-Dictionary.field-2) ∙ ap arranged (sym c.in-Dictionary.is)) c.arrange.ensures.arranged

pub arrange-returns-in-Dictionary-clause-rest : goal.arrange-returns-in-Dictionary-clause-rest
arrange-returns-in-Dictionary-clause-rest t c =
    subst (λ types. OnOk c.arrange.result (length c.arrange.new.columns.items + length types ≡ length c.args.columns.now.items))
    (ap leaf_types c.get.ensures ∙ sym (types_of_dictionary c.in-Dictionary.field-0 c.in-Dictionary.value c.in-Dictionary.field-2) ∙ ap leaf_types (sym c.in-Dictionary.is)) c.arrange.ensures.rest

pub arrange-returns-in-Dictionary-clause-memory : goal.arrange-returns-in-Dictionary-clause-memory
arrange-returns-in-Dictionary-clause-memory t c =
    subst (λ types. length types ≤ length c.args.columns.now.items → IfErr c.arrange.result IsWantOfMemory)
    (ap leaf_types c.get.ensures ∙ sym (types_of_dictionary c.in-Dictionary.field-0 c.in-Dictionary.value c.in-Dictionary.field-2) ∙ ap leaf_types (sym c.in-Dictionary.is)) c.arrange.ensures.memory

pub arrange-returns-in-List-clause-arranged : goal.arrange-returns-in-List-clause-arranged
arrange-returns-in-List-clause-arranged t c =
    subst (λ (whole : Arranged). IfOk c.arrange-in-List.result (λ statistics. whole c.args.columns.now.items ≡ Some (statistics, c.arrange-in-List.new.columns.items)))
    (ap (λ (field : Field). arranged field.data_type) c.get-in-List.ensures ∙ sym (arranged_list c.in-List.field) ∙ ap arranged (sym c.in-List.is)) c.arrange-in-List.ensures.arranged

pub arrange-returns-in-List-clause-rest : goal.arrange-returns-in-List-clause-rest
arrange-returns-in-List-clause-rest t c =
    subst (λ types. OnOk c.arrange-in-List.result (length c.arrange-in-List.new.columns.items + length types ≡ length c.args.columns.now.items))
    (ap (λ (field : Field). leaf_types field.data_type) c.get-in-List.ensures ∙ sym (types_of_list c.in-List.field) ∙ ap leaf_types (sym c.in-List.is)) c.arrange-in-List.ensures.rest

pub arrange-returns-in-List-clause-memory : goal.arrange-returns-in-List-clause-memory
arrange-returns-in-List-clause-memory t c =
    subst (λ types. length types ≤ length c.args.columns.now.items → IfErr c.arrange-in-List.result IsWantOfMemory)
    (ap (λ (field : Field). leaf_types field.data_type) c.get-in-List.ensures ∙ sym (types_of_list c.in-List.field) ∙ ap leaf_types (sym c.in-List.is)) c.arrange-in-List.ensures.memory

pub arrange-returns-in-LargeList-clause-arranged : goal.arrange-returns-in-LargeList-clause-arranged
arrange-returns-in-LargeList-clause-arranged t c =
    subst (λ (whole : Arranged). IfOk c.arrange-in-LargeList.result (λ statistics. whole c.args.columns.now.items ≡ Some (statistics, c.arrange-in-LargeList.new.columns.items)))
    (ap (λ (field : Field). arranged field.data_type) c.get-in-LargeList.ensures ∙ sym (arranged_large c.in-LargeList.field) ∙ ap arranged (sym c.in-LargeList.is)) c.arrange-in-LargeList.ensures.arranged

pub arrange-returns-in-LargeList-clause-rest : goal.arrange-returns-in-LargeList-clause-rest
arrange-returns-in-LargeList-clause-rest t c =
    subst (λ types. OnOk c.arrange-in-LargeList.result (length c.arrange-in-LargeList.new.columns.items + length types ≡ length c.args.columns.now.items))
    (ap (λ (field : Field). leaf_types field.data_type) c.get-in-LargeList.ensures ∙ sym (types_of_large c.in-LargeList.field) ∙ ap leaf_types (sym c.in-LargeList.is)) c.arrange-in-LargeList.ensures.rest

pub arrange-returns-in-LargeList-clause-memory : goal.arrange-returns-in-LargeList-clause-memory
arrange-returns-in-LargeList-clause-memory t c =
    subst (λ types. length types ≤ length c.args.columns.now.items → IfErr c.arrange-in-LargeList.result IsWantOfMemory)
    (ap (λ (field : Field). leaf_types field.data_type) c.get-in-LargeList.ensures ∙ sym (types_of_large c.in-LargeList.field) ∙ ap leaf_types (sym c.in-LargeList.is)) c.arrange-in-LargeList.ensures.memory

pub arrange-returns-in-Map-clause-arranged : goal.arrange-returns-in-Map-clause-arranged
arrange-returns-in-Map-clause-arranged t c =
    subst (λ (whole : Arranged). IfOk c.arrange-in-Map.result (λ statistics. whole c.args.columns.now.items ≡ Some (statistics, c.arrange-in-Map.new.columns.items)))
    (ap (λ (field : Field). arranged field.data_type) c.get-in-Map.ensures ∙ sym (arranged_map c.in-Map.field _) ∙ ap arranged (sym c.in-Map.is)) c.arrange-in-Map.ensures.arranged

pub arrange-returns-in-Map-clause-rest : goal.arrange-returns-in-Map-clause-rest
arrange-returns-in-Map-clause-rest t c =
    subst (λ types. OnOk c.arrange-in-Map.result (length c.arrange-in-Map.new.columns.items + length types ≡ length c.args.columns.now.items))
    (ap (λ (field : Field). leaf_types field.data_type) c.get-in-Map.ensures ∙ sym (types_of_map c.in-Map.field _) ∙ ap leaf_types (sym c.in-Map.is)) c.arrange-in-Map.ensures.rest

pub arrange-returns-in-Map-clause-memory : goal.arrange-returns-in-Map-clause-memory
arrange-returns-in-Map-clause-memory t c =
    subst (λ types. length types ≤ length c.args.columns.now.items → IfErr c.arrange-in-Map.result IsWantOfMemory)
    (ap (λ (field : Field). leaf_types field.data_type) c.get-in-Map.ensures ∙ sym (types_of_map c.in-Map.field _) ∙ ap leaf_types (sym c.in-Map.is)) c.arrange-in-Map.ensures.memory

pub arrange-returns-in_ok-arrange_fields-in-Struct-clause-arranged : goal.arrange-returns-in_ok-arrange_fields-in-Struct-clause-arranged
arrange-returns-in_ok-arrange_fields-in-Struct-clause-arranged t c =
    ap (λ (data_type : DataType). arranged data_type c.args.columns.now.items) c.in-Struct.is
    ∙ arranged_struct c.in-Struct.fields c.args.columns.now.items
    ∙ ap (λ (fields : List Field). option_map of_fields (arranged_in_turn (map (λ (field : Field). arranged field.data_type) fields) c.args.columns.now.items)) (sym c.as_slice.ensures)
    ∙ ap (option_map of_fields) c.in_ok-arrange_fields-in-Struct.ensures.arranged

pub arrange-returns-in_ok-arrange_fields-in-Struct-clause-rest : goal.arrange-returns-in_ok-arrange_fields-in-Struct-clause-rest
arrange-returns-in_ok-arrange_fields-in-Struct-clause-rest t c =
    subst (λ types. length c.arrange_fields.new.columns.items + length types ≡ length c.args.columns.now.items)
    (ap types_inside c.as_slice.ensures ∙ sym (types_of_struct c.in-Struct.fields) ∙ ap leaf_types (sym c.in-Struct.is)) c.in_ok-arrange_fields-in-Struct.ensures.rest

pub arrange-returns-in_default : goal.arrange-returns-in_default
arrange-returns-in_default t c =
    let values = inside_values c.args.data_type.now c.in_default.not-Dictionary c.in_default.not-List c.in_default.not-LargeList c.in_default.not-Struct c.in_default.not-Map in
    let one = types_of_values c.args.data_type.now values in
    let whole = arranged_values c.args.data_type.now values in
    record {
      arranged = subst (λ (whole : Arranged). IfOk c.first_column.result (λ statistics. whole c.args.columns.now.items ≡ Some (statistics, c.first_column.new.columns.items))) (sym whole) c.first_column.ensures.arranged;
      rest = subst (λ types. OnOk c.first_column.result (length c.first_column.new.columns.items + length types ≡ length c.args.columns.now.items)) (sym one) c.first_column.ensures.rest;
      memory = subst (λ types. length types ≤ length c.args.columns.now.items → IfErr c.first_column.result IsWantOfMemory) (sym one) c.first_column.ensures.memory;
    }

pub arrange_fields-loop-field-init : goal.arrange_fields-loop-field-init
arrange_fields-loop-field-init t c =
    let none = c.new-statistics.ensures.items in
    record {
      turned = subst (λ items. arranged_in_turn (map (λ (field : Field). arranged field.data_type) c.args.fields.now) c.args.columns.now.items
          ≡ and_then_these items (arranged_in_turn (map (λ (field : Field). arranged field.data_type) c.args.fields.now) c.args.columns.now.items)) (sym none) (these_none _);
      rest = omega arith;
    }

pub arrange_fields-loop-field-preserved : goal.arrange_fields-loop-field-preserved
arrange_fields-loop-field-preserved t c =
    let field = c.field-item.result in
    let rest = drop (c.loop-field.field-index + 1) c.args.fields.now in
    let others = item_and_others c.args.fields.now c.loop-field.field-index field c.loop-field-test.true c.field-item.is in
    record {
      turned = c.loop-field.invariant.turned
          ∙ ap (λ (fields : List Field). and_then_these c.loop-field.statistics.items (arranged_in_turn (map (λ (field : Field). arranged field.data_type) fields) c.loop-field.columns.items)) others
          ∙ turn_next c.loop-field.statistics.items c.in_ok-arrange.field-0 field rest c.loop-field.columns.items c.arrange.new.columns.items c.in_ok-arrange.ensures.arranged
          ∙ ap (λ items. and_then_these items (arranged_in_turn (map (λ (field : Field). arranged field.data_type) rest) c.arrange.new.columns.items)) (sym c.in_ok-push.ensures.items);
      rest = omega (arith, c.loop-field.invariant.rest, c.in_ok-arrange.ensures.rest, count_next (drop c.loop-field.field-index c.args.fields.now) rest field others);
    }

pub arrange_fields-returns-clause-arranged : goal.arrange_fields-returns-clause-arranged
arrange_fields-returns-clause-arranged t c =
    let turned = rw (drop_all c.loop-field.field-index c.args.fields.now c.loop-field-test.false) at c.loop-field.invariant.turned in
    turned ∙ turned_all c.loop-field.statistics.items c.loop-field.columns.items ∙ ap (λ items. Some (items, c.loop-field.columns.items)) (sym c.new.ensures)

pub arrange_fields-returns-clause-rest : goal.arrange_fields-returns-clause-rest
arrange_fields-returns-clause-rest t c =
    omega (arith, c.loop-field.invariant.rest, ap (λ (fields : List Field). length (types_inside fields)) (drop_all c.loop-field.field-index c.args.fields.now c.loop-field-test.false))

pub arrange_fields-returns-in_err-arrange-clause-memory : goal.arrange_fields-returns-in_err-arrange-clause-memory
arrange_fields-returns-in_err-arrange-clause-memory t c = λ enough.
    let p = err_from_is_err_and c.from_residual.result c.from_residual.ensures.1 in
    let field = c.field-item.result in
    let rest = drop (c.loop-field.field-index + 1) c.args.fields.now in
    let others = item_and_others c.args.fields.now c.loop-field.field-index field c.loop-field-test.true c.field-item.is in
    rw (p.1, p.2) (c.in_err-arrange.ensures.memory (omega (arith, enough, c.loop-field.invariant.rest, count_next (drop c.loop-field.field-index c.args.fields.now) rest field others)))

pub arrange-returns-in_err-arrange_fields-in-Struct-clause-memory : goal.arrange-returns-in_err-arrange_fields-in-Struct-clause-memory
arrange-returns-in_err-arrange_fields-in-Struct-clause-memory t c = λ enough.
    let p = err_from_is_err_and c.from_residual.result c.from_residual.ensures.1 in
    rw (p.1, p.2) (c.in_err-arrange_fields-in-Struct.ensures.memory
    (subst (λ types. length types ≤ length c.args.columns.now.items) (ap leaf_types c.in-Struct.is ∙ types_of_struct c.in-Struct.fields ∙ ap types_inside (sym c.as_slice.ensures)) enough))
