use Rattle.std.proofs.Common.{◌≡◌, ◌∙◌, true, false, List, ap, map, option_map, sym}
use Rattle.std.specs.List.{list_all}
use Rattle.std.proofs.lemmas.List.{take_all}
use Rattle.columns_core.specs.declared.data_type.DataType.{Dictionary}
use Rattle.columns_core.specs.declared.data_type.Field.{Field}
use Rattle.parquet_statistics.specs.Deserialized.{agreed, is_count}
use Rattle.parquet_statistics.specs.declared.slots.Arrays.{Arrays}
use Rattle.parquet_statistics.proofs.LayerLemmas.{inside_values}
use Rattle.parquet_statistics.proofs.SlotCounts.{agreed_by, counts_of_dictionary, counts_same, differs, ends_of_dictionary, one_fails, slots_for, slots_of_large, slots_of_list, slots_of_map, slots_of_struct, slots_of_values}
use Rattle.parquet_statistics.proofs.slots.+slot_count.Goals as goal

pub slot_count-returns-in-Ends : goal.slot_count-returns-in-Ends
slot_count-returns-in-Ends t c =
    let groups = c.args.groups in
    c.slot_count.ensures ∙ ap (slots_for groups c.args.arrays) c.get.ensures ∙ ap (λ (arrays : Arrays). slots_for groups arrays c.in-Dictionary.value) c.in-Ends.is
    ∙ sym (ends_of_dictionary groups c.in-Dictionary.field-0 c.in-Dictionary.value c.in-Dictionary.field-2)
    ∙ ap (λ (arrays : Arrays). slots_for groups arrays (Dictionary c.in-Dictionary.field-0 c.in-Dictionary.value c.in-Dictionary.field-2)) (sym c.in-Ends.is) ∙ ap (slots_for groups c.args.arrays) (sym c.in-Dictionary.is)

pub slot_count-returns-in-Counts : goal.slot_count-returns-in-Counts
slot_count-returns-in-Counts t c =
    let groups = c.args.groups in
    sym (counts_of_dictionary groups c.in-Dictionary.field-0 c.in-Dictionary.value c.in-Dictionary.field-2)
    ∙ ap (λ (arrays : Arrays). slots_for groups arrays (Dictionary c.in-Dictionary.field-0 c.in-Dictionary.value c.in-Dictionary.field-2)) (sym c.in-Counts.is) ∙ ap (slots_for groups c.args.arrays) (sym c.in-Dictionary.is)

pub slot_count-returns-in-List : goal.slot_count-returns-in-List
slot_count-returns-in-List t c =
    let own = slots_for c.args.groups c.args.arrays in
    c.slot_count-in-List.ensures ∙ ap (λ (field : Field). slots_for c.args.groups c.args.arrays field.data_type) c.get-in-List.ensures ∙ sym (slots_of_list c.args.groups c.args.arrays c.in-List.field) ∙ ap own (sym c.in-List.is)

pub slot_count-returns-in-LargeList : goal.slot_count-returns-in-LargeList
slot_count-returns-in-LargeList t c =
    let own = slots_for c.args.groups c.args.arrays in
    c.slot_count-in-LargeList.ensures ∙ ap (λ (field : Field). slots_for c.args.groups c.args.arrays field.data_type) c.get-in-LargeList.ensures ∙ sym (slots_of_large c.args.groups c.args.arrays c.in-LargeList.field) ∙ ap own (sym c.in-LargeList.is)

pub slot_count-returns-in-Struct : goal.slot_count-returns-in-Struct
slot_count-returns-in-Struct t c =
    let own = slots_for c.args.groups c.args.arrays in
    c.agreed_count.ensures ∙ ap (λ (fields : List Field). agreed (map (λ (field : Field). slots_for c.args.groups c.args.arrays field.data_type) fields)) c.as_slice.ensures
    ∙ sym (slots_of_struct c.args.groups c.args.arrays c.in-Struct.fields) ∙ ap own (sym c.in-Struct.is)

pub slot_count-returns-in_default : goal.slot_count-returns-in_default
slot_count-returns-in_default t c =
    sym (slots_of_values c.args.groups c.args.arrays c.args.data_type.now (inside_values c.args.data_type.now c.in_default.not-Dictionary c.in_default.not-List c.in_default.not-LargeList c.in_default.not-Struct c.in_default.not-Map))

pub slot_count-returns-in_err-slot_count-in-Map : goal.slot_count-returns-in_err-slot_count-in-Map
slot_count-returns-in_err-slot_count-in-Map t c =
    let inner = ap (λ (field : Field). slots_for c.args.groups c.args.arrays field.data_type) (sym c.get-in-Map.ensures) ∙ sym c.slot_count-in-Map.ensures ∙ c.in_err-slot_count-in-Map.was in
    c.from_residual.ensures ∙ ap (option_map (λ _. 1)) (sym inner) ∙ sym (slots_of_map c.args.groups c.args.arrays c.in-Map.field _) ∙ ap (slots_for c.args.groups c.args.arrays) (sym c.in-Map.is)

pub slot_count-returns-in_ok-slot_count-in-Map : goal.slot_count-returns-in_ok-slot_count-in-Map
slot_count-returns-in_ok-slot_count-in-Map t c =
    let inner = ap (λ (field : Field). slots_for c.args.groups c.args.arrays field.data_type) (sym c.get-in-Map.ensures) ∙ sym c.slot_count-in-Map.ensures ∙ c.in_ok-slot_count-in-Map.was in
    ap (option_map (λ _. 1)) (sym inner) ∙ sym (slots_of_map c.args.groups c.args.arrays c.in-Map.field _) ∙ ap (slots_for c.args.groups c.args.arrays) (sym c.in-Map.is)

pub agreed_count-returns-then-ne : goal.agreed_count-returns-then-ne
agreed_count-returns-then-ne t c =
    let own = λ (field : Field). slots_for c.args.groups c.args.arrays field.data_type in
    let count = c.in_ok-count.count in
    let others = c.in_ok-first.others.now in
    let found = c.slot_count-in-loop-field.result in
    let differ : is_count count (own c.field-item.result) ≡ false =
    ap (is_count count) (sym c.slot_count-in-loop-field.ensures) ∙ sym (counts_same count found) ∙ differs _ (sym c.ne.ensures ∙ c.if-ne.true) in
    sym (agreed_by own count c.args.fields.now c.in_ok-first.first.now others c.in_ok-first.ensures.cases.0 (sym c.slot_count.ensures ∙ c.in_ok-count.was) false
    (one_fails (λ field. is_count count (own field)) others c.loop-field.field-index c.field-item.result c.loop-field-test.true
    (ap (λ field. is_count count (own field)) (sym c.field-item.is) ∙ differ)))

pub agreed_count-returns : goal.agreed_count-returns
agreed_count-returns t c =
    let own = λ (field : Field). slots_for c.args.groups c.args.arrays field.data_type in
    let count = c.in_ok-count.count in
    let others = c.in_ok-first.others.now in
    sym (agreed_by own count c.args.fields.now c.in_ok-first.first.now others c.in_ok-first.ensures.cases.0 (sym c.slot_count.ensures ∙ c.in_ok-count.was) true
    (ap (list_all (λ field. is_count count (own field))) (sym (take_all c.loop-field.field-index others c.loop-field-test.false)) ∙ c.loop-field.invariant))
