use Rattle.std.proofs.Common.{◌∙◌, List, ap, sym}
use Rattle.std.specs.Prelude.{◌==◌, ◌&&◌}
use Rattle.std.specs.List.{list_all}
use Rattle.columns_core.specs.declared.data_type.Field.{Field}
use Rattle.parquet_statistics.specs.LeafTypes.{Columned, has_single_dictionaries}
use Rattle.parquet_statistics.proofs.ColumnCounts.{columned_of_large, columned_of_list, columned_of_map, few, leaf_count, one_of_few, single_of_dictionary, single_of_struct, single_of_values}
use Rattle.parquet_statistics.proofs.LayerLemmas.{inside_values}
use Rattle.parquet_statistics.proofs.carried_types.+has_single_dictionaries.Goals as goal

pub has_single_dictionaries-returns-then-has_single_dictionaries : goal.has_single_dictionaries-returns-then-has_single_dictionaries
has_single_dictionaries-returns-then-has_single_dictionaries t c =
    let value = c.in-Dictionary.value in
    let own = ap has_single_dictionaries (sym c.get.ensures) ∙ sym c.has_single_dictionaries.ensures ∙ c.if-has_single_dictionaries.true in
    ap (λ n. n == 1) (c.few_columns.ensures ∙ ap few c.get-then-has_single_dictionaries.ensures) ∙ one_of_few (leaf_count value)
    ∙ ap (λ b. b && leaf_count value == 1) (sym own)
    ∙ sym (single_of_dictionary c.in-Dictionary.field-0 value c.in-Dictionary.field-2) ∙ ap has_single_dictionaries (sym c.in-Dictionary.is)

pub has_single_dictionaries-returns-else-has_single_dictionaries : goal.has_single_dictionaries-returns-else-has_single_dictionaries
has_single_dictionaries-returns-else-has_single_dictionaries t c =
    let value = c.in-Dictionary.value in
    let own = ap has_single_dictionaries (sym c.get.ensures) ∙ sym c.has_single_dictionaries.ensures ∙ c.if-has_single_dictionaries.false in
    c.if-has_single_dictionaries.false ∙ ap (λ b. b && leaf_count value == 1) (sym own)
    ∙ sym (single_of_dictionary c.in-Dictionary.field-0 value c.in-Dictionary.field-2) ∙ ap has_single_dictionaries (sym c.in-Dictionary.is)

pub has_single_dictionaries-returns-in-List : goal.has_single_dictionaries-returns-in-List
has_single_dictionaries-returns-in-List t c =
    c.has_single_dictionaries-in-List.ensures ∙ ap (λ (field : Field). has_single_dictionaries field.data_type) c.get-in-List.ensures ∙ ap (λ (inner : Columned). inner.has_single) (sym (columned_of_list c.in-List.field)) ∙ ap has_single_dictionaries (sym c.in-List.is)

pub has_single_dictionaries-returns-in-LargeList : goal.has_single_dictionaries-returns-in-LargeList
has_single_dictionaries-returns-in-LargeList t c =
    c.has_single_dictionaries-in-LargeList.ensures ∙ ap (λ (field : Field). has_single_dictionaries field.data_type) c.get-in-LargeList.ensures ∙ ap (λ (inner : Columned). inner.has_single) (sym (columned_of_large c.in-LargeList.field)) ∙ ap has_single_dictionaries (sym c.in-LargeList.is)

pub has_single_dictionaries-returns-in-Map : goal.has_single_dictionaries-returns-in-Map
has_single_dictionaries-returns-in-Map t c =
    c.has_single_dictionaries-in-Map.ensures ∙ ap (λ (field : Field). has_single_dictionaries field.data_type) c.get-in-Map.ensures ∙ ap (λ (inner : Columned). inner.has_single) (sym (columned_of_map c.in-Map.field _)) ∙ ap has_single_dictionaries (sym c.in-Map.is)

pub has_single_dictionaries-returns-in-Struct : goal.has_single_dictionaries-returns-in-Struct
has_single_dictionaries-returns-in-Struct t c =
    c.have_single_dictionaries.ensures ∙ ap (λ (fields : List Field). list_all (λ field. has_single_dictionaries field.data_type) fields) c.as_slice.ensures
    ∙ sym (single_of_struct c.in-Struct.fields) ∙ ap has_single_dictionaries (sym c.in-Struct.is)

pub has_single_dictionaries-returns-in_default : goal.has_single_dictionaries-returns-in_default
has_single_dictionaries-returns-in_default t c =
    sym (single_of_values c.args.data_type.now (inside_values c.args.data_type.now c.in_default.not-Dictionary c.in_default.not-List c.in_default.not-LargeList c.in_default.not-Struct c.in_default.not-Map))
