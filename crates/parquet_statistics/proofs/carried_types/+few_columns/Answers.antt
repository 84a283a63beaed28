use Rattle.std.proofs.Common.{◌∙◌, List, ap, min, sum_by, sym}
use Rattle.columns_core.specs.declared.data_type.Field.{Field}
use Rattle.parquet_statistics.proofs.ColumnCounts.{columned_of_large, columned_of_list, columned_of_map, few, few_of_dictionary, few_of_struct, few_of_values, leaf_count}
use Rattle.parquet_statistics.specs.LeafTypes.{Columned}
use Rattle.parquet_statistics.proofs.LayerLemmas.{inside_values}
use Rattle.parquet_statistics.proofs.carried_types.+few_columns.Goals as goal

pub few_columns-returns-in-Dictionary : goal.few_columns-returns-in-Dictionary
few_columns-returns-in-Dictionary t c =
    c.few_columns.ensures ∙ ap few c.get.ensures ∙ sym (few_of_dictionary c.in-Dictionary.field-0 c.in-Dictionary.value c.in-Dictionary.field-2) ∙ ap few (sym c.in-Dictionary.is)

pub few_columns-returns-in-List : goal.few_columns-returns-in-List
few_columns-returns-in-List t c =
    c.few_columns-in-List.ensures ∙ ap (λ (field : Field). few field.data_type) c.get-in-List.ensures ∙ ap (λ (inner : Columned). min 2 inner.leaf_count) (sym (columned_of_list c.in-List.field)) ∙ ap few (sym c.in-List.is)

pub few_columns-returns-in-LargeList : goal.few_columns-returns-in-LargeList
few_columns-returns-in-LargeList t c =
    c.few_columns-in-LargeList.ensures ∙ ap (λ (field : Field). few field.data_type) c.get-in-LargeList.ensures ∙ ap (λ (inner : Columned). min 2 inner.leaf_count) (sym (columned_of_large c.in-LargeList.field)) ∙ ap few (sym c.in-LargeList.is)

pub few_columns-returns-in-Map : goal.few_columns-returns-in-Map
few_columns-returns-in-Map t c =
    c.few_columns-in-Map.ensures ∙ ap (λ (field : Field). few field.data_type) c.get-in-Map.ensures ∙ ap (λ (inner : Columned). min 2 inner.leaf_count) (sym (columned_of_map c.in-Map.field _)) ∙ ap few (sym c.in-Map.is)

pub few_columns-returns-in-Struct : goal.few_columns-returns-in-Struct
few_columns-returns-in-Struct t c =
    c.few_columns_of_fields.ensures ∙ ap (λ (fields : List Field). min 2 (sum_by (λ field. leaf_count field.data_type) fields)) c.as_slice.ensures
    ∙ sym (few_of_struct c.in-Struct.fields) ∙ ap few (sym c.in-Struct.is)

pub few_columns-returns-in_default : goal.few_columns-returns-in_default
few_columns-returns-in_default t c =
    sym (few_of_values c.args.data_type.now (inside_values c.args.data_type.now c.in_default.not-Dictionary c.in_default.not-List c.in_default.not-LargeList c.in_default.not-Struct c.in_default.not-Map))
