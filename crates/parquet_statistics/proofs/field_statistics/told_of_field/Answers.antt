use Rattle.std.proofs.Common.{◌≡◌, ◌∙◌, Bor, List, [], ap, ap₂, length, map, subst, sym}
use Rattle.std.specs.Global.{Global}
use Rattle.std.specs.Prelude.{Vec, flat_map}
use Rattle.std.specs.List.{AllByRecursion}
use Rattle.std.proofs.lemmas.List.{length-map}
use Rattle.std.proofs.lemmas.Result.{err_from_is_err_and}
use Rattle.columns_core.specs.declared.data_type.DataType.{DataType}
use Rattle.parquet_meta.specs.declared.metadata.ColumnChunkMetaData.{ColumnChunkMetaData}
use Rattle.parquet_statistics.specs.Deserialized.{columns_in, group_causes_of_field}
use Rattle.parquet_statistics.specs.LeafTypes.{leaf_types}
use Rattle.parquet_statistics.specs.Parts.{causes_by_column, uneven_causes}
use Rattle.parquet_statistics.proofs.FieldLemmas.{column_part, comes_more, groups_well, ok_so}
use Rattle.parquet_statistics.proofs.ToldLemmas.{IsPartOf, even_columns, told_of_part, uneven_part}
use Rattle.parquet_statistics.proofs.field_statistics.told_of_field.Goals as goal

abbrev type : Bor DataType → DataType
type t = t.now

abbrev shown : Vec (Bor ColumnChunkMetaData) Global → List ColumnChunkMetaData
shown columns = map (λ (column : Bor ColumnChunkMetaData). column.now) columns.items

pub returns-in_err-columns-clause-cause : goal.returns-in_err-columns-clause-cause
returns-in_err-columns-clause-cause c =
    let p = err_from_is_err_and c.from_residual.result c.from_residual.ensures.1 in
    let field = c.args.field.now in
    let groups = c.args.row_groups.now in
    let all = flat_map (group_causes_of_field field) groups in
    let count = sym (length-map c.args.types.now type) ∙ ap length c.requires.types in
    rw (p.1, p.2)
    (told_of_part (flat_map (uneven_causes (length c.args.types.now) field) groups) all c.in_err-columns.field-0.0
    (subst (λ n. IsPartOf (flat_map (uneven_causes n field) groups) all) (sym count) (uneven_part field groups)) c.in_err-columns.ensures.cause)

pub told_of_columns-requires : goal.told_of_columns-requires
told_of_columns-requires c =
    let field = c.args.field.now in
    let groups = c.args.row_groups.now in
    let count = sym (length-map c.args.types.now type) ∙ ap length c.requires.types in
    let even = subst (λ n. flat_map (uneven_causes n field) groups ≡ []) count c.in_ok-columns.ensures.ok in
    let columns = ap (map shown) c.deref.ensures.value ∙ c.in_ok-columns.ensures.columns in
    record {
      even = subst (λ n. AllByRecursion (λ (columns : List ColumnChunkMetaData). length columns ≡ n) (map shown c.deref.result.now)) (sym count)
          (subst (λ all. AllByRecursion (λ (columns : List ColumnChunkMetaData). length columns ≡ length (leaf_types field.data_type)) all) (sym columns) (even_columns field groups even));
    }

pub returns-clause-ok : goal.returns-clause-ok
returns-clause-ok c =
    let field = c.args.field.now in
    let groups = c.args.row_groups.now in
    let count = sym (length-map c.args.types.now type) ∙ ap length c.requires.types in
    let even = subst (λ n. flat_map (uneven_causes n field) groups ≡ []) count c.in_ok-columns.ensures.ok in
    let columns = ap (map shown) c.deref.ensures.value ∙ c.in_ok-columns.ensures.columns in
    let same : causes_by_column (leaf_types field.data_type) (map (columns_in field) groups) ≡ causes_by_column (map type c.args.types.now) (map shown c.deref.result.now) =
    ap₂ causes_by_column (sym c.requires.types) (sym columns) in
    ok_so c.told_of_columns.result _ _ (λ none. groups_well field groups even (same ∙ none)) c.told_of_columns.ensures.ok

pub returns-clause-cause : goal.returns-clause-cause
returns-clause-cause c =
    let field = c.args.field.now in
    let groups = c.args.row_groups.now in
    let count = sym (length-map c.args.types.now type) ∙ ap length c.requires.types in
    let even = subst (λ n. flat_map (uneven_causes n field) groups ≡ []) count c.in_ok-columns.ensures.ok in
    let columns = ap (map shown) c.deref.ensures.value ∙ c.in_ok-columns.ensures.columns in
    let same : causes_by_column (leaf_types field.data_type) (map (columns_in field) groups) ≡ causes_by_column (map type c.args.types.now) (map shown c.deref.result.now) =
    ap₂ causes_by_column (sym c.requires.types) (sym columns) in
    let all = flat_map (group_causes_of_field field) groups in
    comes_more c.told_of_columns.result (causes_by_column (map type c.args.types.now) (map shown c.deref.result.now)) all
    (subst (λ some. IsPartOf some all) same (column_part field groups even)) c.told_of_columns.ensures.cause
