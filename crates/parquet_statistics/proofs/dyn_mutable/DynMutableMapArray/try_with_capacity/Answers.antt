use Rattle.std.proofs.Common.{◌≡◌, ◌∙◌, ap, sym, true}
use Rattle.std.specs.Prelude.{Some}
use Rattle.std.proofs.lemmas.Result.{err_from_is_err_and}
use Rattle.columns_core.specs.Nested.{map_type}
use Rattle.columns_core.specs.declared.data_type.Field.{Field}
use Rattle.parquet_statistics.specs.BuiltTypes.{is_empty_of, type_refusals}
use Rattle.parquet_statistics.specs.declared.dyn_mutable.DynMutable.{Map}
use Rattle.parquet_statistics.proofs.EmptyLemmas.{map_so}
use Rattle.parquet_statistics.proofs.RefusalLemmas.{as_refused}
use Rattle.parquet_statistics.proofs.ShapeLemmas.{inside_refused, on_ok, shaped, so_ok}
use Rattle.parquet_statistics.proofs.TypeRefusals.{pairs_of_map, refusals_of_map}
use Rattle.parquet_statistics.proofs.dyn_mutable.DynMutableMapArray.try_with_capacity.Goals as goal

pub returns-in_err-inner-in-Map-clause-err : goal.returns-in_err-inner-in-Map-clause-err
returns-in_err-inner-in-Map-clause-err c =
    let p = err_from_is_err_and c.from_residual.result c.from_residual.ensures.1 in
    rw (p.1, p.2) (inside_refused (map_type c.args.data_type) c.args.data_type c.in_err-inner-in-Map.field-0.0
    (as_refused c.in_err-inner-in-Map.field-0.0 _ _ (ap (λ (field : Field). type_refusals field.data_type) c.get.ensures ∙ sym (refusals_of_map c.in-Map.field _) ∙ ap type_refusals (sym c.in-Map.is)) c.in_err-inner-in-Map.ensures.err))

pub returns-in-Map-clause-empty : goal.returns-in-Map-clause-empty
returns-in-Map-clause-empty c =
    so_ok c.map_over.result (λ builder. (builder.data_type ≡ c.args.data_type) × (builder.inner.value ≡ c.in_ok-inner-in-Map.inner)) (λ builder. is_empty_of c.args.data_type (Map builder) ≡ true)
    (λ builder over. map_so c.args.data_type c.get.result.now.data_type c.in_ok-inner-in-Map.inner c.in_ok-inner-in-Map.ensures.empty builder (ap map_type c.in-Map.is ∙ pairs_of_map c.in-Map.field _ ∙ ap (λ (field : Field). Some field.data_type) (sym c.get.ensures)) over)
    c.map_over.ensures.over

pub returns-in-Map-clause-ok : goal.returns-in-Map-clause-ok
returns-in-Map-clause-ok c =
    on_ok c.map_over.result _ (shaped (map_type c.args.data_type) c.args.data_type _ (ap map_type c.in-Map.is ∙ pairs_of_map c.in-Map.field _ ∙ ap (λ (field : Field). Some field.data_type) (sym c.get.ensures)) (sym (ap (λ (field : Field). type_refusals field.data_type) c.get.ensures ∙ sym (refusals_of_map c.in-Map.field _) ∙ ap type_refusals (sym c.in-Map.is)) ∙ c.in_ok-inner-in-Map.ensures.ok))
