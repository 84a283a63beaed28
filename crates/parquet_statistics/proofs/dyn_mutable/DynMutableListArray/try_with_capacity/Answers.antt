use Rattle.std.proofs.Common.{◌≡◌, ◌∙◌, ap, sym, true}
use Rattle.std.specs.Prelude.{Some}
use Rattle.std.proofs.lemmas.Result.{err_from_is_err_and}
use Rattle.columns_core.specs.declared.data_type.Field.{Field}
use Rattle.parquet_statistics.specs.BuiltTypes.{is_empty_of, item_type, type_refusals}
use Rattle.parquet_statistics.specs.declared.dyn_mutable.DynMutable.{List as ListBuilder}
use Rattle.parquet_statistics.proofs.EmptyLemmas.{list_so}
use Rattle.parquet_statistics.proofs.RefusalLemmas.{as_refused}
use Rattle.parquet_statistics.proofs.ShapeLemmas.{inside_refused, on_ok, shaped, so_ok}
use Rattle.parquet_statistics.proofs.TypeRefusals.{item_of_large, item_of_list, refusals_of_large, refusals_of_list}
use Rattle.parquet_statistics.proofs.dyn_mutable.DynMutableListArray.try_with_capacity.Goals as goal

pub returns-in_err-inner-in-List-clause-err : goal.returns-in_err-inner-in-List-clause-err
returns-in_err-inner-in-List-clause-err c =
    let p = err_from_is_err_and c.from_residual.result c.from_residual.ensures.1 in
    rw (p.1, p.2) (inside_refused (item_type c.args.data_type) c.args.data_type c.in_err-inner-in-List.field-0.0
    (as_refused c.in_err-inner-in-List.field-0.0 _ _ (ap (λ (field : Field). type_refusals field.data_type) c.get.ensures ∙ sym (refusals_of_list c.in-List.field) ∙ ap type_refusals (sym c.in-List.is)) c.in_err-inner-in-List.ensures.err))

pub returns-in-List-clause-empty : goal.returns-in-List-clause-empty
returns-in-List-clause-empty c =
    so_ok c.list_over.result (λ builder. (builder.data_type ≡ c.args.data_type) × (builder.inner.value ≡ c.in_ok-inner-in-List.inner)) (λ builder. is_empty_of c.args.data_type (ListBuilder builder) ≡ true)
    (λ builder over. list_so c.args.data_type c.get.result.now.data_type c.in_ok-inner-in-List.inner c.in_ok-inner-in-List.ensures.empty builder (ap item_type c.in-List.is ∙ item_of_list c.in-List.field ∙ ap (λ (field : Field). Some field.data_type) (sym c.get.ensures)) over)
    c.list_over.ensures.over

pub returns-in-List-clause-ok : goal.returns-in-List-clause-ok
returns-in-List-clause-ok c =
    on_ok c.list_over.result _ (shaped (item_type c.args.data_type) c.args.data_type _ (ap item_type c.in-List.is ∙ item_of_list c.in-List.field ∙ ap (λ (field : Field). Some field.data_type) (sym c.get.ensures)) (sym (ap (λ (field : Field). type_refusals field.data_type) c.get.ensures ∙ sym (refusals_of_list c.in-List.field) ∙ ap type_refusals (sym c.in-List.is)) ∙ c.in_ok-inner-in-List.ensures.ok))

pub returns-in_err-inner-in-LargeList-clause-err : goal.returns-in_err-inner-in-LargeList-clause-err
returns-in_err-inner-in-LargeList-clause-err c =
    let p = err_from_is_err_and c.from_residual-in_err-inner-in-LargeList.result c.from_residual-in_err-inner-in-LargeList.ensures.1 in
    rw (p.1, p.2) (inside_refused (item_type c.args.data_type) c.args.data_type c.in_err-inner-in-LargeList.field-0.0
    (as_refused c.in_err-inner-in-LargeList.field-0.0 _ _ (ap (λ (field : Field). type_refusals field.data_type) c.get-in-LargeList.ensures ∙ sym (refusals_of_large c.in-LargeList.field) ∙ ap type_refusals (sym c.in-LargeList.is)) c.in_err-inner-in-LargeList.ensures.err))

pub returns-in-LargeList-clause-empty : goal.returns-in-LargeList-clause-empty
returns-in-LargeList-clause-empty c =
    so_ok c.list_over-in-LargeList.result (λ builder. (builder.data_type ≡ c.args.data_type) × (builder.inner.value ≡ c.in_ok-inner-in-LargeList.inner)) (λ builder. is_empty_of c.args.data_type (ListBuilder builder) ≡ true)
    (λ builder over. list_so c.args.data_type c.get-in-LargeList.result.now.data_type c.in_ok-inner-in-LargeList.inner c.in_ok-inner-in-LargeList.ensures.empty builder (ap item_type c.in-LargeList.is ∙ item_of_large c.in-LargeList.field ∙ ap (λ (field : Field). Some field.data_type) (sym c.get-in-LargeList.ensures)) over)
    c.list_over-in-LargeList.ensures.over

pub returns-in-LargeList-clause-ok : goal.returns-in-LargeList-clause-ok
returns-in-LargeList-clause-ok c =
    on_ok c.list_over-in-LargeList.result _ (shaped (item_type c.args.data_type) c.args.data_type _ (ap item_type c.in-LargeList.is ∙ item_of_large c.in-LargeList.field ∙ ap (λ (field : Field). Some field.data_type) (sym c.get-in-LargeList.ensures)) (sym (ap (λ (field : Field). type_refusals field.data_type) c.get-in-LargeList.ensures ∙ sym (refusals_of_large c.in-LargeList.field) ∙ ap type_refusals (sym c.in-LargeList.is)) ∙ c.in_ok-inner-in-LargeList.ensures.ok))
