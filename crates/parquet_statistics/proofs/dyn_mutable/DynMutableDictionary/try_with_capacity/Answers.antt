use Rattle.std.proofs.Common.{◌≡◌, ◌∙◌, ap, sym, true}
use Rattle.std.specs.Prelude.{Some}
use Rattle.std.proofs.lemmas.Result.{err_from_is_err_and}
use Rattle.columns_core.specs.DictionaryType.{entry_type}
use Rattle.parquet_statistics.specs.BuiltTypes.{is_empty_of, type_refusals}
use Rattle.parquet_statistics.specs.declared.dyn_mutable.DynMutable.{Dictionary}
use Rattle.parquet_statistics.proofs.EmptyLemmas.{dictionary_so}
use Rattle.parquet_statistics.proofs.RefusalLemmas.{as_refused}
use Rattle.parquet_statistics.proofs.ShapeLemmas.{inside_refused, on_ok, shaped, so_ok}
use Rattle.parquet_statistics.proofs.TypeRefusals.{entry_of_dictionary, refusals_of_dictionary}
use Rattle.parquet_statistics.proofs.dyn_mutable.DynMutableDictionary.try_with_capacity.Goals as goal

pub returns-in_err-inner-in-Dictionary-clause-err : goal.returns-in_err-inner-in-Dictionary-clause-err
returns-in_err-inner-in-Dictionary-clause-err c =
    let p = err_from_is_err_and c.from_residual.result c.from_residual.ensures.1 in
    rw (p.1, p.2) (inside_refused (entry_type c.args.data_type) c.args.data_type c.in_err-inner-in-Dictionary.field-0.0
    (as_refused c.in_err-inner-in-Dictionary.field-0.0 _ _ (ap type_refusals c.get.ensures ∙ sym (refusals_of_dictionary c.in-Dictionary.field-0 c.in-Dictionary.value c.in-Dictionary.field-2) ∙ ap type_refusals (sym c.in-Dictionary.is)) c.in_err-inner-in-Dictionary.ensures.err))

pub returns-in-Dictionary-clause-empty : goal.returns-in-Dictionary-clause-empty
returns-in-Dictionary-clause-empty c =
    so_ok c.dictionary_over.result (λ builder. (builder.data_type ≡ c.args.data_type) × (builder.inner.value ≡ c.in_ok-inner-in-Dictionary.inner)) (λ builder. is_empty_of c.args.data_type (Dictionary builder) ≡ true)
    (λ builder over. dictionary_so c.args.data_type c.get.result.now c.in_ok-inner-in-Dictionary.inner c.in_ok-inner-in-Dictionary.ensures.empty builder (ap entry_type c.in-Dictionary.is ∙ entry_of_dictionary c.in-Dictionary.field-0 c.in-Dictionary.value c.in-Dictionary.field-2 ∙ ap Some (sym c.get.ensures)) over)
    c.dictionary_over.ensures.over

pub returns-in-Dictionary-clause-ok : goal.returns-in-Dictionary-clause-ok
returns-in-Dictionary-clause-ok c =
    on_ok c.dictionary_over.result _ (shaped (entry_type c.args.data_type) c.args.data_type _ (ap entry_type c.in-Dictionary.is ∙ entry_of_dictionary c.in-Dictionary.field-0 c.in-Dictionary.value c.in-Dictionary.field-2 ∙ ap Some (sym c.get.ensures)) (sym (ap type_refusals c.get.ensures ∙ sym (refusals_of_dictionary c.in-Dictionary.field-0 c.in-Dictionary.value c.in-Dictionary.field-2) ∙ ap type_refusals (sym c.in-Dictionary.is)) ∙ c.in_ok-inner-in-Dictionary.ensures.ok))
