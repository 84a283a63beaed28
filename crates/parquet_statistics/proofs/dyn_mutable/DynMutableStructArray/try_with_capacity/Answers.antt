use Rattle.std.proofs.Common.{◌≡◌, ◌∙◌, List, ap, map, sym, true}
use Rattle.std.specs.Prelude.{Some}
use Rattle.std.proofs.lemmas.Result.{err_from_is_err_and}
use Rattle.columns_core.specs.Nested.{field_types}
use Rattle.columns_core.specs.declared.data_type.Field.{Field}
use Rattle.parquet_statistics.specs.BuiltTypes.{is_empty_of, refusals_of_fields, type_refusals}
use Rattle.parquet_statistics.specs.declared.dyn_mutable.DynMutable.{Struct}
use Rattle.parquet_statistics.proofs.EmptyLemmas.{struct_so}
use Rattle.parquet_statistics.proofs.RefusalLemmas.{as_refused}
use Rattle.parquet_statistics.proofs.ShapeLemmas.{inside_refused, on_ok, shaped, so_ok}
use Rattle.parquet_statistics.proofs.TypeRefusals.{fields_of_struct, refusals_of_struct}
use Rattle.parquet_statistics.proofs.dyn_mutable.DynMutableStructArray.try_with_capacity.Goals as goal

pub returns-in_err-inner-in-Struct-clause-err : goal.returns-in_err-inner-in-Struct-clause-err
returns-in_err-inner-in-Struct-clause-err c =
    let p = err_from_is_err_and c.from_residual.result c.from_residual.ensures.1 in
    rw (p.1, p.2) (inside_refused (field_types c.args.data_type) c.args.data_type c.in_err-inner-in-Struct.field-0.0
    (as_refused c.in_err-inner-in-Struct.field-0.0 _ _ (ap refusals_of_fields c.as_slice.ensures ∙ sym (refusals_of_struct c.in-Struct.fields) ∙ ap type_refusals (sym c.in-Struct.is)) c.in_err-inner-in-Struct.ensures.err))

pub returns-in-Struct-clause-empty : goal.returns-in-Struct-clause-empty
returns-in-Struct-clause-empty c =
    so_ok c.struct_over.result (λ builder. (builder.data_type ≡ c.args.data_type) × (builder.inner ≡ c.in_ok-inner-in-Struct.inner)) (λ builder. is_empty_of c.args.data_type (Struct builder) ≡ true)
    (λ builder over. struct_so c.args.data_type c.as_slice.result.now c.in_ok-inner-in-Struct.inner.items builder (ap field_types c.in-Struct.is ∙ fields_of_struct c.in-Struct.fields ∙ ap (λ (fields : List Field). Some (map (λ (field : Field). field.data_type) fields)) (sym c.as_slice.ensures)) over.0 (λ i. (over.1 i).items) c.in_ok-inner-in-Struct.ensures.empty)
    c.struct_over.ensures.over

pub returns-in-Struct-clause-ok : goal.returns-in-Struct-clause-ok
returns-in-Struct-clause-ok c =
    on_ok c.struct_over.result _ (shaped (field_types c.args.data_type) c.args.data_type _ (ap field_types c.in-Struct.is ∙ fields_of_struct c.in-Struct.fields ∙ ap (λ (fields : List Field). Some (map (λ (field : Field). field.data_type) fields)) (sym c.as_slice.ensures)) (sym (ap refusals_of_fields c.as_slice.ensures ∙ sym (refusals_of_struct c.in-Struct.fields) ∙ ap type_refusals (sym c.in-Struct.is)) ∙ c.in_ok-inner-in-Struct.ensures.ok))
