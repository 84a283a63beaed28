use Rattle.std.proofs.Common.{◌≡◌, ◌∙◌, List, [], sym, subst}
use Rattle.std.specs.Prelude.{OnOk}
use Rattle.std.proofs.lemmas.Result.{err_from_is_err_and}
use Rattle.columns_core.specs.Causes.{Cause, ComesOf, IsWantOfMemory, cause_of}
use Rattle.parquet_read.proofs.AskedLemmas.{form_err, form_left}
use Rattle.parquet_read.proofs.asked.check_form.Goals as goal

pub returns-in_err-check_column-clause-cause : goal.returns-in_err-check_column-clause-cause
returns-in_err-check_column-clause-cause c =
    let p = err_from_is_err_and c.from_residual.result c.from_residual.ensures.1 in
    let e = c.in_err-check_column.field-0.0 in
    let here = sym c.is_here.ensures ∙ c.if-not-is_here.false in
    rw (p.1, p.2) (form_err c.args.data_type.now c.args.column.now (cause_of e) (IsWantOfMemory e) here c.in_err-check_column.ensures.cause)

pub returns : goal.returns
returns c =
    let here = sym c.is_here.ensures ∙ c.if-not-is_here.false in
    let same = form_left c.args.data_type.now c.args.column.now here c.in_ok-check_column.ensures.ok in
    record {
      ok = subst (λ (causes : List Cause). OnOk c.check_type.result (causes ≡ [])) same c.check_type.ensures.ok;
      cause = subst (λ (causes : List Cause). ComesOf c.check_type.result causes) same c.check_type.ensures.cause;
    }
