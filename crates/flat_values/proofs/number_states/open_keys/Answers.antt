use Rattle.std.proofs.Common.{◌<◌, ◌∙◌, List, None, Some, arith, refl, subst, sym}
use Rattle.std.proofs.lemmas.Result.{err_from_is_err_and}
use Rattle.columns_core.specs.Causes.{Cause, IsOneOf, cause_of}
use Rattle.parquet_page.specs.Values.{Keys}
use Rattle.flat_values.specs.KeysLeft.{keys}
use Rattle.flat_values.specs.Outcomes.{value_causes, value_outcomes}
use Rattle.flat_values.specs.declared.value_decoder.ValueEncoding.TheVariants as read
use Rattle.flat_values.proofs.NumberPlaces.{opens_keys}
use Rattle.flat_values.proofs.StateLemmas.{keys_alone, some_counted, some_stored}
use Rattle.flat_values.proofs.number_states.open_keys.Goals as goal

pub returns-in_err-open-clause-cause : goal.returns-in_err-open-clause-cause
returns-in_err-open-clause-cause c type =
    let p = err_from_is_err_and c.from_residual.result c.from_residual.ensures.1 in
    let some : 0 < c.args.count = omega arith in
    let P : List Cause → Type 0 = λ causes. IsOneOf causes (cause_of c.in_err-open.field-0.0) in
    let same = some_counted c.args.count (value_causes type None Keys c.args.bytes.now c.args.count) some ∙ keys_alone type c.args.bytes.now c.args.count in
    rw (p.1, p.2) (subst P (sym same) c.in_err-open.ensures.cause)

pub returns-clause-values : goal.returns-clause-values
returns-clause-values c rule type entries =
    let some : 0 < c.args.count = omega arith in
    some_stored c.args.count (value_outcomes rule type (Some entries) Keys c.args.bytes.now c.args.count) some
    ∙ opens_keys rule type (Some entries) read.Keys c.args.bytes.now c.args.count (keys c.in_ok-open.field-0 c.args.bytes.now) refl c.in_ok-open.ensures.keys

pub returns-clause-ok : goal.returns-clause-ok
returns-clause-ok c type =
    let some : 0 < c.args.count = omega arith in
    some_counted c.args.count (value_causes type None Keys c.args.bytes.now c.args.count) some ∙ keys_alone type c.args.bytes.now c.args.count ∙ c.in_ok-open.ensures.ok
