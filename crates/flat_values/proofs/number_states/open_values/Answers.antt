use Rattle.std.proofs.Common.{◌<◌, ◌∙◌, List, None, arith, refl, subst, sym}
use Rattle.std.proofs.lemmas.Result.{err_from_is_err_and}
use Rattle.columns_core.specs.Causes.{Cause, IsOneOf, cause_of}
use Rattle.parquet_page.specs.Values.{Plain}
use Rattle.flat_values.specs.NumbersLeft.{plain_left}
use Rattle.flat_values.specs.Outcomes.{value_causes, value_outcomes}
use Rattle.flat_values.specs.declared.value_decoder.ValueEncoding.TheVariants as read
use Rattle.flat_values.proofs.NumberPlaces.{opens_plain, plain_causes}
use Rattle.flat_values.proofs.StateLemmas.{some_counted, some_stored}
use Rattle.flat_values.proofs.number_states.open_values.Goals as goal

pub returns-in_err-open_plain-clause-cause : goal.returns-in_err-open_plain-clause-cause
returns-in_err-open_plain-clause-cause g c =
    let p = err_from_is_err_and c.from_residual.result c.from_residual.ensures.1 in
    let physical = g.P.ParquetNativeType.physical in
    let some : 0 < c.args.count = omega arith in
    let P : List Cause → Type 0 = λ causes. IsOneOf causes (cause_of c.in_err-open_plain.field-0.0) in
    let same = some_counted c.args.count (value_causes physical None Plain c.args.bytes.now c.args.count) some ∙ plain_causes physical None read.Plain c.args.bytes.now c.args.count refl in
    rw (p.1, p.2) (subst P (sym same) c.in_err-open_plain.ensures.cause)

pub returns-clause-values : goal.returns-clause-values
returns-clause-values g c rule =
    let physical = g.P.ParquetNativeType.physical in
    let some : 0 < c.args.count = omega arith in
    some_stored c.args.count (value_outcomes rule physical None Plain c.args.bytes.now c.args.count) some
    ∙ opens_plain rule physical None read.Plain c.args.bytes.now c.args.count (plain_left physical c.args.bytes.now c.in_ok-open_plain.field-0) refl c.in_ok-open_plain.ensures.values

pub returns-clause-ok : goal.returns-clause-ok
returns-clause-ok g c =
    let physical = g.P.ParquetNativeType.physical in
    let some : 0 < c.args.count = omega arith in
    some_counted c.args.count (value_causes physical None Plain c.args.bytes.now c.args.count) some
    ∙ plain_causes physical None read.Plain c.args.bytes.now c.args.count refl ∙ c.in_ok-open_plain.ensures.ok
