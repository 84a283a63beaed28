use Rattle.std.proofs.Common.{◌<◌, ◌∙◌, List, None, arith, refl, subst, sym}
use Rattle.std.proofs.lemmas.Result.{err_from_is_err_and}
use Rattle.columns_core.specs.Causes.{Cause, IsOneOf, cause_of}
use Rattle.parquet_meta.specs.declared.metadata.PhysicalType.TheVariants.{ByteArray}
use Rattle.parquet_page.specs.Values.{Plain}
use Rattle.flat_values.specs.Outcomes.{value_causes, value_outcomes}
use Rattle.flat_values.specs.PlainStrings.{plain_strings}
use Rattle.flat_values.specs.declared.value_decoder.ValueEncoding.TheVariants as read
use Rattle.flat_values.proofs.NumberPlaces.{opens_plain, plain_causes}
use Rattle.flat_values.proofs.StateLemmas.{some_counted, some_stored}
use Rattle.flat_values.proofs.string_states.open_values.Goals as goal

pub returns-in_err-open_strings-clause-cause : goal.returns-in_err-open_strings-clause-cause
returns-in_err-open_strings-clause-cause c =
    let p = err_from_is_err_and c.from_residual.result c.from_residual.ensures.1 in
    let some : 0 < c.args.count = omega arith in
    let P : List Cause → Type 0 = λ causes. IsOneOf causes (cause_of c.in_err-open_strings.field-0.0) in
    let same = some_counted c.args.count (value_causes ByteArray None Plain c.args.bytes.now c.args.count) some ∙ plain_causes ByteArray None read.Plain c.args.bytes.now c.args.count refl in
    rw (p.1, p.2) (subst P (sym same) c.in_err-open_strings.ensures.cause)

pub returns-clause-values : goal.returns-clause-values
returns-clause-values c rule =
    let some : 0 < c.args.count = omega arith in
    some_stored c.args.count (value_outcomes rule ByteArray None Plain c.args.bytes.now c.args.count) some
    ∙ opens_plain rule ByteArray None read.Plain c.args.bytes.now c.args.count (plain_strings c.args.bytes.now c.in_ok-open_strings.field-0) refl c.in_ok-open_strings.ensures.values

pub returns-clause-ok : goal.returns-clause-ok
returns-clause-ok c =
    let some : 0 < c.args.count = omega arith in
    some_counted c.args.count (value_causes ByteArray None Plain c.args.bytes.now c.args.count) some
    ∙ plain_causes ByteArray None read.Plain c.args.bytes.now c.args.count refl ∙ c.in_ok-open_strings.ensures.ok
