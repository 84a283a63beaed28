use Rattle.std.proofs.Common.{◌∙◌, List, subst, sym}
use Rattle.std.specs.Prelude.{option_copied}
use Rattle.std.proofs.lemmas.Result.{err_from_is_err_and}
use Rattle.columns_core.specs.Causes.{Cause, IsOneOf, cause_of}
use Rattle.parquet_encoding.specs.DeltaLeft.{numbers}
use Rattle.flat_values.specs.KeysLeft.{keys}
use Rattle.flat_values.specs.NumbersLeft.{plain_left}
use Rattle.flat_values.proofs.NumberPlaces.{delta_causes, keys_causes, opens_deltas, opens_keys, opens_plain, plain_causes}
use Rattle.flat_values.proofs.number_values.NumberValuesValueDecoder.open.Goals as goal

pub returns-in_err-open_plain-in-Plain-clause-cause : goal.returns-in_err-open_plain-in-Plain-clause-cause
returns-in_err-open_plain-in-Plain-clause-cause g c =
    let p = err_from_is_err_and c.from_residual.result c.from_residual.ensures.1 in
    let P : List Cause → Type 0 = λ causes. IsOneOf causes (cause_of c.in_err-open_plain-in-Plain.field-0.0) in
    rw (p.1, p.2) (subst P (sym (plain_causes g.P.ParquetNativeType.physical _ c.args.encoding c.args.bytes.now c.args.count c.in-Plain.is)) c.in_err-open_plain-in-Plain.ensures.cause)

pub returns-in_ok-open_plain-in-Plain-clause-values : goal.returns-in_ok-open_plain-in-Plain-clause-values
returns-in_ok-open_plain-in-Plain-clause-values g c =
    opens_plain (g.C.Convert.rule c.args.self.now.rule) g.P.ParquetNativeType.physical _ c.args.encoding c.args.bytes.now c.args.count (plain_left g.P.ParquetNativeType.physical c.args.bytes.now c.in_ok-open_plain-in-Plain.field-0) c.in-Plain.is c.in_ok-open_plain-in-Plain.ensures.values

pub returns-in_ok-open_plain-in-Plain-clause-ok : goal.returns-in_ok-open_plain-in-Plain-clause-ok
returns-in_ok-open_plain-in-Plain-clause-ok g c =
    plain_causes g.P.ParquetNativeType.physical _ c.args.encoding c.args.bytes.now c.args.count c.in-Plain.is ∙ c.in_ok-open_plain-in-Plain.ensures.ok

pub returns-in_err-open-in-Keys-clause-cause : goal.returns-in_err-open-in-Keys-clause-cause
returns-in_err-open-in-Keys-clause-cause g c =
    let p = err_from_is_err_and c.from_residual-in_err-open-in-Keys.result c.from_residual-in_err-open-in-Keys.ensures.1 in
    let P : List Cause → Type 0 = λ causes. IsOneOf causes (cause_of c.in_err-open-in-Keys.field-0.0) in
    rw (p.1, p.2) (subst P (sym (keys_causes g.T.NativeType.cell (option_copied c.args.dict) (λ v. v.items) c.entry_count-entries.result g.P.ParquetNativeType.physical c.args.encoding c.args.bytes.now c.args.count c.in-Keys.is c.entry_count-entries.ensures)) c.in_err-open-in-Keys.ensures.cause)

pub returns-in_ok-open-in-Keys-clause-values : goal.returns-in_ok-open-in-Keys-clause-values
returns-in_ok-open-in-Keys-clause-values g c =
    opens_keys (g.C.Convert.rule c.args.self.now.rule) g.P.ParquetNativeType.physical _ c.args.encoding c.args.bytes.now c.args.count (keys c.in_ok-open-in-Keys.field-0 c.args.bytes.now) c.in-Keys.is c.in_ok-open-in-Keys.ensures.keys

pub returns-in_ok-open-in-Keys-clause-ok : goal.returns-in_ok-open-in-Keys-clause-ok
returns-in_ok-open-in-Keys-clause-ok g c =
    keys_causes g.T.NativeType.cell (option_copied c.args.dict) (λ v. v.items) c.entry_count-entries.result g.P.ParquetNativeType.physical c.args.encoding c.args.bytes.now c.args.count c.in-Keys.is c.entry_count-entries.ensures ∙ c.in_ok-open-in-Keys.ensures.ok

pub returns-in_err-open_deltas-in-DeltaPacked-clause-cause : goal.returns-in_err-open_deltas-in-DeltaPacked-clause-cause
returns-in_err-open_deltas-in-DeltaPacked-clause-cause g c =
    let p = err_from_is_err_and c.from_residual-in_err-open_deltas-in-DeltaPacked.result c.from_residual-in_err-open_deltas-in-DeltaPacked.ensures.1 in
    let P : List Cause → Type 0 = λ causes. IsOneOf causes (cause_of c.in_err-open_deltas-in-DeltaPacked.field-0.0) in
    rw (p.1, p.2) (subst P (sym (delta_causes g.P.ParquetNativeType.physical _ c.args.encoding c.args.bytes.now c.args.count c.in-DeltaPacked.is)) c.in_err-open_deltas-in-DeltaPacked.ensures.cause)

pub returns-in_ok-open_deltas-in-DeltaPacked-clause-values : goal.returns-in_ok-open_deltas-in-DeltaPacked-clause-values
returns-in_ok-open_deltas-in-DeltaPacked-clause-values g c =
    opens_deltas (g.C.Convert.rule c.args.self.now.rule) g.P.ParquetNativeType.physical g.P.ParquetNativeType.delta _ c.args.encoding c.args.bytes.now c.args.count (numbers c.in_ok-open_deltas-in-DeltaPacked.field-0 c.args.bytes.now) c.in-DeltaPacked.is c.in_ok-open_deltas-in-DeltaPacked.ensures.values

pub returns-in_ok-open_deltas-in-DeltaPacked-clause-ok : goal.returns-in_ok-open_deltas-in-DeltaPacked-clause-ok
returns-in_ok-open_deltas-in-DeltaPacked-clause-ok g c =
    delta_causes g.P.ParquetNativeType.physical _ c.args.encoding c.args.bytes.now c.args.count c.in-DeltaPacked.is ∙ c.in_ok-open_deltas-in-DeltaPacked.ensures.ok
