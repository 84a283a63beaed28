use Rattle.std.proofs.Common.{◌∙◌, List, subst, sym}
use Rattle.std.specs.Option.{option_copied}
use Rattle.columns_core.specs.Causes.{Cause, IsOneOf, cause_of}
use Rattle.parquet_encoding.specs.JoinedLeft.{joined_values}
use Rattle.parquet_encoding.specs.PlainLeft.{strings}
use Rattle.parquet_meta.specs.declared.metadata.PhysicalType.TheVariants.{ByteArray}
use Rattle.parquet_page.proofs.RefusalLemmas.{passed_on}
use Rattle.flat_values.specs.KeysLeft.{keys}
use Rattle.flat_values.proofs.NumberPlaces.{keys_causes, opens_keys}
use Rattle.binary_values.specs.ByteStrings.{byte_cell, byte_rule, byte_entries}
use Rattle.binary_values.proofs.DictLemmas.{joined-fine, joined-outcomes, joined-wrong, plain-fine, plain-outcomes, plain-wrong}
use Rattle.binary_values.proofs.byte_values.ByteValuesValueDecoder.open.Goals as goal

pub returns-in_err-place-in-Plain-clause-cause : goal.returns-in_err-place-in-Plain-clause-cause
returns-in_err-place-in-Plain-clause-cause g c =
    passed_on c.from_residual.result _ _ c.from_residual.ensures.1
    (plain-wrong c.args.self.now.is_text c.args.encoding c.args.bytes.now c.args.count _ c.in_err-place-in-Plain.field-0.0 c.in-Plain.is c.in_err-place-in-Plain.ensures.refused)

pub returns-in_err-place-in-DeltaLengths-clause-cause : goal.returns-in_err-place-in-DeltaLengths-clause-cause
returns-in_err-place-in-DeltaLengths-clause-cause g c =
    passed_on c.from_residual-in_err-place-in-DeltaLengths.result _ _ c.from_residual-in_err-place-in-DeltaLengths.ensures.1
    (joined-wrong c.args.self.now.is_text c.args.encoding c.args.bytes.now c.args.count _ c.in_err-place-in-DeltaLengths.field-0.0 c.in-DeltaLengths.is c.in_err-place-in-DeltaLengths.ensures.refused)

pub returns-in_err-place-in-Keys-clause-cause : goal.returns-in_err-place-in-Keys-clause-cause
returns-in_err-place-in-Keys-clause-cause g c =
    let P : List Cause → Type 0 = λ causes. IsOneOf causes (cause_of c.in_err-place-in-Keys.field-0.0) in
    passed_on c.from_residual-in_err-place-in-Keys.result _ _ c.from_residual-in_err-place-in-Keys.ensures.1 (
    subst P (sym (keys_causes (byte_cell c.args.self.now.is_text) (option_copied c.args.dict) (λ v. v) c.entry_count.result ByteArray c.args.encoding c.args.bytes.now c.args.count c.in-Keys.is c.entry_count.ensures))
    c.in_err-place-in-Keys.ensures.cause)

pub returns-in_ok-place-in-Plain-clause-values : goal.returns-in_ok-place-in-Plain-clause-values
returns-in_ok-place-in-Plain-clause-values g c =
    plain-outcomes c.args.self.now.is_text c.args.encoding c.args.bytes.now c.args.count _ (strings c.in_ok-place-in-Plain.place c.args.bytes.now) c.in-Plain.is c.in_ok-place-in-Plain.ensures.values

pub returns-in_ok-place-in-Plain-clause-ok : goal.returns-in_ok-place-in-Plain-clause-ok
returns-in_ok-place-in-Plain-clause-ok g c = plain-fine c.args.self.now.is_text c.args.encoding c.args.bytes.now c.args.count _ _ c.in-Plain.is c.in_ok-place-in-Plain.ensures.values

pub returns-in_ok-place-in-DeltaLengths-clause-values : goal.returns-in_ok-place-in-DeltaLengths-clause-values
returns-in_ok-place-in-DeltaLengths-clause-values g c =
    joined-outcomes c.args.self.now.is_text c.args.encoding c.args.bytes.now c.args.count _ (joined_values c.in_ok-place-in-DeltaLengths.place c.args.bytes.now) c.in-DeltaLengths.is c.in_ok-place-in-DeltaLengths.ensures.values

pub returns-in_ok-place-in-DeltaLengths-clause-ok : goal.returns-in_ok-place-in-DeltaLengths-clause-ok
returns-in_ok-place-in-DeltaLengths-clause-ok g c =
    joined-fine c.args.self.now.is_text c.args.encoding c.args.bytes.now c.args.count _ _ c.in-DeltaLengths.is c.in_ok-place-in-DeltaLengths.ensures.values

pub returns-in_ok-place-in-Keys-clause-values : goal.returns-in_ok-place-in-Keys-clause-values
returns-in_ok-place-in-Keys-clause-values g c =
    opens_keys (byte_rule c.args.self.now.is_text) ByteArray (byte_entries c.args.self.now.is_text (option_copied c.args.dict)) c.args.encoding c.args.bytes.now c.args.count (keys c.in_ok-place-in-Keys.place c.args.bytes.now) c.in-Keys.is c.in_ok-place-in-Keys.ensures.keys

pub returns-in_ok-place-in-Keys-clause-ok : goal.returns-in_ok-place-in-Keys-clause-ok
returns-in_ok-place-in-Keys-clause-ok g c =
    keys_causes (byte_cell c.args.self.now.is_text) (option_copied c.args.dict) (λ v. v) c.entry_count.result ByteArray c.args.encoding c.args.bytes.now c.args.count c.in-Keys.is c.entry_count.ensures ∙ c.in_ok-place-in-Keys.ensures.ok
