use Rattle.std.proofs.Common.{◌∙◌, map, sym}
use Rattle.std.specs.Option.{option_copied, option_map}
use Rattle.parquet_encoding.specs.PlainLeft.{fixed_values}
use Rattle.parquet_page.proofs.RefusalLemmas.{passed_on}
use Rattle.flat_values.specs.KeysLeft.{keys}
use Rattle.flat_values.proofs.FixedPlaceLemmas.{key_outcomes, no_key_cause, no_plain_cause, one_key_cause, one_plain_cause, plain_outcomes}
use Rattle.flat_values.proofs.NumberPlaces.{cells_counted}
use Rattle.flat_values.proofs.fixed_numbers.FixedNumbersValueDecoder.open.Goals as goal

pub returns-in_err-place-in-Plain-clause-cause : goal.returns-in_err-place-in-Plain-clause-cause
returns-in_err-place-in-Plain-clause-cause g c =
    let refused = rw c.size.ensures.size at c.in_err-place-in-Plain.ensures.refused in
    rw c.in-Plain.is (passed_on c.from_residual.result _ _ c.from_residual.ensures.1 (one_plain_cause _ c.args.bytes.now c.args.count _ c.in_err-place-in-Plain.field-0.0 refused))

pub returns-in_err-place-in-Keys-clause-cause : goal.returns-in_err-place-in-Keys-clause-cause
returns-in_err-place-in-Keys-clause-cause g c =
    rw c.in-Keys.is (
    passed_on c.from_residual-in_err-place-in-Keys.result _ _ c.from_residual-in_err-place-in-Keys.ensures.1
    (one_key_cause _ c.args.bytes.now c.args.count _ c.entry_count.result c.in_err-place-in-Keys.field-0.0 (c.entry_count.ensures ∙ sym (cells_counted g.T.NativeType.cell (option_copied c.args.dict) (λ v. v.items))) c.in_err-place-in-Keys.ensures.cause))

pub returns-in_ok-place-in-Plain-clause-values : goal.returns-in_ok-place-in-Plain-clause-values
returns-in_ok-place-in-Plain-clause-values g c =
    let values = rw c.size.ensures.size at c.in_ok-place-in-Plain.ensures.values in
    rw c.in-Plain.is (plain_outcomes _ c.args.bytes.now c.args.count (g.C.ConvertFixed.rule c.args.self.now.rule) _ (fixed_values c.in_ok-place-in-Plain.place c.args.bytes.now) values)

pub returns-in_ok-place-in-Plain-clause-ok : goal.returns-in_ok-place-in-Plain-clause-ok
returns-in_ok-place-in-Plain-clause-ok g c =
    let values = rw c.size.ensures.size at c.in_ok-place-in-Plain.ensures.values in
    rw c.in-Plain.is (no_plain_cause _ c.args.bytes.now c.args.count _ _ values)

pub returns-in_ok-place-in-Keys-clause-values : goal.returns-in_ok-place-in-Keys-clause-values
returns-in_ok-place-in-Keys-clause-values g c =
    rw c.in-Keys.is (
    key_outcomes _ c.args.bytes.now c.args.count (g.C.ConvertFixed.rule c.args.self.now.rule) (option_map (λ v. map g.T.NativeType.cell v.items) (option_copied c.args.dict)) (keys c.in_ok-place-in-Keys.place c.args.bytes.now) c.in_ok-place-in-Keys.ensures.keys)

pub returns-in_ok-place-in-Keys-clause-ok : goal.returns-in_ok-place-in-Keys-clause-ok
returns-in_ok-place-in-Keys-clause-ok g c =
    rw c.in-Keys.is (no_key_cause _ c.args.bytes.now c.args.count _ c.entry_count.result (c.entry_count.ensures ∙ sym (cells_counted g.T.NativeType.cell (option_copied c.args.dict) (λ v. v.items))) c.in_ok-place-in-Keys.ensures.ok)
