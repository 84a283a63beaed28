use Rattle.std.proofs.Common.{arith, inr, map}
use Rattle.std.proofs.lemmas.List.{take_all}
use Rattle.parquet_encoding.specs.Places.{bytes_in}
use Rattle.parquet_encoding.specs.PlainLeft.{fixed_values}
use Rattle.parquet_page.proofs.RefusalLemmas.{passed_on}
use Rattle.flat_values.proofs.FixedPlaceLemmas.{fixed_entries, no_fixed_entries}
use Rattle.flat_values.proofs.fixed_numbers.FixedNumbersValueDecoder.read_dict.Goals as goal

pub returns-in_err-place-clause-cause : goal.returns-in_err-place-clause-cause
returns-in_err-place-clause-cause g c =
    let refused = rw c.size-size.ensures.size at c.in_err-place.ensures.refused in
    passed_on c.from_residual.result _ _ c.from_residual.ensures.1
    (inr (no_fixed_entries _ c.args.page.now.buffer.now c.args.page.now.num_values (g.C.ConvertFixed.rule c.args.self.now.rule) c.in_err-place.field-0.0 refused))

pub returns-clause-entries : goal.returns-clause-entries
returns-clause-entries g c =
    let page = c.args.page.now in
    let bytes = page.buffer.now in
    let places = fixed_values c.in_ok-place.place bytes in
    let all = take_all page.num_values places (omega (arith, c.in_ok-place.ensures.counted)) in
    let values = rw c.size-size.ensures.size at c.in_ok-place.ensures.values in
    let added = rw (c.in_ok-entries.ensures.items, all) at c.in_ok-_end.ensures.added in
    fixed_entries _ bytes page.num_values g.T.NativeType.cell (g.C.ConvertFixed.rule c.args.self.now.rule) (map (bytes_in bytes) places) _ values added
