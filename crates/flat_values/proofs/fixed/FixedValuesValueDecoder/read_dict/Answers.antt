use Rattle.std.proofs.Common.{◌∙◌, ◌++◌, Ok, ap, arith, inr, map, refl, sym, take}
use Rattle.std.proofs.lemmas.List.{take_all}
use Rattle.columns_core.specs.declared.cell.Cell.{Bytes}
use Rattle.parquet_encoding.specs.Places.{bytes_in}
use Rattle.parquet_encoding.specs.PlainLeft.{fixed_values}
use Rattle.parquet_page.proofs.RefusalLemmas.{passed_on}
use Rattle.flat_values.specs.Conversion.{Keep}
use Rattle.flat_values.proofs.FixedPlaceLemmas.{fixed_entries, no_fixed_entries}
use Rattle.flat_values.proofs.fixed.FixedValuesValueDecoder.read_dict.Goals as goal

pub returns-in_err-place-clause-cause : goal.returns-in_err-place-clause-cause
returns-in_err-place-clause-cause c =
    passed_on c.from_residual.result _ _ c.from_residual.ensures.1 (inr (no_fixed_entries c.args.self.now.size c.args.page.now.buffer.now c.args.page.now.num_values Keep c.in_err-place.field-0.0 c.in_err-place.ensures.refused))

pub returns-clause-entries : goal.returns-clause-entries
returns-clause-entries c =
    let page = c.args.page.now in
    let bytes = page.buffer.now in
    let places = fixed_values c.in_ok-place.place bytes in
    let all = take_all page.num_values places (omega (arith, c.in_ok-place.ensures.counted)) in
    fixed_entries c.args.self.now.size bytes page.num_values Bytes Keep (map (bytes_in bytes) places) (map (bytes_in bytes) places) c.in_ok-place.ensures.values refl
    ∙ ap (λ entries. Ok (map Bytes entries)) (sym (ap (λ v. v.items) c.in_ok-_end.ensures.added ∙ ap (λ v. v.items ++ map (bytes_in bytes) (take page.num_values places)) c.in_ok-dict.ensures.ok ∙ ap (map (bytes_in bytes)) all))
