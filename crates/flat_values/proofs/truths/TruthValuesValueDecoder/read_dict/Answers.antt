use Rattle.std.proofs.Common.{◌∙◌, ◌++◌, Ok, ap, arith, inr, map, sym, take}
use Rattle.std.proofs.lemmas.List.{take_all}
use Rattle.columns_core.specs.declared.cell.Cell.{Bool as TruthCell}
use Rattle.parquet_encoding.specs.PlainLeft.{truths}
use Rattle.parquet_page.proofs.RefusalLemmas.{passed_on}
use Rattle.flat_values.proofs.TruthLemmas.{no_truth_entries, truth_entries}
use Rattle.flat_values.proofs.truths.TruthValuesValueDecoder.read_dict.Goals as goal

pub returns-in_err-values-clause-cause : goal.returns-in_err-values-clause-cause
returns-in_err-values-clause-cause c =
    passed_on c.from_residual.result _ _ c.from_residual.ensures.1 (inr (no_truth_entries c.args.page.now.buffer.now c.args.page.now.num_values c.in_err-values.field-0.0 c.in_err-values.ensures.refused))

pub returns-clause-entries : goal.returns-clause-entries
returns-clause-entries c =
    let page = c.args.page.now in
    let values = truths c.in_ok-values.values page.buffer.now in
    let all = take_all page.num_values values (omega (arith, c.in_ok-values.ensures.counted)) in
    truth_entries page.buffer.now page.num_values values c.in_ok-values.ensures.values
    ∙ ap (λ entries. Ok (map TruthCell entries)) (sym (c.freeze.ensures ∙ c.in_ok-_all.ensures.added ∙ ap (λ front. front ++ take page.num_values values) c.in_ok-dict.ensures.ok ∙ all))
