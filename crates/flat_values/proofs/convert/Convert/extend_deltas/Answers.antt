use Rattle.std.proofs.Common.{get_or, pos, refl, sym, ap, ◌∙◌, FitsSigned, rules}
use Rattle.std.specs.Int.{w64}
use Rattle.std.proofs.lemmas.Int.{to_z-of_z}
use Rattle.std.proofs.lemmas.Result.{err_from_is_err_and}
use Rattle.flat_values.specs.Conversion.{convert}
use Rattle.flat_values.specs.Outcomes.{outcome_of, stored_outcome}
use Rattle.flat_values.proofs.AddedLemmas.{one_more, overflow_at}
use Rattle.flat_values.proofs.convert.Convert.extend_deltas.Goals as goal

pub returns-in_err-convert-clause-cause : goal.returns-in_err-convert-clause-cause
returns-in_err-convert-clause-cause g c =
    let p = err_from_is_err_and c.from_residual-in_err-convert.result c.from_residual-in_err-convert.ensures.1 in
    let number = get_or c.args.numbers.now c.loop-number.number-index (pos 0) in
    let fits : FitsSigned w64 number = search rules in
    let same = c.from_delta.ensures ∙ ap g.P.ParquetNativeType.delta (to_z-of_z w64 number fits) in
    rw (p.1, p.2) (
    overflow_at (convert (g.Self.Convert.rule c.args.self.now)) g.P.ParquetNativeType.delta c.args.numbers.now c.loop-number.number-index (pos 0) number (g.P.ParquetNativeType.stored c.from_delta.result) c.in_err-convert.field-0.0
    c.loop-number-test.true refl same c.in_err-convert.ensures.refused)

pub loop-number-preserved : goal.loop-number-preserved
loop-number-preserved g c =
    let number = get_or c.args.numbers.now c.loop-number.number-index (pos 0) in
    let fits : FitsSigned w64 number = search rules in
    let same = c.from_delta.ensures ∙ ap g.P.ParquetNativeType.delta (to_z-of_z w64 number fits) in
    one_more g.T.NativeType.cell (λ number. stored_outcome (g.Self.Convert.rule c.args.self.now) (g.P.ParquetNativeType.delta number)) c.args.values.now.items c.loop-number.values.items c.push.new.self.items c.args.numbers.now c.loop-number.number-index (pos 0) c.in_ok-convert.field-0
    c.loop-number.invariant c.loop-number-test.true c.in_ok-push.ensures.items (ap outcome_of (sym c.in_ok-convert.ensures.item) ∙ ap (stored_outcome (g.Self.Convert.rule c.args.self.now)) same)
