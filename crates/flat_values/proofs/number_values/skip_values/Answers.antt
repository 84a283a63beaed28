use Rattle.std.proofs.Common.{[], ap, drop, map, sym, unwrap_or, ◌∙◌}
use Rattle.std.proofs.lemmas.List.{drop-map}
use Rattle.parquet_encoding.specs.DeltaLeft.{numbers}
use Rattle.flat_values.specs.KeysLeft.{keys}
use Rattle.flat_values.specs.NumbersLeft.{number_left, plain_left}
use Rattle.flat_values.specs.Outcomes.{entry_outcome, stored_outcome}
use Rattle.flat_values.proofs.number_values.skip_values.Goals as goal

pub returns-in-Plain-clause-rest : goal.returns-in-Plain-clause-rest
returns-in-Plain-clause-rest g c rule entries =
    ap (map (stored_outcome rule)) c.skip_plain.ensures.rest ∙ sym (drop-map (stored_outcome rule) c.args.count (plain_left g.P.ParquetNativeType.physical c.args.bytes.now c.in-Plain.place)) ∙ ap (λ p. drop c.args.count (number_left rule g.P.ParquetNativeType.physical g.P.ParquetNativeType.delta entries c.args.bytes.now p)) (sym c.in-Plain.is)

pub returns-in-Keys-clause-rest : goal.returns-in-Keys-clause-rest
returns-in-Keys-clause-rest g c rule entries =
    ap (map (entry_outcome entries)) c.skip.ensures.rest ∙ sym (drop-map (entry_outcome entries) c.args.count (keys c.in-Keys.place c.args.bytes.now)) ∙ ap (λ p. drop c.args.count (number_left rule g.P.ParquetNativeType.physical g.P.ParquetNativeType.delta entries c.args.bytes.now p)) (sym c.in-Keys.is)

pub returns-in-Deltas-clause-rest : goal.returns-in-Deltas-clause-rest
returns-in-Deltas-clause-rest g c rule entries =
    ap (map (λ number. stored_outcome rule (g.P.ParquetNativeType.delta number))) (ap (λ o. unwrap_or o []) c.skip-in-Deltas.ensures.rest) ∙ sym (drop-map (λ number. stored_outcome rule (g.P.ParquetNativeType.delta number)) c.args.count (numbers c.in-Deltas.place c.args.bytes.now)) ∙ ap (λ p. drop c.args.count (number_left rule g.P.ParquetNativeType.physical g.P.ParquetNativeType.delta entries c.args.bytes.now p)) (sym c.in-Deltas.is)
