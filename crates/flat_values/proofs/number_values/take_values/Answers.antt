use Rattle.std.proofs.Common.{ap, drop, map, sym, Some, ◌∙◌}
use Rattle.std.proofs.lemmas.List.{drop-map}
use Rattle.parquet_encoding.specs.DeltaLeft.{numbers}
use Rattle.flat_values.specs.KeysLeft.{keys}
use Rattle.flat_values.specs.NumbersLeft.{number_left, plain_left}
use Rattle.flat_values.specs.Outcomes.{entry_outcome, stored_outcome}
use Rattle.flat_values.proofs.number_values.take_values.Goals as goal

pub returns-in_ok-plain-in-Plain-clause-rest : goal.returns-in_ok-plain-in-Plain-clause-rest
returns-in_ok-plain-in-Plain-clause-rest g c =
    ap (map (stored_outcome (g.C.Convert.rule c.args.rule))) c.in_ok-plain-in-Plain.ensures.rest ∙ sym (drop-map (stored_outcome (g.C.Convert.rule c.args.rule)) c.args.count (plain_left g.P.ParquetNativeType.physical c.args.bytes.now c.in-Plain.plain)) ∙ ap (λ p. drop c.args.count (number_left (g.C.Convert.rule c.args.rule) g.P.ParquetNativeType.physical g.P.ParquetNativeType.delta (Some (map g.T.NativeType.cell c.args.entries.now)) c.args.bytes.now p)) (sym c.in-Plain.is)

pub returns-in_ok-keys-in-Keys-clause-rest : goal.returns-in_ok-keys-in-Keys-clause-rest
returns-in_ok-keys-in-Keys-clause-rest g c =
    ap (map (entry_outcome (Some (map g.T.NativeType.cell c.args.entries.now)))) c.in_ok-keys-in-Keys.ensures.rest ∙ sym (drop-map (entry_outcome (Some (map g.T.NativeType.cell c.args.entries.now))) c.args.count (keys c.in-Keys.keys c.args.bytes.now)) ∙ ap (λ p. drop c.args.count (number_left (g.C.Convert.rule c.args.rule) g.P.ParquetNativeType.physical g.P.ParquetNativeType.delta (Some (map g.T.NativeType.cell c.args.entries.now)) c.args.bytes.now p)) (sym c.in-Keys.is)

pub returns-in_ok-deltas-in-Deltas-clause-rest : goal.returns-in_ok-deltas-in-Deltas-clause-rest
returns-in_ok-deltas-in-Deltas-clause-rest g c =
    ap (map (λ number. stored_outcome (g.C.Convert.rule c.args.rule) (g.P.ParquetNativeType.delta number))) c.in_ok-deltas-in-Deltas.ensures.rest ∙ sym (drop-map (λ number. stored_outcome (g.C.Convert.rule c.args.rule) (g.P.ParquetNativeType.delta number)) c.args.count (numbers c.in-Deltas.deltas c.args.bytes.now)) ∙ ap (λ p. drop c.args.count (number_left (g.C.Convert.rule c.args.rule) g.P.ParquetNativeType.physical g.P.ParquetNativeType.delta (Some (map g.T.NativeType.cell c.args.entries.now)) c.args.bytes.now p)) (sym c.in-Deltas.is)
