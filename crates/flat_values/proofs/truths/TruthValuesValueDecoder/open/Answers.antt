use Rattle.std.proofs.lemmas.Result.{IfErr-weaker, IfOk-weaker}
use Rattle.flat_values.specs.Encodings.{as_encoding}
use Rattle.parquet_encoding.specs.PlainLeft.{truths}
use Rattle.flat_values.proofs.TruthLemmas.{no_cause, one_cause, truth_outcomes}
use Rattle.flat_values.proofs.truths.TruthValuesValueDecoder.open.Goals as goal

pub returns-clause-values : goal.returns-clause-values
returns-clause-values c =
    IfOk-weaker c.open_truths.result _ _ (λ values e. truth_outcomes c.args.bytes.now c.args.count _ (as_encoding c.args._encoding) (truths values c.args.bytes.now) c.requires.carried e) c.open_truths.ensures.values

pub returns-clause-ok : goal.returns-clause-ok
returns-clause-ok c =
    IfOk-weaker c.open_truths.result _ _ (λ values e. no_cause c.args.bytes.now c.args.count _ (as_encoding c.args._encoding) (truths values c.args.bytes.now) c.requires.carried e) c.open_truths.ensures.values

pub returns-clause-cause : goal.returns-clause-cause
returns-clause-cause c =
    IfErr-weaker c.open_truths.result _ _ (λ error h. one_cause c.args.bytes.now c.args.count _ (as_encoding c.args._encoding) error c.requires.carried h) c.open_truths.ensures.refused
