use Rattle.std.proofs.lemmas.Result.{err_from_is_err_and}
use Rattle.flat_values.specs.Conversion.{convert}
use Rattle.flat_values.proofs.AddedLemmas.{overflow_at}
use Rattle.flat_values.proofs.convert.Convert.extend_plain.Goals as goal

pub returns-in_err-convert-clause-cause : goal.returns-in_err-convert-clause-cause
returns-in_err-convert-clause-cause g c =
    let p = err_from_is_err_and c.from_residual-in_err-convert.result c.from_residual-in_err-convert.ensures.1 in
    rw (p.1, p.2) (
    overflow_at (convert (g.Self.Convert.rule c.args.self.now)) g.P.ParquetNativeType.plain c.args.pieces.now c.loop-piece.piece-index c.piece-item.result c.piece-item.result (g.P.ParquetNativeType.stored c.from_plain.result) c.in_err-convert.field-0.0
    c.loop-piece-test.true c.piece-item.is c.from_plain.ensures c.in_err-convert.ensures.refused)
