use Rattle.std.proofs.Common.{rules}
use Rattle.std.proofs.lemmas.Iterator.{YieldsList-from_map_by, YieldsList-from_slice}
use Rattle.std.proofs.lemmas.Iterator.Consumers.{YieldsList-at}
use Rattle.flat_values.specs.Conversion.{Value, convert}
use Rattle.flat_values.proofs.AddedLemmas.{chain_adds}
use Rattle.flat_values.proofs.ExtendLemmas.{shown_from_extend}
use Rattle.flat_values.proofs.bulk.extend_deltas.Goals as goal

pub returns : goal.returns
returns g c =
    let item = λ (y : g.row.T.Denot). Value (g.T.NativeType.cell y) in
    shown_from_extend item c.extend.result c.extend.ensures.ran
    (YieldsList-from_map_by _ item (λ x. convert (g.C.ConvertAll.rule c.args.rule) (g.P.ParquetNativeType.delta x)) (YieldsList-at c.map.ensures.source (YieldsList-from_slice c.args.numbers.now c.iter.ensures.rest)) c.map.ensures.closure
    (λ x r q k. search rules))
    (λ xs e h. chain_adds g.T.NativeType.cell (λ x. convert (g.C.ConvertAll.rule c.args.rule) (g.P.ParquetNativeType.delta x)) c.args.values.now.items c.extend.new.self.items xs c.args.numbers.now h.0 e)
