use Rattle.std.proofs.Common.{rules}
use Rattle.std.proofs.lemmas.Iterator.{YieldsList-from_map_by}
use Rattle.std.proofs.lemmas.Iterator.Consumers.{YieldsList-at}
use Rattle.parquet_page.specs.Stored.{Octets}
use Rattle.flat_values.specs.Conversion.{Value, convert}
use Rattle.flat_values.proofs.AddedLemmas.{chain_adds}
use Rattle.flat_values.proofs.ExtendLemmas.{shown_from_extend}
use Rattle.flat_values.proofs.StringLemmas.{strings_of}
use Rattle.columns_core.specs.Fixed.{fixed_pieces}
use Rattle.flat_values.proofs.fixed_numbers.extend_strings.Goals as goal

pub returns : goal.returns
returns g c =
    let item = λ (y : g.row.T.Denot). Value (g.T.NativeType.cell y) in
    shown_from_extend item c.extend.result c.extend.ensures.ran
    (YieldsList-from_map_by _ item (λ string. convert (g.C.ConvertFixed.rule c.args.rule) (Octets string))
    (YieldsList-at c.map.ensures.source (strings_of c.args.size c.args.bytes.now c.requires.some c.requires.whole c.chunks_exact.ensures.rest c.chunks_exact.ensures.size)) c.map.ensures.closure (λ x r q k. search rules))
    (λ xs e h. chain_adds g.T.NativeType.cell (λ string. convert (g.C.ConvertFixed.rule c.args.rule) (Octets string)) c.args.values.now.items c.extend.new.self.items xs (fixed_pieces c.args.size c.args.bytes.now) h.0 e)
