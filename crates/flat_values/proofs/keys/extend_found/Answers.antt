use Rattle.std.proofs.Common.{ℕ, ◌++◌, ◌∙◌, ap, get_or, map, rules}
use Rattle.std.proofs.lemmas.Iterator.{YieldsList-from_map_by, YieldsList-from_slice}
use Rattle.std.proofs.lemmas.Iterator.Consumers.{YieldsList-at}
use Rattle.std.proofs.lemmas.List.{map-append}
use Rattle.page_decoding.specs.Outcome.{Given, Outcome}
use Rattle.flat_values.proofs.ExtendLemmas.{shown_from_extend}
use Rattle.flat_values.proofs.keys.extend_found.Goals as goal

pub returns : goal.returns
returns g c =
    let item = λ (y : g.row.T.Denot). Given (g.T.NativeType.cell y) in
    let found : ℕ → Outcome = λ key. item (get_or c.args.entries.now key c.args.first) in
    shown_from_extend item c.extend.result c.extend.ensures.ran
    (YieldsList-from_map_by _ item found (YieldsList-at c.map.ensures.source (YieldsList-from_slice c.args.keys.now c.iter.ensures.rest)) c.map.ensures.closure
    (λ x r q k. search rules))
    (λ xs e h. ap (map item) {x = c.extend.new.self.items} h.0 ∙ map-append item c.args.values.now.items xs ∙ ap (λ l. map item c.args.values.now.items ++ l) e)
