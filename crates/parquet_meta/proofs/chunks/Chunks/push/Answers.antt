use Rattle.std.proofs.Common.{◌≡◌, ap, ◌∙◌, ◌++◌, ◌∷◌, []}
use Rattle.parquet_meta.proofs.UnplacedLemmas.{one_more}
use Rattle.parquet_meta.proofs.chunks.Chunks.push.Goals as goal

pub returns-clause-pushed : goal.returns-clause-pushed
returns-clause-pushed c =
    let chunks = c.self.inside in
    let columns : c.push_reserved.new.self.items ≡ chunks.columns.items ++ c.without_leaf-column.result.0 ∷ [] = c.push_reserved.ensures.items ∙ ap (λ held. held ++ c.without_leaf-column.result.0 ∷ []) c.reserve.ensures.items in
    let types : c.push_reserved-2.new.self.items ≡ chunks.types.items ++ c.without_leaf-column.result.1 ∷ [] = c.push_reserved-2.ensures.items ∙ ap (λ held. held ++ c.without_leaf-column.result.1 ∷ []) c.reserve-2.ensures.items in
    one_more c.without_leaf-column.result.0 c.without_leaf-column.result.1 c.args.chunk chunks.columns.items c.push_reserved.new.self.items chunks.types.items c.push_reserved-2.new.self.items c.self.invariant
    c.without_leaf-column.ensures columns types
    ∙ ap (λ held. held ++ c.args.chunk ∷ []) c.self.view_is
