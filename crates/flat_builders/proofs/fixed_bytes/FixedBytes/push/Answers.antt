use Rattle.std.proofs.Common.{◌≡◌, ap, ◌∙◌, ◌++◌, ◌∷◌, [], true}
use Rattle.flat_builders.proofs.MarkLemmas.{one_more}
use Rattle.flat_builders.proofs.fixed_bytes.FixedBytes.push.Goals as goal

pub returns-clause-ok : goal.returns-clause-ok
returns-clause-ok c =
    let fixed = c.self.inside in
    let marks : c.push_reserved.new.self.items ≡ fixed.marks.items ++ true ∷ [] = c.push_reserved.ensures.items ∙ ap (λ held. held ++ true ∷ []) c.reserve.ensures.items in
    one_more fixed.values c.push.new.self c.args.bytes.now true fixed.marks.items c.push_reserved.new.self.items c.args.self.now c.self.invariant c.in_ok-push.ensures.ok marks c.self.view_is
