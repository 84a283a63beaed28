use Rattle.std.proofs.Common.{◌≡◌, ap, ◌∙◌, ◌++◌, ◌∷◌, [], false}
use Rattle.std.specs.Prelude.{replicate}
use Rattle.flat_builders.proofs.MarkLemmas.{one_more}
use Rattle.flat_builders.proofs.fixed_bytes.FixedBytes.push_null.Goals as goal

pub returns-clause-ok : goal.returns-clause-ok
returns-clause-ok c =
    let fixed = c.self.inside in
    let marks : c.push_reserved.new.self.items ≡ fixed.marks.items ++ false ∷ [] = c.push_reserved.ensures.items ∙ ap (λ held. held ++ false ∷ []) c.reserve.ensures.items in
    one_more fixed.values c.push_null.new.self (replicate fixed.values.size 0) false fixed.marks.items c.push_reserved.new.self.items c.args.self.now c.self.invariant
    c.in_ok-push_null.ensures.ok marks c.self.view_is
