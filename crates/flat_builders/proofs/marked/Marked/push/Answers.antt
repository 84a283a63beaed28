use Rattle.std.proofs.Common.{◌≡◌, ap, ◌∙◌, ◌++◌, ◌∷◌, []}
use Rattle.std.specs.Prelude.{Some, None, if◌then◌else◌}
use Rattle.flat_builders.proofs.MarkLemmas.{marked_more}
use Rattle.flat_builders.proofs.marked.Marked.push.Goals as goal

pub returns-clause-ok : goal.returns-clause-ok
returns-clause-ok g c =
    let marked = c.self.inside in
    let item = if c.args.is_there then Some c.args.value else None in
    let values : c.push_reserved.new.self.items ≡ marked.values.items ++ c.args.value ∷ [] = c.push_reserved.ensures.items ∙ ap (λ held. held ++ c.args.value ∷ []) c.reserve.ensures.items in
    let marks : c.push_reserved-2.new.self.items ≡ marked.marks.items ++ c.args.is_there ∷ [] = c.push_reserved-2.ensures.items ∙ ap (λ held. held ++ c.args.is_there ∷ []) c.reserve-2.ensures.items in
    marked_more c.args.value c.args.is_there marked.values.items c.push_reserved.new.self.items marked.marks.items c.push_reserved-2.new.self.items c.self.invariant values marks
    ∙ ap (λ held. held ++ item ∷ []) c.self.view_is
