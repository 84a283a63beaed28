use Rattle.std.proofs.Common.{◌≡◌, ap, sym, ◌∙◌, ◌++◌, ◌∷◌, []}
use Rattle.flat_builders.proofs.KeptLemmas.{Seen, kept_more, seen_more}
use Rattle.flat_builders.proofs.byte_strings.ByteStrings.push.Goals as goal

pub invariant_of-self-2 : goal.invariant_of-self-2
invariant_of-self-2 g c =
    let kept = c.self.inside in
    let marks : c.push_reserved.new.self.items ≡ kept.marks.items ++ c.args.is_there ∷ [] = c.push_reserved.ensures.items ∙ ap (λ held. held ++ c.args.is_there ∷ []) c.reserve.ensures.items in
    kept_more kept.is_text kept.strings kept.marks.items c.self.invariant c.args.string.now c.args.is_there c.requires.empty c.push.new.self c.push_reserved.new.self.items
    c.in_ok-push.ensures.ok marks (λ text. c.requires.judged (ap (λ (column : Seen). column.0) (sym c.self.view_is) ∙ text))

pub returns-clause-ok : goal.returns-clause-ok
returns-clause-ok g c =
    let kept = c.self.inside in
    let marks : c.push_reserved.new.self.items ≡ kept.marks.items ++ c.args.is_there ∷ [] = c.push_reserved.ensures.items ∙ ap (λ held. held ++ c.args.is_there ∷ []) c.reserve.ensures.items in
    seen_more kept.is_text kept.strings kept.marks.items c.self.invariant c.args.string.now c.args.is_there c.requires.empty c.push.new.self c.push_reserved.new.self.items
    c.in_ok-push.ensures.ok marks c.args.self.now c.self.view_is
