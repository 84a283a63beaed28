use Rattle.std.proofs.Common.{◌∙◌, ◌++◌, ◌+◌, [], ◌∷◌, ap, append-nil, sym}
use Rattle.columns_core.specs.Offsets.{last, parts}
use Rattle.columns_core.proofs.PartLemmas.{parts-push}
use Rattle.binary_values.proofs.strings.Strings.push_end.Goals as goal

pub returns-clause-ok : goal.returns-clause-ok
returns-clause-ok g c =
    let offsets = c.self.inside.offsets in
    let values = c.self.inside.values.items in
    ap (λ o. parts o values) c.in_ok-try_push.ensures.ok ∙ ap (parts (offsets ++ (last offsets + 0) ∷ [])) (sym (append-nil values))
    ∙ parts-push offsets values [] c.self.invariant.0 c.self.invariant.1 ∙ ap (λ xs. xs ++ [] ∷ []) c.self.view_is
