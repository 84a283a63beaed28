use Rattle.std.proofs.Common.{◌≤◌, ◌∷◌, [], ◌∙◌, map, ap, sym, subst, arith}
use Rattle.std.proofs.lemmas.List.{map-append}
use Rattle.columns_core.specs.Offsets.{AreOffsets, last}
use Rattle.columns_core.proofs.OffsetLemmas.{more_offsets}
use Rattle.columns_core.proofs.offsets.Offsets.try_push.Goals as goal

pub invariant_of-self-2 : goal.invariant_of-self-2
invariant_of-self-2 g c =
    let value = g.O.Offset.value in
    let old = c.self.inside.places.items in
    let end = c.in_ok-end.end in
    let behind : last (map value old) ≤ value end = omega (arith, c.in_ok-end.ensures.ok.0, ap last c.self.view_is) in
    subst AreOffsets (sym (ap (map value) c.in_ok-push.ensures.items ∙ map-append value old (end ∷ []))) (more_offsets (map value old) (value end) c.self.invariant behind)
