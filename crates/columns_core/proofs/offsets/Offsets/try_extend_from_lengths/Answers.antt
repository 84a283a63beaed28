use Rattle.std.proofs.Common.{◌≡◌, ◌∙◌, ◌-◌, ◌++◌, ap, arith, get_or, length, map, subst, sym}
use Rattle.std.specs.Prelude.{nat_abs}
use Rattle.std.proofs.lemmas.List.{get_or-map, length-map}
use Rattle.columns_core.specs.Offsets.{AreOffsets, ends_behind, last}
use Rattle.columns_core.proofs.OffsetLemmas.{more_ends, some-offset}
use Rattle.columns_core.proofs.offsets.Offsets.try_extend_from_lengths.Given.{Over}
use Rattle.columns_core.proofs.offsets.Offsets.try_extend_from_lengths.Goals.{In_ok-push_ends}
use Rattle.columns_core.proofs.offsets.Offsets.try_extend_from_lengths.Goals as goal

module _ (g : Over) (c : In_ok-push_ends g) where
  at-last : g.O.Offset.value c.index-end.result.now ≡ last (map g.O.Offset.value c.self.inside.places.items)
  at-last =
      let value = g.O.Offset.value in
      let items = c.self.inside.places.items in
      let some = some-offset (map value items) c.self.invariant in
      let place : c.len.result - 1 ≡ length (map value items) - 1 = omega (arith, c.len.ensures, length-map items value) in
      ap value c.index-end.ensures ∙ ap (λ k. value (get_or items k c.index-end.result.now)) place
      ∙ sym (get_or-map value items (length (map value items) - 1) c.index-end.result.now 0 (omega (arith, some, length-map items value)))

  added : map g.O.Offset.value c.push_ends.new.places.items ≡ map g.O.Offset.value c.self.inside.places.items ++ ends_behind (last (map g.O.Offset.value c.self.inside.places.items)) (map nat_abs c.args.lengths.now)
  added = c.in_ok-push_ends.ensures.ok ∙ ap (λ n. map g.O.Offset.value c.self.inside.places.items ++ ends_behind n (map nat_abs c.args.lengths.now)) at-last

pub invariant_of-self-2 : goal.invariant_of-self-2
invariant_of-self-2 g c = subst AreOffsets (sym (added g c)) (more_ends (map g.O.Offset.value c.self.inside.places.items) c.args.lengths.now c.self.invariant).0

pub returns-clause-last : goal.returns-clause-last
returns-clause-last g c =
    omega (arith, ap last (added g c), (more_ends (map g.O.Offset.value c.self.inside.places.items) c.args.lengths.now c.self.invariant).1, ap last c.self.view_is)

pub returns-clause-fits : goal.returns-clause-fits
returns-clause-fits g c =
    λ were. omega (arith, c.in_ok-push_ends.ensures.fits (omega (arith, were, at-last g c, ap last c.self.view_is)), at-last g c, returns-clause-last g c, ap last c.self.view_is)
