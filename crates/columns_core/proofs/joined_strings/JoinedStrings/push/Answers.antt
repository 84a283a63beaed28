use Rattle.std.proofs.Common.{◌∙◌, ap, inl, inr, arith, length, ◌∷◌, [], ◌++◌, ◌+◌, ◌≡◌, take}
use Rattle.std.specs.Prelude.{sum_by}
use Rattle.std.proofs.lemmas.List.{take_all, take-append-le}
use Rattle.columns_core.specs.Offsets.{last, parts}
use Rattle.columns_core.proofs.PartLemmas.{parts-push, sum-parts}
use Rattle.columns_core.proofs.joined_strings.JoinedStrings.push.Goals as goal

pub returns-in-Ok-clause-ok : goal.returns-in-Ok-clause-ok
returns-in-Ok-clause-ok g c =
    let offsets = c.self.inside.offsets in
    let values = c.self.inside.values.items in
    let value = c.args.string.now in
    ap (λ o. parts o c.extend_from_slice.new.self.items) c.in-Ok.ensures.ok
    ∙ ap (parts (offsets ++ (last offsets + length value) ∷ [])) c.in_ok-extend_from_slice.ensures.items
    ∙ parts-push offsets values value c.self.invariant.0 c.self.invariant.1
    ∙ ap (λ xs. xs ++ value ∷ []) c.self.view_is

pub returns-in-Ok-clause-fits : goal.returns-in-Ok-clause-fits
returns-in-Ok-clause-fits g c =
    let offsets = c.self.inside.offsets in
    let values = c.self.inside.values.items in
    omega (arith, c.in-Ok.ensures.fits, sum-parts offsets values c.self.invariant.0 c.self.invariant.1, c.self.invariant.1, ap (sum_by length) c.self.view_is)

pub returns-in-Err-clause-err : goal.returns-in-Err-clause-err
returns-in-Err-clause-err g c =
    let offsets = c.self.inside.offsets in
    let values = c.self.inside.values.items in
    let value = c.args.string.now in
    let held : c.len-held.result ≡ length values = omega (arith, c.len-held.ensures) in
    let kept : take (length values) (values ++ value) ≡ values = take-append-le (length values) values value (omega arith) ∙ take_all (length values) values (omega arith) in
    let sum = sum-parts offsets values c.self.invariant.0 c.self.invariant.1 in (
      ap (λ o. parts o c.truncate.new.self.items) c.in-Err.ensures.err.0
          ∙ ap (parts offsets) (c.truncate.ensures.items ∙ ap (λ n. take n c.extend_from_slice.new.self.items) held ∙ ap (take (length values)) c.in_ok-extend_from_slice.ensures.items ∙ kept)
          ∙ c.self.view_is,
      elim c.in-Err.ensures.err.1 [ inl memory ↦ inl memory | inr past ↦ inr (past.0, omega (arith, past.1, sum, c.self.invariant.1, ap (sum_by length) c.self.view_is)) ],
    )
