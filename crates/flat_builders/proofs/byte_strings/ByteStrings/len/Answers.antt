use Rattle.std.proofs.Common.{ℕ, List, Bool, length, ap, sym, ◌∙◌}
use Rattle.std.specs.Prelude.{Option}
use Rattle.flat_builders.proofs.MarkLemmas.{length-marked}
use Rattle.flat_builders.proofs.byte_strings.ByteStrings.len.Goals as goal

pub returns : goal.returns
returns g c =
    let kept = c.self.inside in
    c.len.ensures ∙ kept.marks.ok.0 ∙ c.self.invariant.marked ∙ sym (length-marked kept.strings kept.marks.items c.self.invariant.marked)
    ∙ ap (λ (column : Bool × List (Option (List ℕ))). length column.1) c.self.view_is
