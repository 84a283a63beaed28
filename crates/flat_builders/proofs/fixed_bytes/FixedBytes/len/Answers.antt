use Rattle.std.proofs.Common.{ℕ, List, length, ap, sym, ◌∙◌}
use Rattle.std.specs.Prelude.{Option}
use Rattle.flat_builders.proofs.MarkLemmas.{length-marked}
use Rattle.flat_builders.proofs.fixed_bytes.FixedBytes.len.Goals as goal

pub returns : goal.returns
returns c =
    let fixed = c.self.inside in
    c.len.ensures ∙ fixed.marks.ok.0 ∙ c.self.invariant ∙ sym (length-marked fixed.values.items fixed.marks.items c.self.invariant)
    ∙ ap (λ (column : ℕ × List (Option (List ℕ))). length column.1) c.self.view_is
