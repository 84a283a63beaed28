use Rattle.std.proofs.Common.{length, ap, sym, ◌∙◌}
use Rattle.flat_builders.proofs.MarkLemmas.{length-marked}
use Rattle.flat_builders.proofs.marked.Marked.len.Goals as goal

pub returns : goal.returns
returns g c =
    let marked = c.self.inside in
    c.len.ensures ∙ marked.values.ok.0 ∙ sym (length-marked marked.values.items marked.marks.items c.self.invariant) ∙ ap length c.self.view_is
