use Rattle.std.proofs.Common.{◌∙◌, ap, sym}
use Rattle.std.specs.List.{concat}
use Rattle.flat_values.proofs.ItemLemmas.{joined}
use Rattle.flat_values.proofs.fixed_size_binary.FixedSizeBinary.values.Goals as goal

pub returns : goal.returns
returns c =
    c.as_slice.ensures.value ∙ sym (joined c.self.inside.size c.self.inside.values.items c.self.invariant.0 c.self.invariant.1) ∙ ap (λ v. concat v.items) c.self.view_is
