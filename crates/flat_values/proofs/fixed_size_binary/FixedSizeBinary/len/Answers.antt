use Rattle.std.proofs.Common.{◌∙◌, ◌/◌, ap, sym, length}
use Rattle.columns_core.proofs.FixedLemmas.{length-pieces}
use Rattle.flat_values.proofs.fixed_size_binary.FixedSizeBinary.len.Goals as goal

pub returns : goal.returns
returns c = ap (λ n. n / c.self.inside.size) (c.len.ensures ∙ c.self.inside.values.ok.0) ∙ sym (length-pieces c.self.inside.size c.self.inside.values.items) ∙ ap (λ v. length v.items) c.self.view_is
