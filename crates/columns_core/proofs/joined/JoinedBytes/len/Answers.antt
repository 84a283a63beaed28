use Rattle.std.proofs.Common.{length, ap, sym, ◌∙◌}
use Rattle.columns_core.proofs.JoinedLemmas.{length-strings}
use Rattle.columns_core.proofs.joined.JoinedBytes.len.Goals as goal

pub returns : goal.returns
returns g c = let s = c.self.inside in c.len_proxy.ensures.len ∙ sym (length-strings s.offsets s.values.items s.validity c.self.invariant) ∙ ap length c.self.view_is
