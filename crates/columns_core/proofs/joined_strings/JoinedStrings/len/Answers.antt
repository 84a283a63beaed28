use Rattle.std.proofs.Common.{ap, arith, length}
use Rattle.columns_core.proofs.OffsetLemmas.{length-parts}
use Rattle.columns_core.proofs.joined_strings.JoinedStrings.len.Goals as goal

pub returns : goal.returns
returns g c = omega (arith, c.len_proxy.ensures.len, length-parts c.self.inside.offsets c.self.inside.values.items, ap length c.self.view_is)
