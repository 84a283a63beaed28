use Rattle.std.proofs.Common.{refl}
use Rattle.columns_core.proofs.TextLemmas.{begin-in_ascii}
use Rattle.columns_core.proofs.joined.begin_at_characters.Goals as goal

pub returns-then-is_ascii : goal.returns-then-is_ascii
returns-then-is_ascii g c = (λ _. begin-in_ascii c.args.offsets.now c.args.text.now c.len_proxy-count.ensures.shape c.requires c.if-is_ascii.ensures.cases, λ _. refl)
