use Rattle.std.proofs.Common.{refl, ap, ◌∙◌, get_or, ◌/◌, arith, add-one}
use Rattle.columns_core.proofs.BitLemmas.{byte_of_bytes}
use Rattle.columns_core.proofs.bits.byte_at.Goals as goal

pub returns : goal.returns
returns c = byte_of_bytes c.args.bytes.now c.args.place _ c.byte_or_zero-high.result (λ i. omega (arith, c.type_inv.bytes i)) refl (c.byte_or_zero-high.ensures ∙ ap (λ i. get_or c.args.bytes.now i 0) (add-one (c.args.place / 8)))
