use Rattle.std.proofs.Common.{refl, arith}
use Rattle.columns_core.proofs.BitLemmas.{bit_of_bytes}
use Rattle.columns_core.proofs.bits.bit_at.Goals as goal

pub returns : goal.returns
returns c = bit_of_bytes c.args.bytes.now c.args.place _ (λ i. omega (arith, c.type_inv.bytes i)) refl
