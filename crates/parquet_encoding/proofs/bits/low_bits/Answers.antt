use Rattle.std.proofs.Common.{◌-◌, ◌∙◌, ap, arith}
use Rattle.std.specs.Prelude.{bit_and}
use Rattle.std.proofs.lemmas.Nat.{one_shl, and_mask}
use Rattle.parquet_encoding.proofs.bits.low_bits.Goals as goal

pub returns-then-width-lt64 : goal.returns-then-width-lt64
returns-then-width-lt64 c = ap (λ m. bit_and c.args.word (m - 1)) (one_shl c.args.width 64 (omega arith)) ∙ and_mask c.args.word c.args.width
