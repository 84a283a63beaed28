use Rattle.std.proofs.Common.{◌∙◌, arith}
use Rattle.parquet_encoding.proofs.WideLemmas.{in_one_word}
use Rattle.parquet_encoding.proofs.bits.wide_inside.Goals as goal

pub returns : goal.returns
returns c =
    c.low_bits.ensures
    ∙ in_one_word c.args.bytes.now c.args.place c.args.bit c.args.width c.word_inside.result (λ i. omega (arith, c.type_inv.bytes i)) (omega arith) c.word_inside.ensures
