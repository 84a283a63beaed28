use Rattle.std.proofs.Common.{◌∙◌, arith}
use Rattle.parquet_encoding.proofs.BitsLemmas.{value_in_word}
use Rattle.parquet_encoding.proofs.bits.value_inside.Goals as goal

pub returns : goal.returns
returns c =
    c.field.ensures ∙ value_in_word c.args.bytes.now c.args.place c.args.bit c.args.width c.word_inside.result (λ i. omega (arith, c.type_inv.bytes i)) c.requires.narrow c.word_inside.ensures
