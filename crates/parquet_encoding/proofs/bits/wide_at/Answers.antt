use Rattle.std.proofs.Common.{◌≡◌, ◌+◌, ◌-◌, ◌%◌, ◌∙◌, arith}
use Rattle.parquet_encoding.proofs.WideLemmas.{in_one_word, in_two_words}
use Rattle.parquet_encoding.proofs.bits.wide_at.Goals as goal

pub returns-then-shift-width-le-WORD : goal.returns-then-shift-width-le-WORD
returns-then-shift-width-le-WORD c =
    c.low_bits.ensures
    ∙ in_one_word c.args.bytes.now c.args.place c.args.bit c.args.width c.word_at.result (λ i. omega (arith, c.type_inv.bytes i)) (omega arith) c.word_at.ensures

pub returns-else-shift-width-le-WORD : goal.returns-else-shift-width-le-WORD
returns-else-shift-width-le-WORD c =
    let turned : c.args.bit % 8 + (64 - c.args.bit % 8) ≡ 64 = omega arith in
    c.low_bits-else-shift-width-le-WORD.ensures
    ∙ in_two_words c.args.bytes.now c.args.place c.args.bit c.args.width c.word_at.result c.from.result (64 - c.args.bit % 8) (λ i. omega (arith, c.type_inv.bytes i)) c.requires.wide c.word_at.ensures c.from.ensures turned
