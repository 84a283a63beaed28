use Rattle.std.proofs.Common.{◌≡◌, ℕ, ◌+◌, ◌*◌, ◌/◌, ◌%◌, ◌^◌, ◌≤◌, ◌∙◌, ap, arith}
use Rattle.parquet_encoding.specs.Bits.{bits_at}
use Rattle.parquet_encoding.proofs.BitsLemmas.{field_of_word, eight_packed}
use Rattle.parquet_encoding.proofs.bits.eight_in_halves.Goals as goal

pub returns : goal.returns
returns c =
    let bytes = c.args.bytes.now in
    let place = c.args.place in
    let bit = c.args.bit in
    let width = c.args.width in
    let low = c.word_at-low.result in
    let high = c.word_at-high.result in
    let first : (shift : ℕ) → shift + width ≤ 64 → low / 2 ^ shift % 2 ^ width ≡ bits_at bytes (8 * place + shift) width =
    λ shift inside. field_of_word bytes place shift width low (λ i. omega (arith, c.type_inv.bytes i)) c.word_at-low.ensures inside in
    let middle = bit + 4 * width in
    let second : (shift at : ℕ) → shift + width ≤ 64 → 8 * (place + middle / 8) + shift ≡ 8 * place + at → high / 2 ^ shift % 2 ^ width ≡ bits_at bytes (8 * place + at) width =
    λ shift at inside there. field_of_word bytes (place + middle / 8) shift width high (λ i. omega (arith, c.type_inv.bytes i)) c.word_at-high.ensures inside ∙ ap (λ n. bits_at bytes n width) there in
    let e0 = c.field.ensures ∙ first bit (omega arith) in
    let e1 = c.field-2.ensures ∙ first (bit + width) (omega arith) in
    let e2 = c.field-3.ensures ∙ first (bit + 2 * width) (omega arith) in
    let e3 = c.field-4.ensures ∙ first (bit + 3 * width) (omega arith) in
    let e4 = c.field-5.ensures ∙ second (middle % 8) (bit + 4 * width) (omega arith) (omega arith) in
    let e5 = c.field-6.ensures ∙ second (middle % 8 + width) (bit + 5 * width) (omega arith) (omega arith) in
    let e6 = c.field-7.ensures ∙ second (middle % 8 + 2 * width) (bit + 6 * width) (omega arith) (omega arith) in
    let e7 = c.field-8.ensures ∙ second (middle % 8 + 3 * width) (bit + 7 * width) (omega arith) (omega arith) in
    let whole = eight_packed bytes width (8 * place) bit in
    cc
