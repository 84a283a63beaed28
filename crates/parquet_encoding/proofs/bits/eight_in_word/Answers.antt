use Rattle.std.proofs.Common.{◌≡◌, ℕ, ◌+◌, ◌*◌, ◌/◌, ◌%◌, ◌^◌, ◌≤◌, ◌∙◌, arith}
use Rattle.parquet_encoding.specs.Bits.{bits_at}
use Rattle.parquet_encoding.proofs.BitsLemmas.{field_of_word, eight_packed}
use Rattle.parquet_encoding.proofs.bits.eight_in_word.Goals as goal

pub returns : goal.returns
returns c =
    let bytes = c.args.bytes.now in
    let place = c.args.place in
    let bit = c.args.bit in
    let width = c.args.width in
    let word = c.word_at-word.result in
    let read : (shift : ℕ) → shift + width ≤ 64 → word / 2 ^ shift % 2 ^ width ≡ bits_at bytes (8 * place + shift) width =
    λ shift inside. field_of_word bytes place shift width word (λ i. omega (arith, c.type_inv.bytes i)) c.word_at-word.ensures inside in
    let e0 = c.field.ensures ∙ read bit (omega arith) in
    let e1 = c.field-2.ensures ∙ read (bit + width) (omega arith) in
    let e2 = c.field-3.ensures ∙ read (bit + 2 * width) (omega arith) in
    let e3 = c.field-4.ensures ∙ read (bit + 3 * width) (omega arith) in
    let e4 = c.field-5.ensures ∙ read (bit + 4 * width) (omega arith) in
    let e5 = c.field-6.ensures ∙ read (bit + 5 * width) (omega arith) in
    let e6 = c.field-7.ensures ∙ read (bit + 6 * width) (omega arith) in
    let e7 = c.field-8.ensures ∙ read (bit + 7 * width) (omega arith) in
    let whole = eight_packed bytes width (8 * place) bit in
    cc
