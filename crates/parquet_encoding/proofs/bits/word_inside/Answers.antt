use Rattle.std.proofs.Common.{◌≡◌, ◌+◌, ◌-◌, ◌∙◌, drop, take, ap, arith}
use Rattle.std.specs.Int.{w64, from_le_bytes}
use Rattle.std.proofs.lemmas.List.{take-take}
use Rattle.parquet_base.proofs.BytesLemmas.{AreBytes-drop}
use Rattle.parquet_encoding.proofs.BitsLemmas.{word_is}
use Rattle.parquet_encoding.proofs.bits.word_inside.Goals as goal

pub returns : goal.returns
returns c =
    let rest = drop c.args.place c.args.bytes.now in
    let word : c.in-Some.word.now ≡ take 8 rest = c.in-Some.ensures.cases.same ∙ take-take 8 (c.args.place + 8 - c.args.place) rest (omega arith) in
    c.from_le_bytes.ensures ∙ ap (from_le_bytes w64) word ∙ word_is rest (AreBytes-drop c.args.place c.args.bytes.now (λ i. omega (arith, c.type_inv.bytes i)))
