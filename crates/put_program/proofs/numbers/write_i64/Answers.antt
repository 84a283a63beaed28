use Rattle.std.proofs.Common.{ℤ, ◌++◌, ap, sym, ◌∙◌}
use Rattle.std.specs.Int.{w64, cast_unsigned}
use Rattle.std.proofs.lemmas.Int.{to_z-of_z}
use Rattle.parquet_plain.specs.Bodies.{number_bytes}
use Rattle.parquet_plain.proofs.BodyLemmas.{eight-bytes}
use Rattle.put_program.proofs.numbers.write_i64.Goals as goal

pub returns : goal.returns
returns c =
    c.in_ok-extend_from_slice.ensures.items
    ∙ ap (λ bs. c.args.bytes.now.items ++ bs)
    (c.to_le_bytes.ensures ∙ sym (eight-bytes _) ∙ ap (λ (n : ℤ). number_bytes 8 (cast_unsigned w64 n)) (to_z-of_z w64 c.args.number c.ranges.number))
