use Rattle.std.proofs.Common.{◌++◌, ap, sym, ◌∙◌}
use Rattle.std.specs.Int.{w64}
use Rattle.std.proofs.Math.Facts.{of_z-to_z}
use Rattle.parquet_plain.specs.Bodies.{number_bytes}
use Rattle.parquet_plain.proofs.BodyLemmas.{eight-bytes}
use Rattle.put_program.proofs.numbers.U64StoredNumber.write.Goals as goal

pub returns : goal.returns
returns c =
    c.in_ok-extend_from_slice.ensures.items
    ∙ ap (λ bs. c.args.bytes.now.items ++ bs) (c.to_le_bytes.ensures ∙ sym (eight-bytes c.args.self) ∙ ap (number_bytes 8) (sym (of_z-to_z {w = w64} c.ranges.self)))
