use Rattle.std.proofs.Common.{ℕ, List, ◌++◌, ap, sym, append_assoc, length, ◌∙◌}
use Rattle.parquet_plain.specs.Bodies.{number_bytes}
use Rattle.parquet_plain.proofs.BodyLemmas.{four-bytes}
use Rattle.put_program.proofs.NumberLemmas.{low-four}
use Rattle.put_program.proofs.strings.write_string.Goals as goal

pub returns : goal.returns
returns c =
    c.in_ok-extend_from_slice-2.ensures.items ∙ ap (λ (bs : List ℕ). bs ++ c.args.bytes.now)
    (c.in_ok-extend_from_slice.ensures.items ∙ ap (λ (bs : List ℕ). c.args.body.now.items ++ bs) (c.to_le_bytes.ensures ∙ sym (four-bytes _) ∙ low-four (length c.args.bytes.now)))
    ∙ append_assoc c.args.body.now.items (number_bytes 4 (length c.args.bytes.now)) c.args.bytes.now
