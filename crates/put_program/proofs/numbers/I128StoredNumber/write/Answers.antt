use Rattle.std.proofs.Common.{◌++◌, ap, ◌∙◌}
use Rattle.std.specs.Int.{w128}
use Rattle.std.proofs.lemmas.Int.{to_z-of_z}
use Rattle.put_program.specs.Stored.{decimal_bytes}
use Rattle.put_program.proofs.NumberLemmas.{high-first}
use Rattle.put_program.proofs.numbers.I128StoredNumber.write.Goals as goal

pub returns : goal.returns
returns c =
    c.in_ok-extend_from_slice.ensures.items
    ∙ ap (λ bs. c.args.bytes.now.items ++ bs) (c.to_be_bytes.ensures ∙ high-first 16 _ ∙ ap decimal_bytes (to_z-of_z w128 c.args.self c.ranges.self))
