use Rattle.std.proofs.Common.{◌-◌, arith, drop, length, length-drop}
use Rattle.std.proofs.lemmas.List.{take_all}
use Rattle.pq_common.proofs.PlainLemmas.{plain_ends}
use Rattle.pq_common.proofs.cells.are_ends_plain.Goals as goal

pub returns-then-are_plain : goal.returns-then-are_plain
returns-then-are_plain c = λ is.
    let bytes = c.args.bytes.now in
    let place = length bytes - c.args.block in
    let whole = take_all (length bytes - place) (drop place bytes) (omega (arith, length-drop place bytes)) in
    plain_ends c.args.block c.args.block bytes c.requires.0 c.requires.1 (c.are_plain.ensures c.if-are_plain.true) (rw whole at (c.are_plain-then-are_plain.ensures is))
