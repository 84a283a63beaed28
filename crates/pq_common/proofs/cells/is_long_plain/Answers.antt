use Rattle.std.proofs.Common.{◌-◌, arith, drop, length, length-drop}
use Rattle.std.proofs.lemmas.List.{take_all}
use Rattle.pq_common.proofs.PlainLemmas.{plain_ends}
use Rattle.pq_common.proofs.cells.is_long_plain.Goals as goal

pub returns-then-bytes-most-le-BLOCK : goal.returns-then-bytes-most-le-BLOCK
returns-then-bytes-most-le-BLOCK c = λ is.
    let bytes = c.args.bytes.now in
    let place = length bytes - 16 in
    let whole = take_all (length bytes - place) (drop place bytes) (omega (arith, length-drop place bytes)) in
    plain_ends c.plain_blocks-most.result 16 bytes c.requires (omega arith) c.plain_blocks-most.ensures.plain (rw whole at (c.are_plain.ensures is))
