use Rattle.std.proofs.Common.{◌++◌, drop}
use Rattle.std.specs.List.{flat_map}
use Rattle.pq_common.specs.CellText.{hexadecimal}
use Rattle.pq_common.proofs.TakenLemmas.{Leaves}
use Rattle.pq_common.proofs.cells.push_digits.Given as goal

-- what is held and the digits of the bytes that are left are not yet written
abbrev pub invariant-loop-byte : goal.invariant-loop-byte
invariant-loop-byte g l =
    Leaves g.K.Sink l.initial.out l.out (l.initial.block ++ flat_map hexadecimal l.bytes) (l.block ++ flat_map hexadecimal (drop l.byte-index l.bytes))
