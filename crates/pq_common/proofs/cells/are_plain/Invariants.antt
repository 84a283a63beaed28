use Rattle.std.proofs.Common.{◌≡◌, true, take}
use Rattle.std.specs.List.{flat_map}
use Rattle.pq_common.specs.CellText.{quoted_byte}
use Rattle.pq_common.proofs.cells.are_plain.Given as goal

-- the bytes so far stand for themselves, unless one was found that does not
abbrev pub invariant-loop-byte : goal.invariant-loop-byte
invariant-loop-byte l = l.plain ≡ true → flat_map quoted_byte (take l.byte-index l.bytes) ≡ take l.byte-index l.bytes
