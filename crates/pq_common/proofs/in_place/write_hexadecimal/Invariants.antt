use Rattle.std.proofs.Common.{◌≡◌, ◌≤◌, ◌++◌, drop, length}
use Rattle.std.specs.List.{flat_map}
use Rattle.pq_common.specs.CellText.{hexadecimal}
use Rattle.pq_common.proofs.in_place.write_hexadecimal.Given as goal

-- the digits of the bytes that are left stand before those that are written
abbrev pub invariant-loop-byte : goal.invariant-loop-byte
invariant-loop-byte l = record {
  within : l.start ≤ l.end;
  left : flat_map hexadecimal l.rest ++ drop l.start l.line ≡ flat_map hexadecimal l.bytes ++ drop l.end l.initial.line;
}

abbrev pub decreases-loop-byte : goal.decreases-loop-byte
decreases-loop-byte l = length l.rest
