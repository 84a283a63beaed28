use Rattle.std.proofs.Common.{◌≡◌, ◌≤◌, ◌-◌, length, take}
use Rattle.std.specs.List.{flat_map}
use Rattle.pq_common.specs.CellText.{quoted_byte}
use Rattle.pq_common.proofs.cells.plain_blocks.Given as goal

-- the bytes so far stand for themselves
abbrev pub invariant-loop-count : goal.invariant-loop-count
invariant-loop-count l = record {
  least : l.plain ≤ l.count;
  within : l.count ≤ length l.bytes;
  plain : flat_map quoted_byte (take l.count l.bytes) ≡ take l.count l.bytes;
}

abbrev pub decreases-loop-count : goal.decreases-loop-count
decreases-loop-count l = length l.bytes - l.count
