use Rattle.std.proofs.Common.{◌≡◌, map, take}
use Rattle.parquet_statistics.specs.Parts.{slot_of_end}
use Rattle.parquet_statistics.proofs.column_arrays.array_of_ends.Given as goal

-- those so far
abbrev pub invariant-loop-ends : goal.invariant-loop-ends
invariant-loop-ends l = l.builder ≡ (l.data_type, map (slot_of_end l.end) (take l.ends-index l.column))
