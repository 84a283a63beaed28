use Rattle.std.proofs.Common.{◌≡◌, map, take}
use Rattle.column_ends.specs.Converted.{high_of, low_of}
use Rattle.column_ends.specs.Counted.{bytes_of_ends}
use Rattle.parquet_statistics.proofs.told.check_column.Given as goal

abbrev pub invariant-loop-ends : goal.invariant-loop-ends
invariant-loop-ends l = l.bytes ≡ bytes_of_ends (map low_of (take l.ends-index l.column)) (map high_of (take l.ends-index l.column))
