use Rattle.std.proofs.Common.{◌≡◌, ◌+◌}
use Rattle.std.specs.List.{range_with_len}
use Rattle.parquet_statistics.proofs.lists.places_of_each.Given as goal

-- the places so far are those from 0 on
abbrev pub invariant-loop : goal.invariant-loop
invariant-loop g l = l.places ≡ range_with_len 0 (l.counter + 1)
