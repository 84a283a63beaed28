use Rattle.std.proofs.Common.{◌≡◌, ◌++◌, ◌≤◌, [], Some, drop, length, map, take}
use Rattle.std.specs.Prelude.{sum_by, unwrap_or}
use Rattle.parquet_encoding.specs.Places.{bytes_in}
use Rattle.binary_values.proofs.string_walk.take_each.Given as goal

-- the strings so far were appended, and the others are left
abbrev pub invariant-loop : goal.invariant-loop
invariant-loop g l = record {
  left : g.W.StringWalk.places l.walk l.bytes ≡ Some (drop l.counter (unwrap_or (g.W.StringWalk.places l.fn.walk l.bytes) []));
  added : l.strings ≡ l.fn.strings ++ map (bytes_in l.bytes) (take l.counter (unwrap_or (g.W.StringWalk.places l.fn.walk l.bytes) []));
  fits : sum_by length l.strings ≤ g.O.Offset.greatest;
}
