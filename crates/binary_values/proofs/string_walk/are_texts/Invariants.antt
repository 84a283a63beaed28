use Rattle.std.proofs.Common.{◌≡◌, [], Some, drop, map, take}
use Rattle.std.specs.Prelude.{All, IsUtf8, unwrap_or}
use Rattle.parquet_encoding.specs.Places.{bytes_in}
use Rattle.binary_values.proofs.string_walk.are_texts.Given as goal

-- the strings so far are texts, and the others are left
abbrev pub invariant-loop : goal.invariant-loop
invariant-loop g l = record {
  left : g.W.StringWalk.places l.walk l.bytes ≡ Some (drop l.counter (unwrap_or (g.W.StringWalk.places l.fn.walk l.bytes) []));
  texts : All IsUtf8 (map (bytes_in l.bytes) (take l.counter (unwrap_or (g.W.StringWalk.places l.fn.walk l.bytes) [])));
}
