use Rattle.std.proofs.Common.{◌≡◌, ◌*◌, ◌≤◌, [], Some, drop, length, map, take}
use Rattle.std.specs.Prelude.{nat_abs, unwrap_or}
use Rattle.std.specs.List.{flat_map}
use Rattle.std.specs.Str.{IsAscii}
use Rattle.parquet_encoding.specs.Places.{bytes_in}
use Rattle.binary_values.proofs.short_strings.join_short.Given as goal

-- the strings so far are joined, and the others are left
abbrev pub invariant-loop-i : goal.invariant-loop-i
invariant-loop-i g l =
    let all = unwrap_or (g.W.StringWalk.places l.fn.walk l.bytes) [] in
    record {
      left : g.W.StringWalk.places l.walk l.bytes ≡ Some (drop l.i all);
      lengths : map nat_abs (take l.i l.lengths) ≡ map (λ item. length (bytes_in l.bytes item)) (take l.i all);
      joined : take l.filled l.block ≡ flat_map (bytes_in l.bytes) (take l.i all);
      room : l.filled ≤ 16 * l.i;
      wide : length l.block ≡ length l.fn.block;
      ascii : IsAscii l.seen → IsAscii (take l.filled l.block);
      same : length l.lengths ≡ length l.fn.lengths;
    }
