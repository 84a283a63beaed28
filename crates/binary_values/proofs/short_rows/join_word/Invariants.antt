use Rattle.std.proofs.Common.{◌≡◌, ◌*◌, ◌≤◌, ℕ, ℤ, [], Some, drop, length, map, pos, take}
use Rattle.std.specs.Prelude.{unwrap_or}
use Rattle.std.specs.List.{flat_map}
use Rattle.std.specs.Str.{IsAscii}
use Rattle.columns_core.specs.Bits.{low_bits}
use Rattle.parquet_encoding.specs.Places.{bytes_in}
use Rattle.parquet_page.specs.ValidityParts.{word_places}
use Rattle.flat_values.specs.Decoded.{spread_over}
use Rattle.binary_values.proofs.FirstRowLemmas.{still}
use Rattle.binary_values.proofs.short_rows.join_word.Given as goal

-- the strings so far are joined, and their rows have their lengths
abbrev pub invariant-loop : goal.invariant-loop
invariant-loop g l =
    let all = unwrap_or (g.W.StringWalk.places l.fn.walk l.bytes) [] in
    let places = word_places l.fn.word in
    let long : ℕ × ℕ → ℤ = λ item. pos (length (bytes_in l.bytes item)) in
    record {
      left : g.W.StringWalk.places l.walk l.bytes ≡ Some (drop l.counter all);
      bits : low_bits l.bits l.fn.word.rows ≡ still l.counter places;
      lengths : l.lengths ≡ spread_over (pos 0) places (map long (take l.counter all));
      joined : take l.filled l.block ≡ flat_map (bytes_in l.bytes) (take l.counter all);
      room : l.filled ≤ 16 * l.counter;
      counted : l.counter ≤ length all;
      same : length l.block ≡ length l.fn.block;
      ascii : IsAscii l.seen → IsAscii (take l.filled l.block);
    }
