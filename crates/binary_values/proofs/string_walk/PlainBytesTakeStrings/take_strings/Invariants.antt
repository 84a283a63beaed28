use Rattle.std.proofs.Common.{◌≤◌, length}
use Rattle.std.specs.Prelude.{IsSome, sum_by}
use Rattle.parquet_encoding.specs.Places.{bytes_in}
use Rattle.parquet_encoding.specs.PlainLeft.{strings, strings_left}
use Rattle.binary_values.proofs.JoinedLemmas.{StringsLeft}
use Rattle.binary_values.proofs.string_walk.PlainBytesTakeStrings.take_strings.Given as goal

-- the strings so far were appended, and the others are left
abbrev pub invariant-loop-left : goal.invariant-loop-left
invariant-loop-left g l = record {
  spelled : IsSome (strings_left l.walk l.bytes);
  strings : StringsLeft (bytes_in l.bytes) l.fn.strings l.strings l.count l.left (strings l.fn.self l.bytes) (strings l.walk l.bytes);
  fits : sum_by length l.strings ≤ g.O.Offset.greatest;
}

abbrev pub decreases-loop-left : goal.decreases-loop-left
decreases-loop-left g l = l.left
