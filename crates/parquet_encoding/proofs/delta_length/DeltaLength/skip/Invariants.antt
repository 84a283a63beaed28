use Rattle.std.proofs.Common.{◌≡◌, ◌≤◌, drop, length}
use Rattle.std.specs.Prelude.{IsSome}
use Rattle.parquet_encoding.specs.JoinedLeft.{joined_left, joined_values}
use Rattle.parquet_encoding.proofs.delta_length.DeltaLength.skip.Given as goal

-- behind the strings that are still to be passed over stand those behind the first `n`
abbrev pub invariant-loop-left : goal.invariant-loop-left
invariant-loop-left l = record {
  spelled : IsSome (joined_left l.self l.bytes);
  few : l.left ≤ length (joined_values l.self l.bytes);
  behind : drop l.left (joined_values l.self l.bytes) ≡ drop l.fn.n (joined_values l.fn.self l.bytes);
}

abbrev pub decreases-loop-left : goal.decreases-loop-left
decreases-loop-left l = l.left
