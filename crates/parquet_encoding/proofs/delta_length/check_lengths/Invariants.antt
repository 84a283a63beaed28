use Rattle.std.proofs.Common.{◌≡◌, length}
use Rattle.std.specs.Prelude.{IsSome, is_some}
use Rattle.parquet_encoding.specs.DeltaLeft.{delta_left, numbers}
use Rattle.parquet_encoding.specs.JoinedLeft.{room_left}
use Rattle.parquet_encoding.proofs.delta_length.check_lengths.Given as goal

abbrev pub invariant-loop-walk : goal.invariant-loop-walk
invariant-loop-walk l = record {
  spelled : IsSome (delta_left l.walk l.bytes);
  same : is_some (room_left l.room (numbers l.walk l.bytes)) ≡ is_some (room_left l.fn.room (numbers l.fn.lengths l.bytes));
}

abbrev pub decreases-loop-walk : goal.decreases-loop-walk
decreases-loop-walk l = length (numbers l.walk l.bytes)
