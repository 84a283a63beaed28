use Rattle.std.proofs.Common.{◌≡◌, drop}
use Rattle.parquet_encoding.specs.JoinedLeft.{room_left}
use Rattle.parquet_encoding.proofs.delta_length.room_behind.Given as goal

abbrev pub invariant-loop-number : goal.invariant-loop-number
invariant-loop-number l = room_left l.room (drop l.number-index l.lengths) ≡ room_left l.fn.room l.lengths
