use Rattle.std.proofs.Common.{◌≡◌, ◌-◌, ◌≤◌, length, take, drop, Some}
use Rattle.parquet_encoding.specs.Sums.{number_behind, numbers_before}
use Rattle.parquet_encoding.specs.DeltaWalk.{deltas_left, deltas}
use Rattle.parquet_encoding.proofs.delta_walk.DeltaWalk.sums.Given as goal

abbrev pub invariant-loop-done : goal.invariant-loop-done
invariant-loop-done l = record {
  value : l.value ≡ number_behind l.fn.value (take l.done (deltas l.fn.self l.bytes));
  left : deltas_left l.self l.bytes ≡ Some (drop l.done (deltas l.fn.self l.bytes));
  written : take l.done l.out ≡ numbers_before l.fn.value (take l.done (deltas l.fn.self l.bytes));
  few : l.done ≤ length l.out;
}

abbrev pub decreases-loop-done : goal.decreases-loop-done
decreases-loop-done l = length l.initial.out - l.done
