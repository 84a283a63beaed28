use Rattle.std.proofs.Common.{◌≡◌, ◌≤◌, ◌-◌, ◌++◌, Some, length, take, drop}
use Rattle.parquet_encoding.specs.HybridLeft.{hybrid_left, hybrid_values}
use Rattle.parquet_encoding.proofs.hybrid.HybridRle.fill.Given as goal

abbrev pub invariant-loop-done : goal.invariant-loop-done
invariant-loop-done l = record {
  left : hybrid_left l.self l.bytes ≡ Some (drop l.done (hybrid_values l.fn.self l.bytes));
  filled : l.out ≡ take l.done (hybrid_values l.fn.self l.bytes) ++ drop l.done l.initial.out;
  few : l.done ≤ length (hybrid_values l.fn.self l.bytes);
  room : l.done ≤ length l.initial.out;
}

abbrev pub decreases-loop-done : goal.decreases-loop-done
decreases-loop-done l = length l.initial.out - l.done
