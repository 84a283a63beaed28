use Rattle.std.proofs.Common.{◌≡◌, length, replicate, take}
use Rattle.parquet_encoding.specs.DeltaBinary.{deltas_of}
use Rattle.parquet_encoding.specs.Sums.{number_behind, numbers_before}
use Rattle.parquet_encoding.proofs.sums.sums_of_steps.Given as goal

abbrev pub invariant-loop-i : goal.invariant-loop-i
invariant-loop-i l = record {
  value : l.value ≡ number_behind l.fn.value (deltas_of l.least (take l.i (replicate (length l.fn.out) 0)));
  done : take l.i l.out ≡ numbers_before l.fn.value (deltas_of l.least (take l.i (replicate (length l.fn.out) 0)));
}
