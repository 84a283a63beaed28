use Rattle.std.proofs.Common.{◌≡◌, take}
use Rattle.parquet_encoding.specs.DeltaBinary.{deltas_of}
use Rattle.parquet_encoding.specs.Sums.{number_behind, numbers_before}
use Rattle.parquet_encoding.proofs.sums.sums_all.Given as goal

abbrev pub invariant-loop-i : goal.invariant-loop-i
invariant-loop-i l = record {
  value : l.value ≡ number_behind l.fn.value (deltas_of l.least (take l.i l.numbers));
  done : take l.i l.out ≡ numbers_before l.fn.value (deltas_of l.least (take l.i l.numbers));
}
