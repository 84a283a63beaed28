use Rattle.std.proofs.Common.{◌≡◌, take}
use Rattle.parquet_encoding.specs.DeltaBinary.{deltas_of}
use Rattle.parquet_encoding.specs.Sums.{number_behind}
use Rattle.parquet_encoding.proofs.sums.added_all.Given as goal

abbrev pub invariant-loop-number : goal.invariant-loop-number
invariant-loop-number l = l.value ≡ number_behind l.fn.value (deltas_of l.least (take l.number-index l.numbers))
