use Rattle.std.proofs.Common.{◌≡◌, ◌+◌, ◌*◌, ◌/◌}
use Rattle.parquet_encoding.specs.Sums.{number_behind}
use Rattle.parquet_encoding.proofs.DeltaRunLemmas.{packed_deltas}
use Rattle.parquet_encoding.proofs.delta_run.DeltaRun.pass.Given as goal

abbrev pub invariant-loop : goal.invariant-loop
invariant-loop l = record {
  place : l.place ≡ l.self.place + l.counter * l.self.width;
  value : l.value ≡ number_behind l.fn.value (packed_deltas l.self.least l.bytes l.self.width (8 * l.self.place + l.self.bit) (8 * l.counter));
}

abbrev pub invariant-loop-2 : goal.invariant-loop-2
invariant-loop-2 l = record {
  bit : l.bit ≡ l.self.bit + l.counter * l.self.width;
  value : l.value ≡ number_behind l.fn.value (packed_deltas l.self.least l.bytes l.self.width (8 * l.self.place + l.self.bit) (8 * (l.self.count / 8) + l.counter));
}
