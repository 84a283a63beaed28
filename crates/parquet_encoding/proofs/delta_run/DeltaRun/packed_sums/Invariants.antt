use Rattle.std.proofs.Common.{◌≡◌, ◌+◌, ◌*◌, take}
use Rattle.parquet_encoding.specs.Sums.{number_behind, numbers_before}
use Rattle.parquet_encoding.proofs.DeltaRunLemmas.{packed_deltas}
use Rattle.parquet_encoding.proofs.delta_run.DeltaRun.packed_sums.Given as goal

abbrev pub invariant-loop-group : goal.invariant-loop-group
invariant-loop-group l = record {
  place : l.place ≡ l.self.place + l.group * l.self.width;
  value : l.value ≡ number_behind l.fn.value (packed_deltas l.self.least l.bytes l.self.width (8 * l.self.place + l.self.bit) (8 * l.group));
  done : take (8 * l.group) l.out ≡ numbers_before l.fn.value (packed_deltas l.self.least l.bytes l.self.width (8 * l.self.place + l.self.bit) (8 * l.group));
}

abbrev pub invariant-loop-i : goal.invariant-loop-i
invariant-loop-i l = record {
  bit : 8 * l.groups * l.self.width + l.bit ≡ l.self.bit + l.i * l.self.width;
  value : l.value ≡ number_behind l.fn.value (packed_deltas l.self.least l.bytes l.self.width (8 * l.self.place + l.self.bit) l.i);
  done : take l.i l.out ≡ numbers_before l.fn.value (packed_deltas l.self.least l.bytes l.self.width (8 * l.self.place + l.self.bit) l.i);
}
