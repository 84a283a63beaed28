use Rattle.std.proofs.Common.{◌≡◌, ◌-◌, ◌≤◌, length, drop}
use Rattle.std.specs.Prelude.{is_some}
use Rattle.parquet_encoding.specs.Plain.{plain_bytes}
use Rattle.parquet_encoding.proofs.plain_bytes.PlainBytes.try_new.Given as goal

abbrev pub invariant-loop : goal.invariant-loop
invariant-loop l = record {
  within : l.end ≤ length l.bytes;
  same : is_some (plain_bytes (drop l.end l.bytes) (l.count - l.counter)) ≡ is_some (plain_bytes l.bytes l.count);
}
