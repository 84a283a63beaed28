use Rattle.std.proofs.Common.{◌≡◌, ◌+◌, ◌*◌, take}
use Rattle.parquet_encoding.specs.Bits.{packed}
use Rattle.parquet_encoding.proofs.packed_run.unpack_at.Given as goal

abbrev pub invariant-loop-group : goal.invariant-loop-group
invariant-loop-group l = record {
  at : l.at ≡ l.place + l.group * l.width;
  done : take (8 * l.group) l.out ≡ packed l.bytes l.width (8 * l.place + l.bit) (8 * l.group);
}

abbrev pub invariant-loop-i : goal.invariant-loop-i
invariant-loop-i l = record {
  shift : 8 * l.groups * l.width + l.shift ≡ l.bit + l.i * l.width;
  done : take l.i l.out ≡ packed l.bytes l.width (8 * l.place + l.bit) l.i;
}
