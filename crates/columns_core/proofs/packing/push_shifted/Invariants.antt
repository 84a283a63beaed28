use Rattle.std.proofs.Common.{◌≡◌, ◌+◌, ◌*◌, ◌/◌, ◌%◌, ◌^◌, length, take}
use Rattle.parquet_base.specs.Bytes.{little_endian}
use Rattle.columns_core.proofs.packing.push_shifted.Given as goal

abbrev pub invariant-loop-i : goal.invariant-loop-i
invariant-loop-i l =
    (take (length l.initial.out.items) l.out.items ≡ l.initial.out.items)
    × (length l.out.items ≡ length l.initial.out.items + l.i)
    × (little_endian l.out.items ≡ little_endian l.initial.out.items + 2 ^ (8 * length l.initial.out.items) * (little_endian l.bytes / 2 ^ l.place % 2 ^ (8 * l.i)))
