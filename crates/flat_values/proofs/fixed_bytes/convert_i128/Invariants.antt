use Rattle.std.proofs.Common.{◌≡◌, ◌<◌, ◌*◌, ◌^◌, take, reverse}
use Rattle.parquet_base.specs.Bytes.{little_endian}
use Rattle.flat_values.proofs.fixed_bytes.convert_i128.Given as goal

-- the bytes so far as a number, and how large it may be
abbrev pub invariant-loop-byte : goal.invariant-loop-byte
invariant-loop-byte l = (l.pattern ≡ little_endian (reverse (take l.byte-index l.value))) × (l.pattern < 2 ^ (8 * l.byte-index))
