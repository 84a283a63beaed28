use Rattle.std.proofs.Common.{◌≡◌, ◌+◌, length, drop}
use Rattle.std.specs.Int.Count.{ones}
use Rattle.parquet_base.specs.Bytes.{little_endian}
use Rattle.parquet_base.proofs.BytesLemmas.{AreBytes}
use Rattle.columns_core.proofs.bitmap.count_ones.Given as goal

-- those that were counted, and those of the bytes that are left
abbrev pub invariant-loop-word : goal.invariant-loop-word
invariant-loop-word l = AreBytes l.rest × (l.set + ones (little_endian l.rest) ≡ ones (little_endian l.bytes))

abbrev pub decreases-loop-word : goal.decreases-loop-word
decreases-loop-word l = length l.rest

abbrev pub invariant-loop-byte : goal.invariant-loop-byte
invariant-loop-byte l = l.set + ones (little_endian (drop l.byte-index l.byte-items)) ≡ ones (little_endian l.bytes)
