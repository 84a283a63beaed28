use Rattle.std.proofs.Common.{length, ap, arith}
use Rattle.parquet_base.specs.Bytes.{little_endian}
use Rattle.columns_core.proofs.BitLemmas.{no_bits}
use Rattle.parquet_base.proofs.BytesLemmas.{little_endian-none}
use Rattle.columns_core.proofs.mutable_bitmap.MutableBitmap.with_capacity.Goals as goal

pub invariant_of-result : goal.invariant_of-result
invariant_of-result c =
    let none = c.in_ok-with_capacity.ensures.items in
    record { needed = ap length none; below = omega (arith, ap little_endian none, little_endian-none) }

pub returns-clause-ok : goal.returns-clause-ok
returns-clause-ok c = no_bits (little_endian c.in_ok-with_capacity.field-0.items)
