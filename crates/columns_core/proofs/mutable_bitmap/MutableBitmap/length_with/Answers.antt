use Rattle.std.proofs.Common.{length, ap, arith}
use Rattle.parquet_base.specs.Bytes.{little_endian}
use Rattle.columns_core.proofs.BitLemmas.{length-low_bits}
use Rattle.columns_core.proofs.mutable_bitmap.MutableBitmap.length_with.Goals as goal

pub returns-in-Some-clause-ok : goal.returns-in-Some-clause-ok
returns-in-Some-clause-ok c =
    let seen = ap length c.self.view_is in
    let long = length-low_bits (little_endian c.self.inside.bytes.items) c.self.inside.length in
    (omega (arith, seen, long, c.in-Some.ensures), omega (arith, c.in-Some.ensures))
