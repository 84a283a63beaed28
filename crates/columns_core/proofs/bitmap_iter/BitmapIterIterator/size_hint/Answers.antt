use Rattle.std.proofs.Common.{◌^◌, ◌/◌, length, ap, arith}
use Rattle.parquet_base.specs.Bytes.{little_endian}
use Rattle.columns_core.proofs.BitLemmas.{length-low_bits}
use Rattle.columns_core.proofs.bitmap_iter.BitmapIterIterator.size_hint.Goals as goal

pub returns-clause-lower : goal.returns-clause-lower
returns-clause-lower c _ = let s = c.self.inside in let seen = ap length c.self.view_is in omega (arith, seen, length-low_bits (little_endian s.bytes.now / 2 ^ s.start) s.left)

pub returns-clause-upper : goal.returns-clause-upper
returns-clause-upper c = let s = c.self.inside in let seen = ap length c.self.view_is in (tt, omega (arith, seen, length-low_bits (little_endian s.bytes.now / 2 ^ s.start) s.left))
