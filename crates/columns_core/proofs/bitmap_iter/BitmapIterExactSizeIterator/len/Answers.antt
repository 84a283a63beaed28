use Rattle.std.proofs.Common.{◌^◌, ◌/◌, ◌∙◌, length, ap, sym}
use Rattle.parquet_base.specs.Bytes.{little_endian}
use Rattle.columns_core.proofs.BitLemmas.{length-low_bits}
use Rattle.columns_core.proofs.bitmap_iter.BitmapIterExactSizeIterator.len.Goals as goal

pub returns-clause-value : goal.returns-clause-value
returns-clause-value c = let s = c.self.inside in sym (length-low_bits (little_endian s.bytes.now / 2 ^ s.start) s.left) ∙ ap length c.self.view_is
