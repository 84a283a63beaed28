use Rattle.std.proofs.Common.{length, ap, sym, ◌∙◌}
use Rattle.parquet_base.specs.Bytes.{little_endian}
use Rattle.columns_core.proofs.BitLemmas.{length-low_bits}
use Rattle.columns_core.proofs.bitmap.Bitmap.len.Goals as goal

pub returns : goal.returns
returns c = sym (length-low_bits (little_endian c.self.inside.bytes.items) c.self.inside.length) ∙ ap length c.self.view_is
