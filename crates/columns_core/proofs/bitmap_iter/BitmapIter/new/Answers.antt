use Rattle.columns_core.proofs.BitLemmas.{bits_of-same}
use Rattle.columns_core.proofs.bitmap_iter.BitmapIter.new.Goals as goal

pub returns : goal.returns
returns c = let r = c.from_bit-start.result in bits_of-same c.args.bytes.now r.0.now c.args.offset r.1 c.args.len (c.from_bit-start.ensures.same 0)
