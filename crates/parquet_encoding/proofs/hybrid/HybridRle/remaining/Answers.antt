use Rattle.parquet_encoding.specs.HybridLeft.{hybrid_left}
use Rattle.parquet_encoding.proofs.HybridLeftLemmas.{length-left}
use Rattle.parquet_encoding.proofs.hybrid.HybridRle.remaining.Goals as goal

pub returns : goal.returns
unfolding hybrid_left
returns c bytes =
    let s = c.args.self.now in
    rw c.len.ensures (length-left s.run s.width bytes s.behind s.next)
