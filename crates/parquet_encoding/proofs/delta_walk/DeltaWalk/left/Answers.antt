use Rattle.parquet_encoding.specs.DeltaWalk.{deltas_behind, deltas_left}
use Rattle.parquet_encoding.proofs.DeltaWalkLemmas.{length-left}
use Rattle.parquet_encoding.proofs.delta_walk.DeltaWalk.left.Goals as goal

pub returns-clause-length : goal.returns-clause-length
unfolding deltas_left deltas_behind
returns-clause-length c bytes = let s = c.args.self.now in length-left s.run s.size s.parts s.run.least s.behind s.widths s.parts_left s.next bytes
