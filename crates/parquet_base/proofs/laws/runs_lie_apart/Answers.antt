use Rattle.parquet_base.proofs.SegmentLemmas.{runs_apart}
use Rattle.parquet_base.proofs.laws.runs_lie_apart.Goals as goal

pub returns : goal.returns
returns c = runs_apart
