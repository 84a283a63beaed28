use Rattle.parquet_base.proofs.SegmentLemmas.{covers-maximal_runs}
use Rattle.parquet_base.proofs.laws.runs_hold_rows.Goals as goal

pub returns : goal.returns
returns c = covers-maximal_runs
