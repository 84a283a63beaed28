use Rattle.parquet_base.proofs.OverlapLemmas.{covers-overlaps}
use Rattle.parquet_base.proofs.laws.overlaps_hold_the_same_rows.Goals as goal

pub returns : goal.returns
returns c = covers-overlaps
