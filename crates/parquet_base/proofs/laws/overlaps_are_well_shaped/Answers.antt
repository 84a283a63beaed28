use Rattle.parquet_base.proofs.OverlapLemmas.{overlaps-shaped}
use Rattle.parquet_base.proofs.laws.overlaps_are_well_shaped.Goals as goal

pub returns : goal.returns
returns c = overlaps-shaped
