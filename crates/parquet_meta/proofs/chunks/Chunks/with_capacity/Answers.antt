use Rattle.std.proofs.Common.{ap₂}
use Rattle.parquet_meta.specs.Unplaced.{chunks_in}
use Rattle.parquet_meta.proofs.chunks.Chunks.with_capacity.Goals as goal

pub returns-clause-empty : goal.returns-clause-empty
unfolding chunks_in
returns-clause-empty c = ap₂ chunks_in c.in_ok-columns.ensures.items c.in_ok-types.ensures.items
