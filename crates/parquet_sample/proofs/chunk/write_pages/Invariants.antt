use Rattle.std.proofs.Common.{◌-◌}
use Rattle.parquet_sample.specs.Writing.{items_from, written_of}
use Rattle.parquet_sample.proofs.chunk.write_pages.Given as goal
use Rattle.parquet_write.proofs.PagingLemmas.{IsPaging}

abbrev pub invariant-loop-row : goal.invariant-loop-row
invariant-loop-row l = IsPaging (written_of l.column) (items_from l.column l.first l.rows) l.initial.out.items l.out.items l.pages.items l.row

abbrev pub decreases-loop-row : goal.decreases-loop-row
decreases-loop-row l = l.rows - l.row
