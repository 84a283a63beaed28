use Rattle.std.specs.List.{slice_range}
use Rattle.parquet_write.specs.Items.{FindsBounds}
use Rattle.parquet_write.proofs.bounds.bounds_of.Given as goal

abbrev pub invariant-loop-row : goal.invariant-loop-row
invariant-loop-row g l = FindsBounds (g.I.Items.at_most l.items) (g.I.Items.items l.items) (slice_range (g.I.Items.items l.items) l.from l.row) l.found
