use Rattle.std.proofs.Common.{◌≡◌, ◌-◌, ◌≤◌, ◌++◌}
use Rattle.std.specs.Prelude.{IsSome, replicate}
use Rattle.parquet_encoding.specs.HybridLeft.{hybrid_left, hybrid_values}
use Rattle.parquet_page.proofs.level_runs.skip_same.Given as goal

abbrev pub invariant-loop-count : goal.invariant-loop-count
invariant-loop-count l = record {
  spelled : IsSome (hybrid_left l.levels l.bytes);
  same : hybrid_values l.fn.levels l.bytes ≡ replicate l.count l.first.level ++ hybrid_values l.levels l.bytes;
  most : l.count ≤ l.limit;
  some : l.first.count ≤ l.count;
}

abbrev pub decreases-loop-count : goal.decreases-loop-count
decreases-loop-count l = l.limit - l.count
