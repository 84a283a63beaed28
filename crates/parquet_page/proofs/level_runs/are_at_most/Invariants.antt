use Rattle.std.proofs.Common.{◌≡◌, length}
use Rattle.std.specs.Prelude.{IsSome, nat_le}
use Rattle.std.specs.List.{list_all}
use Rattle.parquet_encoding.specs.HybridLeft.{hybrid_left, hybrid_values}
use Rattle.parquet_page.proofs.level_runs.are_at_most.Given as goal

abbrev pub invariant-loop-run : goal.invariant-loop-run
invariant-loop-run l = record {
  spelled : IsSome (hybrid_left l.behind l.bytes);
  same : list_all (λ level. nat_le level l.top) (hybrid_values l.initial.behind l.bytes) ≡ list_all (λ level. nat_le level l.top) (hybrid_values l.behind l.bytes);
}

abbrev pub decreases-loop-run : goal.decreases-loop-run
decreases-loop-run l = length (hybrid_values l.behind l.bytes)
