use Rattle.std.proofs.Common.{◌≡◌, drop}
use Rattle.std.specs.Prelude.{IsSome}
use Rattle.parquet_encoding.specs.HybridLeft.{hybrid_left, hybrid_values}
use Rattle.parquet_encoding.proofs.hybrid.HybridRle.skip.Given as goal

abbrev pub invariant-loop-left : goal.invariant-loop-left
invariant-loop-left l = record {
  spelled : IsSome (hybrid_left l.self l.bytes);
  aim : drop l.left (hybrid_values l.self l.bytes) ≡ drop l.n (hybrid_values l.fn.self l.bytes);
}

abbrev pub decreases-loop-left : goal.decreases-loop-left
decreases-loop-left l = l.left
