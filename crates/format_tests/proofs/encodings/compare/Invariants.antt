use Rattle.std.specs.Prelude.{IsSome}
use Rattle.parquet_encoding.specs.HybridLeft.{hybrid_left}
use Rattle.format_tests.proofs.encodings.compare.Given as goal

abbrev pub invariant-loop-i : goal.invariant-loop-i
invariant-loop-i g l = IsSome (hybrid_left l.one l.bytes)
