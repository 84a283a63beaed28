use Rattle.std.proofs.Common.{◌≡◌, ◌-◌, length}
use Rattle.parquet_encoding.specs.HybridLeft.{hybrid_left}
use Rattle.parquet_encoding.proofs.hybrid.HybridRle.open.Given as goal

abbrev pub invariant-loop-self : goal.invariant-loop-self
invariant-loop-self l = hybrid_left l.self l.bytes ≡ hybrid_left l.fn.self l.bytes

abbrev pub decreases-loop-self : goal.decreases-loop-self
decreases-loop-self l = length l.bytes - l.self.next
