use Rattle.std.proofs.Common.{◌≡◌}
use Rattle.parquet_base.specs.Reading.{after}
use Rattle.parquet_encoding.specs.DeltaWalk.{IsWithin, deltas_behind}
use Rattle.parquet_encoding.proofs.delta_walk.DeltaWalk.end.Given as goal

abbrev pub invariant-loop-walk : goal.invariant-loop-walk
invariant-loop-walk l = record {
  within : IsWithin l.bytes l.walk;
  same : after (deltas_behind l.walk l.bytes) ≡ after (deltas_behind l.self l.bytes);
}

abbrev pub decreases-loop-walk : goal.decreases-loop-walk
decreases-loop-walk l = l.walk.behind
