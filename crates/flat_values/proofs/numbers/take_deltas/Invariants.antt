use Rattle.std.specs.Prelude.{IsSome}
use Rattle.parquet_encoding.specs.DeltaLeft.{delta_left, numbers}
use Rattle.flat_values.specs.Outcomes.{stored_outcome}
use Rattle.flat_values.proofs.TakeLemmas.{Turn}
use Rattle.flat_values.proofs.numbers.take_deltas.Given as goal

-- the values so far were added
abbrev pub invariant-loop-left : goal.invariant-loop-left
invariant-loop-left g l = record {
  among : IsSome (delta_left l.place l.bytes);
  turn : Turn g.T.NativeType.cell (λ number. stored_outcome (g.C.Convert.rule l.rule) (g.P.ParquetNativeType.delta number)) l.fn.values.items l.values.items l.count l.left (numbers l.fn.place l.bytes) (numbers l.place l.bytes);
}

abbrev pub decreases-loop-left : goal.decreases-loop-left
decreases-loop-left g l = l.left
