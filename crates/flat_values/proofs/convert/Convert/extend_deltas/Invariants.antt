use Rattle.std.proofs.Common.{map, take}
use Rattle.flat_values.specs.Added.{Adds}
use Rattle.flat_values.specs.Outcomes.{stored_outcome}
use Rattle.flat_values.proofs.convert.Convert.extend_deltas.Given as goal

-- what is converted so far stands behind the values that were there
abbrev pub invariant-loop-number : goal.invariant-loop-number
invariant-loop-number g l = Adds g.T.NativeType.cell l.fn.values.items l.values.items (map (λ number. stored_outcome (g.Self.Convert.rule l.self) (g.P.ParquetNativeType.delta number)) (take l.number-index l.numbers))
