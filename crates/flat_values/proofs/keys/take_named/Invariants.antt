use Rattle.std.proofs.Common.{map, Some}
use Rattle.flat_values.specs.KeysLeft.{IsAmongKeys, keys}
use Rattle.flat_values.specs.Outcomes.{entry_outcome}
use Rattle.flat_values.proofs.TakeLemmas.{Turn}
use Rattle.flat_values.proofs.keys.take_named.Given as goal

-- the entries that the keys so far name were added
abbrev pub invariant-loop-left : goal.invariant-loop-left
invariant-loop-left g l = record {
  among : IsAmongKeys l.bytes l.place;
  turn : Turn g.T.NativeType.cell (entry_outcome (Some (map g.T.NativeType.cell l.entries))) l.fn.values.items l.values.items l.count l.left (keys l.fn.place l.bytes) (keys l.place l.bytes);
}

abbrev pub decreases-loop-left : goal.decreases-loop-left
decreases-loop-left g l = l.left
