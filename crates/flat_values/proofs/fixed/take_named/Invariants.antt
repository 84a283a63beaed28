use Rattle.std.proofs.Common.{◌≡◌}
use Rattle.std.specs.Option.{option_copied}
use Rattle.columns_core.specs.declared.cell.Cell.{Bytes}
use Rattle.flat_values.specs.FixedLeft.{entry_cells}
use Rattle.flat_values.specs.KeysLeft.{IsAmongKeys, keys}
use Rattle.flat_values.specs.Outcomes.{entry_outcome}
use Rattle.flat_values.proofs.TakeLemmas.{Turn}
use Rattle.flat_values.proofs.fixed.take_named.Given as goal

-- the entries that the keys so far name were added
abbrev pub invariant-loop-left : goal.invariant-loop-left
invariant-loop-left l = record {
  among : IsAmongKeys l.bytes l.place;
  size : l.items.size ≡ l.fn.items.size;
  turn : Turn Bytes (entry_outcome (entry_cells (option_copied l.entries))) l.fn.items.items l.items.items l.count l.left (keys l.fn.place l.bytes) (keys l.place l.bytes);
}

abbrev pub decreases-loop-left : goal.decreases-loop-left
decreases-loop-left l = l.left
