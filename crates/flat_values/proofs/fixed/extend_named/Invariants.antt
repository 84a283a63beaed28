use Rattle.std.proofs.Common.{◌≡◌, map, take}
use Rattle.std.specs.Option.{option_copied}
use Rattle.columns_core.specs.declared.cell.Cell.{Bytes}
use Rattle.flat_values.specs.Added.{Adds}
use Rattle.flat_values.specs.FixedLeft.{entry_cells}
use Rattle.flat_values.specs.Outcomes.{entry_outcome}
use Rattle.flat_values.proofs.fixed.extend_named.Given as goal

-- the entries that the keys so far name stand behind the items that were there
abbrev pub invariant-loop-key : goal.invariant-loop-key
invariant-loop-key l = record {
  size : l.items.size ≡ l.fn.items.size;
  added : Adds Bytes l.fn.items.items l.items.items (map (entry_outcome (entry_cells (option_copied l.entries))) (take l.key-index l.keys));
}
