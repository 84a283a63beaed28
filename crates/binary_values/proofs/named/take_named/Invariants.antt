use Rattle.std.proofs.Common.{◌≤◌, false, length}
use Rattle.std.specs.Prelude.{All, IfSome, IsUtf8, sum_by}
use Rattle.std.specs.Option.{option_copied}
use Rattle.columns_core.specs.declared.cell.Cell.{Bytes}
use Rattle.flat_values.specs.KeysLeft.{IsAmongKeys, keys}
use Rattle.flat_values.specs.Outcomes.{entry_outcome}
use Rattle.flat_values.proofs.TakeLemmas.{Turn}
use Rattle.binary_values.specs.ByteStrings.{byte_entries}
use Rattle.binary_values.proofs.named.take_named.Given as goal

-- the entries that the keys so far name were added
abbrev pub invariant-loop-left : goal.invariant-loop-left
invariant-loop-left g l = record {
  among : IsAmongKeys l.bytes l.place;
  turn : Turn Bytes (entry_outcome (byte_entries false (option_copied l.entries))) l.fn.strings l.strings l.count l.left (keys l.fn.place l.bytes) (keys l.place l.bytes);
  fits : sum_by length l.strings ≤ g.O.Offset.greatest;
  texts : All IsUtf8 l.fn.strings → IfSome (option_copied l.entries) (All IsUtf8) → All IsUtf8 l.strings;
}

abbrev pub decreases-loop-left : goal.decreases-loop-left
decreases-loop-left g l = l.left
