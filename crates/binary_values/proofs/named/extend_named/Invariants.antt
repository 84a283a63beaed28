use Rattle.std.proofs.Common.{◌≤◌, false, length, map, take}
use Rattle.std.specs.Prelude.{All, IfSome, IsUtf8, sum_by}
use Rattle.std.specs.Option.{option_copied}
use Rattle.columns_core.specs.declared.cell.Cell.{Bytes}
use Rattle.flat_values.specs.Added.{Adds}
use Rattle.flat_values.specs.Outcomes.{entry_outcome}
use Rattle.binary_values.specs.ByteStrings.{byte_entries}
use Rattle.binary_values.proofs.named.extend_named.Given as goal

-- the entries that the keys so far name stand behind the strings that were there
abbrev pub invariant-loop-key : goal.invariant-loop-key
invariant-loop-key g l = record {
  added : Adds Bytes l.fn.strings l.strings (map (entry_outcome (byte_entries false (option_copied l.entries))) (take l.key-index l.keys));
  fits : sum_by length l.strings ≤ g.O.Offset.greatest;
  texts : All IsUtf8 l.fn.strings → IfSome (option_copied l.entries) (All IsUtf8) → All IsUtf8 l.strings;
}
