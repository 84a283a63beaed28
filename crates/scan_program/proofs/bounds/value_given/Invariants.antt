use Rattle.std.proofs.Common.{◌≡◌, ◌++◌, drop, map}
use Rattle.std.specs.Prelude.{option_to_list, option_copied}
use Rattle.scan_program.specs.Parsed.{as_written}
use Rattle.scan_program.specs.Words.{values_for}
use Rattle.scan_program.proofs.bounds.value_given.Given as goal

-- the text so far stands in front of those of the ends that are left
abbrev pub invariant-loop-end : goal.invariant-loop-end
invariant-loop-end l =
    values_for l.name l.is_low (map as_written l.ends)
    ≡ option_to_list (option_copied l.found) ++ values_for l.name l.is_low (map as_written (drop l.end-index l.ends))
