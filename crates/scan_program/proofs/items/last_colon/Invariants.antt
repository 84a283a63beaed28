use Rattle.std.proofs.Common.{◌≡◌, ◌≤◌, length, drop}
use Rattle.std.specs.Prelude.{None}
use Rattle.scan_program.specs.Words.{split_field}
use Rattle.scan_program.proofs.items.last_colon.Given as goal

-- no colon stands in the rest
abbrev pub invariant-loop-rest : goal.invariant-loop-rest
invariant-loop-rest l = record { within : l.rest ≤ length l.text; none : split_field (drop l.rest l.text) ≡ None }

abbrev pub decreases-loop-rest : goal.decreases-loop-rest
decreases-loop-rest l = l.rest
