use Rattle.std.proofs.Common.{◌≡◌, ◌<◌, ℕ, drop}
use Rattle.std.specs.Prelude.{None}
use Rattle.scan_program.specs.Words.{end_sign}
use Rattle.scan_program.proofs.items.first_sign.Given as goal

-- no sign stands before
abbrev pub invariant-loop-at : goal.invariant-loop-at
invariant-loop-at l = (k : ℕ) → k < l.at → end_sign (drop k l.text) ≡ None
