use Rattle.std.proofs.Common.{ℕ, ◌+◌, ◌<◌, get_or}
use Rattle.std.specs.Str.{IsCharBoundary}
use Rattle.binary_values.specs.Rebased.{rebased}
use Rattle.binary_values.proofs.strings.begin_at_characters.Given as goal

abbrev pub invariant-loop-i : goal.invariant-loop-i
invariant-loop-i g l = (k : ℕ) → l.from + k < l.i → IsCharBoundary l.text (get_or (rebased l.from l.offsets) k 0)
