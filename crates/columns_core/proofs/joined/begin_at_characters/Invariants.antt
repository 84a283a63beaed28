use Rattle.std.proofs.Common.{ℕ, ◌<◌, get_or}
use Rattle.std.specs.Str.{IsCharBoundary}
use Rattle.columns_core.proofs.joined.begin_at_characters.Given as goal

abbrev pub invariant-loop-i : goal.invariant-loop-i
invariant-loop-i g l = (k : ℕ) → k < l.i → IsCharBoundary l.text (get_or l.offsets k 0)
