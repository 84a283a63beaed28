use Rattle.std.proofs.Common.{◌≡◌, take}
use Rattle.flat_builders.proofs.marked.bits_of.Given as goal

abbrev pub invariant-loop-truth : goal.invariant-loop-truth
invariant-loop-truth l = l.bits ≡ take l.truth-index l.truths.items
