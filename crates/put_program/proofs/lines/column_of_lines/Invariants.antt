use Rattle.std.proofs.Common.{length}
use Rattle.put_program.proofs.LineLemmas.{IsFront}
use Rattle.put_program.proofs.lines.column_of_lines.Given as goal

abbrev pub invariant-loop-rest : goal.invariant-loop-rest
invariant-loop-rest l = IsFront l.values.items l.there l.rest l.text

abbrev pub decreases-loop-rest : goal.decreases-loop-rest
decreases-loop-rest l = length l.rest
