use Rattle.std.proofs.Common.{take}
use Rattle.inspect_program.specs.Singles.{IsCountOf}
use Rattle.inspect_program.proofs.singles.counts_of.Given as goal

-- the map tells of the columns so far
abbrev pub invariant-loop-column : goal.invariant-loop-column
invariant-loop-column l = IsCountOf (take l.column-index l.columns) l.counts
