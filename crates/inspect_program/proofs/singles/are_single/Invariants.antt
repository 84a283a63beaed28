use Rattle.std.proofs.Common.{◌≡◌, map, take}
use Rattle.inspect_program.specs.Guess.{is_single}
use Rattle.inspect_program.specs.Singles.{IsCountOf}
use Rattle.inspect_program.proofs.singles.are_single.Given as goal

-- the columns so far
abbrev pub invariant-loop-column : goal.invariant-loop-column
invariant-loop-column l = (l.singles.items ≡ map (is_single l.columns) (take l.column-index l.columns)) × IsCountOf l.columns l.counts
