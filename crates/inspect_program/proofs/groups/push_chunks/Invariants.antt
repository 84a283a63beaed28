use Rattle.std.proofs.Common.{Ok}
use Rattle.inspect_program.specs.Calls.{Tells}
use Rattle.inspect_program.specs.Sections.{chunks_section}
use Rattle.inspect_program.proofs.GroupLemmas.{front_chunks}
use Rattle.inspect_program.proofs.groups.push_chunks.Given as goal

-- the chunks so far are told of
abbrev pub invariant-loop-i : goal.invariant-loop-i
invariant-loop-i g l =
    Tells {T = Unit {0}} g.S.Source l.initial.source l.source (chunks_section l.rows (front_chunks l.singles l.columns l.i)) l.initial.text l.text (Ok tt)
