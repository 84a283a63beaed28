use Rattle.std.proofs.Common.{Ok, take}
use Rattle.std.specs.List.{enumerate_from}
use Rattle.inspect_program.specs.Calls.{Tells}
use Rattle.inspect_program.specs.Sections.{groups_section}
use Rattle.inspect_program.proofs.groups.push_groups.Given as goal

-- the groups so far are told of
abbrev pub invariant-loop-i : goal.invariant-loop-i
invariant-loop-i g l =
    Tells {T = Unit {0}} g.S.Source l.initial.source l.source (groups_section l.singles (take l.i (enumerate_from 0 l.groups))) l.initial.text l.text (Ok tt)
