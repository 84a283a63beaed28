use Rattle.std.proofs.Common.{take}
use Rattle.put_program.specs.Typed.{put_groups}
use Rattle.put_program.proofs.GroupLemmas.{GrowsGroups}
use Rattle.put_program.proofs.group.add_groups.Given as goal

abbrev pub invariant-loop-i : goal.invariant-loop-i
invariant-loop-i l = GrowsGroups l.initial.parts l.parts l.groups.items (put_groups l.page_rows l.fields (take l.i l.chunks))
