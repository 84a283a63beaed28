use Rattle.std.proofs.Common.{◌≡◌, length}
use Rattle.put_program.proofs.GroupLemmas.{Grows, front}
use Rattle.put_program.proofs.group.add_group.Given as goal

abbrev pub invariant-loop-i : goal.invariant-loop-i
invariant-loop-i l = (length l.arrays ≡ length l.fields) × Grows l.initial.parts l.parts l.chunks.items (front l.page_rows l.fields l.arrays l.i)
