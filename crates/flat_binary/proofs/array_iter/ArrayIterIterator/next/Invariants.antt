use Rattle.flat_binary.proofs.array_iter.ArrayIterIterator.next.Given as goal

abbrev pub ghosts-next_alone : goal.ghosts-next_alone
ghosts-next_alone g a = record { name = a.blank.name; parts = a.blank.parts }
