use Rattle.flat_values.proofs.flat_iter.FlatIterIterator.next.Given as goal

abbrev pub ghosts-next_alone : goal.ghosts-next_alone
ghosts-next_alone g a = record { name = a.blank.name; parts = a.blank.parts }
