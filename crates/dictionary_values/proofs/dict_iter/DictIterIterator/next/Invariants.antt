use Rattle.dictionary_values.proofs.dict_iter.DictIterIterator.next.Given as goal

abbrev pub ghosts-next_alone : goal.ghosts-next_alone
ghosts-next_alone g a = record { name = a.blank.name; parts = a.blank.parts }
