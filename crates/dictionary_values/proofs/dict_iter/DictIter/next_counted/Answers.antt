use Rattle.dictionary_values.proofs.dict_iter.DictIter.next_counted.Goals as goal

pub returns-clause-given : goal.returns-clause-given
returns-clause-given g c = rw (← c.self.view_is) c.read_array.ensures.given
