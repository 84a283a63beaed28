use Rattle.dictionary_values.proofs.IterLemmas.{any-pages}
use Rattle.dictionary_values.proofs.dict_iter.DictIter.of_reader.Goals as goal

pub new-requires : goal.new-requires
new-requires g c = record { takes = any-pages (g.I.Pages.to_come c.args.pages) }
