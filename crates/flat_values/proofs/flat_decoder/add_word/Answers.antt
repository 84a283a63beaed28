use Rattle.flat_values.proofs.FlatLemmas.{word-null}
use Rattle.flat_values.proofs.flat_decoder.add_word.Goals as goal

pub returns-in-None-clause-cells : goal.returns-in-None-clause-cells
returns-in-None-clause-cells g c = word-null c.push_nulls.result c.args.word _ _ _ (rw c.in-None.is at c.requires.enough) c.push_nulls.ensures.cells
