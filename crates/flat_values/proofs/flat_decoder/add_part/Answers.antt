use Rattle.std.proofs.Common.{arith, None}
use Rattle.parquet_page.specs.ValidityParts.{word_places}
use Rattle.page_decoding.proofs.FilteredLemmas.{stored-plan}
use Rattle.flat_values.proofs.flat_decoder.add_part.Goals as goal

pub add_word-requires-clause-enough : goal.add_word-requires-clause-enough
add_word-requires-clause-enough g c = let own = rw c.in-Word.is at c.requires.enough in omega (arith, own, stored-plan None 0 (word_places c.in-Word.word))
