use Rattle.flat_values.proofs.ConversionLemmas.{converts_to_type}
use Rattle.flat_values.proofs.laws.items_are_of_the_type.Goals as goal

pub returns : goal.returns
returns c = converts_to_type
