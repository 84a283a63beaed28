use Rattle.flat_values.proofs.EndLemmas.{ends_are_stored}
use Rattle.flat_values.proofs.laws.ends_are_stored_values.Goals as goal

pub returns : goal.returns
returns c = ends_are_stored
