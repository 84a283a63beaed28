use Rattle.flat_values.proofs.AgreementLemmas.{places_give_items}
use Rattle.flat_values.proofs.laws.places_give_items.Goals as goal

pub returns : goal.returns
returns c = places_give_items
