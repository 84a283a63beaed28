use Rattle.flat_values.proofs.PageLemmas.{page_has_type}
use Rattle.flat_values.proofs.laws.pages_have_their_type.Goals as goal

pub returns : goal.returns
returns c = page_has_type
