use Rattle.column_ends.proofs.EndTypes.{page_ends_have_type}
use Rattle.column_ends.proofs.laws.page_ends_have_their_type.Goals as goal

pub returns : goal.returns
returns c = page_ends_have_type
