use Rattle.column_ends.proofs.EndTypes.{group_ends_have_type}
use Rattle.column_ends.proofs.laws.group_ends_have_their_type.Goals as goal

pub returns : goal.returns
returns c = group_ends_have_type
