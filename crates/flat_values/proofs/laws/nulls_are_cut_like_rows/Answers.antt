use Rattle.flat_values.proofs.NullLemmas.{cuts_rows}
use Rattle.flat_values.proofs.laws.nulls_are_cut_like_rows.Goals as goal

pub returns : goal.returns
returns g c = cuts_rows
