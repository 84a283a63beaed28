use Rattle.flat_values.proofs.NullLemmas.{first_chunk}
use Rattle.flat_values.proofs.null.first_rows.Goals as goal

pub returns-in-Some-clause-first : goal.returns-in-Some-clause-first
returns-in-Some-clause-first c = first_chunk c.args.chunk_size c.in-Some.size c.args.left c.min.result c.requires.size c.requires.some c.in-Some.is c.min.ensures
