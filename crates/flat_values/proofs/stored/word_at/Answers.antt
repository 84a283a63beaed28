use Rattle.std.proofs.Common.{◌∙◌}
use Rattle.flat_values.proofs.NumberLemmas.{four}
use Rattle.flat_values.proofs.stored.word_at.Goals as goal

pub returns : goal.returns
returns c = c.from_le_bytes.ensures ∙ four c.args.bytes.now c.args.place
