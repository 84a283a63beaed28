use Rattle.std.proofs.Common.{◌∙◌, sym}
use Rattle.flat_values.proofs.KeyLemmas.{some_greater}
use Rattle.flat_values.proofs.keys.some_key_is_past.Goals as goal

pub returns-then-not-is_empty : goal.returns-then-not-is_empty
returns-then-not-is_empty c = c.greatest.ensures c.args.entries ∙ some_greater c.args.entries c.args.keys.now (sym c.is_empty.ensures ∙ c.if-not-is_empty.true)
