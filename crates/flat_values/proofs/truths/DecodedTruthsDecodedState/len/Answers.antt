use Rattle.std.proofs.Common.{◌∙◌, sym}
use Rattle.columns_core.specs.declared.cell.Cell.{Bool as TruthCell}
use Rattle.flat_values.proofs.DecodedLemmas.{length-marked}
use Rattle.flat_values.proofs.truths.DecodedTruthsDecodedState.len.Goals as goal

pub returns : goal.returns
returns c = c.len.ensures ∙ sym (length-marked TruthCell c.args.self.now.values c.args.self.now.validity)
