use Rattle.std.proofs.Common.{◌∙◌, sym}
use Rattle.columns_core.specs.declared.cell.Cell.{Bytes}
use Rattle.flat_values.proofs.DecodedLemmas.{length-marked}
use Rattle.flat_values.proofs.fixed.DecodedFixedDecodedState.len.Goals as goal

pub returns : goal.returns
returns c = c.len.ensures ∙ sym (length-marked Bytes c.args.self.now.values.items c.args.self.now.validity)
