use Rattle.std.proofs.Common.{◌∙◌, sym}
use Rattle.flat_values.proofs.DecodedLemmas.{length-marked}
use Rattle.binary_values.specs.ByteStrings.{byte_cell}
use Rattle.binary_values.proofs.byte_values.DecodedBytesDecodedState.len.Goals as goal

pub returns : goal.returns
returns g c = c.len.ensures ∙ sym (length-marked (byte_cell c.args.self.now.is_text) c.args.self.now.strings c.args.self.now.validity)
