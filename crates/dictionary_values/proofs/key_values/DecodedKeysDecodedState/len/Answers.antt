use Rattle.std.proofs.Common.{arith}
use Rattle.columns_core.specs.declared.cell.Cell.{Int}
use Rattle.flat_values.proofs.DecodedLemmas.{length-marked}
use Rattle.dictionary_values.proofs.key_values.DecodedKeysDecodedState.len.Goals as goal

pub returns : goal.returns
returns g c = omega (arith, c.len.ensures, length-marked (λ key. Int (g.K.DictionaryKey.number key)) c.args.self.now.keys.items c.args.self.now.validity)
