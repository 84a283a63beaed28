use Rattle.std.proofs.Common.{arith}
use Rattle.flat_values.proofs.DecodedLemmas.{length-marked}
use Rattle.flat_values.proofs.decoded_numbers.DecodedNumbersDecodedState.len.Goals as goal

pub returns : goal.returns
returns g c = omega (arith, c.len.ensures, length-marked g.T.NativeType.cell c.args.self.now.values.items c.args.self.now.validity)
