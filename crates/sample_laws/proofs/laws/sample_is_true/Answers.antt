-- What a sample says of its rows, for the sample that the bytes are.
use Rattle.std.proofs.Common.{arith}
use Rattle.sample_laws.proofs.SampleLaws.{sample_is_true_of}
use Rattle.sample_laws.proofs.laws.sample_is_true.Goals as goal

pub returns : goal.returns
returns c = rw c.requires.bytes (sample_is_true_of c.args._rows c.args._seed c.requires.few (omega arith) c.args._field.now)
