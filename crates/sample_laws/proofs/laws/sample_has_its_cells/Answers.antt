-- The cells of a sample, for the sample that the bytes are.
use Rattle.std.proofs.Common.{arith}
use Rattle.sample_laws.proofs.SampleCells.{sample_has_cells}
use Rattle.sample_laws.proofs.laws.sample_has_its_cells.Goals as goal

pub returns : goal.returns
returns c = rw c.requires.bytes (sample_has_cells c.args._rows c.args._seed c.requires.few (omega arith) c.args._field.now)
