use Rattle.flat_values.proofs.FlatLemmas.{nulls-given}
use Rattle.flat_values.proofs.flat_decoder.add_run.Goals as goal

pub returns-in-Null-clause-cells : goal.returns-in-Null-clause-cells
returns-in-Null-clause-cells g c = nulls-given c.push_nulls.result c.args.run c.in-Null.rows _ _ _ c.in-Null.is c.push_nulls.ensures.cells
