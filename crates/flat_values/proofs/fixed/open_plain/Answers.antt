use Rattle.parquet_encoding.specs.PlainLeft.{fixed_left}
use Rattle.flat_values.proofs.FixedPlaceLemmas.{at_places}
use Rattle.flat_values.proofs.fixed.open_plain.Goals as goal

pub returns-in-Ok-clause-values : goal.returns-in-Ok-clause-values
returns-in-Ok-clause-values c = at_places c.args.size c.args.bytes.now c.args.count (fixed_left c.in-Ok.place c.args.bytes.now) c.in-Ok.ensures.exact c.in-Ok.ensures.values
