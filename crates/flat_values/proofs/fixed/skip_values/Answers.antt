use Rattle.parquet_encoding.specs.PlainLeft.{fixed_left}
use Rattle.flat_values.specs.KeysLeft.{keys}
use Rattle.flat_values.proofs.FixedPlaceLemmas.{keys_rest, plain_rest}
use Rattle.flat_values.proofs.fixed.skip_values.Goals as goal

pub returns-in-Plain-clause-rest : goal.returns-in-Plain-clause-rest
returns-in-Plain-clause-rest c rule entries = plain_rest rule entries c.args.bytes.now c.args.place c.in-Plain.place (fixed_left c.skip.new.self c.args.bytes.now) c.args.count c.in-Plain.is c.skip.ensures.rest

pub returns-in-Keys-clause-rest : goal.returns-in-Keys-clause-rest
returns-in-Keys-clause-rest c rule entries = keys_rest rule entries c.args.bytes.now c.args.place c.in-Keys.place (keys c.skip-in-Keys.new.self c.args.bytes.now) c.args.count c.in-Keys.is c.skip-in-Keys.ensures.rest
