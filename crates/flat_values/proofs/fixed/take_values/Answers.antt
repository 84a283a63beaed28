use Rattle.std.proofs.Common.{ap}
use Rattle.std.specs.Option.{option_copied}
use Rattle.parquet_encoding.specs.PlainLeft.{fixed_left}
use Rattle.flat_values.specs.Conversion.{Keep}
use Rattle.flat_values.specs.FixedLeft.{entry_cells}
use Rattle.flat_values.specs.KeysLeft.{keys}
use Rattle.flat_values.proofs.FixedPlaceLemmas.{keys_rest, plain_added, plain_rest}
use Rattle.flat_values.proofs.fixed.take_values.Goals as goal

pub returns-in_ok-take_plain-in-Plain-clause-added : goal.returns-in_ok-take_plain-in-Plain-clause-added
returns-in_ok-take_plain-in-Plain-clause-added c =
    plain_added (entry_cells (option_copied c.args.dict)) c.args.bytes.now c.args.place c.in-Plain.place c.args.items.now.items c.take_plain.new.items.items c.args.count c.in-Plain.is
    (ap (λ v. v.items) c.in_ok-take_plain-in-Plain.ensures.added)

pub returns-in_ok-take_plain-in-Plain-clause-rest : goal.returns-in_ok-take_plain-in-Plain-clause-rest
returns-in_ok-take_plain-in-Plain-clause-rest c =
    plain_rest Keep (entry_cells (option_copied c.args.dict)) c.args.bytes.now c.args.place c.in-Plain.place (fixed_left c.in_ok-take_plain-in-Plain.field-0 c.args.bytes.now) c.args.count c.in-Plain.is c.in_ok-take_plain-in-Plain.ensures.rest

pub returns-in_ok-take_named-in-Keys-clause-rest : goal.returns-in_ok-take_named-in-Keys-clause-rest
returns-in_ok-take_named-in-Keys-clause-rest c =
    keys_rest Keep (entry_cells (option_copied c.args.dict)) c.args.bytes.now c.args.place c.in-Keys.place (keys c.in_ok-take_named-in-Keys.field-0 c.args.bytes.now) c.args.count c.in-Keys.is c.in_ok-take_named-in-Keys.ensures.rest
