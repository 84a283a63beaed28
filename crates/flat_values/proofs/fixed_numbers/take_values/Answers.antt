use Rattle.std.proofs.Common.{List, Some, map, subst}
use Rattle.parquet_encoding.specs.PlainLeft.{fixed_left}
use Rattle.page_decoding.specs.Outcome.{Outcome}
use Rattle.flat_values.specs.Added.{Adds}
use Rattle.flat_values.specs.KeysLeft.{keys}
use Rattle.flat_values.proofs.FixedPlaceLemmas.{keys_rest, plain_rest, plain_taken}
use Rattle.flat_values.proofs.fixed_numbers.take_values.Goals as goal

pub returns-in_ok-behind-in-Plain-clause-added : goal.returns-in_ok-behind-in-Plain-clause-added
returns-in_ok-behind-in-Plain-clause-added g c =
    let P : List Outcome → Type 0 = λ outcomes. Adds g.T.NativeType.cell c.args.values.now.items c.take_plain.new.values.items outcomes in
    subst P (plain_taken (g.C.ConvertFixed.rule c.args.rule) (Some (map g.T.NativeType.cell c.args.entries.now)) c.args.bytes.now c.args.place c.in-Plain.place c.args.count c.in-Plain.is) c.in_ok-behind-in-Plain.ensures.added

pub returns-in_ok-behind-in-Plain-clause-rest : goal.returns-in_ok-behind-in-Plain-clause-rest
returns-in_ok-behind-in-Plain-clause-rest g c =
    plain_rest (g.C.ConvertFixed.rule c.args.rule) (Some (map g.T.NativeType.cell c.args.entries.now)) c.args.bytes.now c.args.place c.in-Plain.place (fixed_left c.in_ok-behind-in-Plain.behind c.args.bytes.now) c.args.count c.in-Plain.is c.in_ok-behind-in-Plain.ensures.rest

pub returns-in_ok-behind-in-Keys-clause-rest : goal.returns-in_ok-behind-in-Keys-clause-rest
returns-in_ok-behind-in-Keys-clause-rest g c =
    keys_rest (g.C.ConvertFixed.rule c.args.rule) (Some (map g.T.NativeType.cell c.args.entries.now)) c.args.bytes.now c.args.place c.in-Keys.place (keys c.in_ok-behind-in-Keys.behind c.args.bytes.now) c.args.count c.in-Keys.is c.in_ok-behind-in-Keys.ensures.rest
