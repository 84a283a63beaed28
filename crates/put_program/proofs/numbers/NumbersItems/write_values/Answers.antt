use Rattle.std.proofs.lemmas.List.{length-map}
use Rattle.std.proofs.Common.{◌<◌, length, option_map, ap, arith, ◌∙◌}
use Rattle.std.specs.Prelude.{Some}
use Rattle.parquet_plain.specs.Columns.{end_bytes}
use Rattle.put_program.proofs.LoopLemmas.{written_none, written_some}
use Rattle.put_program.proofs.numbers.NumbersItems.write_values.Goals as goal
use Rattle.put_program.proofs.numbers.NumbersItems.write_values.Goals.{in-Some+in_ok-write, in_default}

pub loop-row-preserved : goal.loop-row-preserved
loop-row-preserved g c =
    let f = end_bytes g.T.StoredNumber.type_ in
    let stored = g.T.StoredNumber.stored in
    let items = c.args.self.now.array.now.items in
    let within : c.loop-row.row < length items = omega (arith, length-map items (option_map stored)) in
    elim c.match-get.branch [
      | in-Some+in_ok-write w ↦ written_some f stored items c.args.body.now.items c.loop-row.body.items c.match-get.body.items c.args.from c.loop-row.row w.in-Some.number (omega arith) within
          (c.get.ensures ∙ ap Some w.in-Some.is) (ap (λ b. b.items) w.body-is ∙ w.in_ok-write.ensures) c.loop-row.invariant
      | in_default w ↦ written_none f stored items c.args.body.now.items c.loop-row.body.items c.match-get.body.items c.args.from c.loop-row.row (omega arith) within
          (c.get.ensures ∙ ap Some w.in_default.is) (ap (λ b. b.items) w.body-is) c.loop-row.invariant
    ]
