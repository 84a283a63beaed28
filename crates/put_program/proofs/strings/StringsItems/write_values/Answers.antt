use Rattle.std.proofs.lemmas.List.{length-map}
use Rattle.std.proofs.Common.{◌<◌, length, option_map, ◌≡◌, ℕ, List, Option, Some, ◌++◌, ap, arith, ◌∙◌}
use Rattle.std.specs.Prelude.{option_copied}
use Rattle.std.specs.List.{flat_map}
use Rattle.parquet_page.specs.Stored.{Octets, Stored}
use Rattle.parquet_plain.specs.Bodies.{octets_of, values_bytes, with_length}
use Rattle.put_program.proofs.LoopLemmas.{rows_stored, written_none, written_some}
use Rattle.put_program.proofs.strings.StringsItems.write_values.Goals as goal
use Rattle.put_program.proofs.strings.StringsItems.write_values.Goals.{in-Some+in_ok-write_string, in_default}

pub loop-row-preserved : goal.loop-row-preserved
loop-row-preserved g c =
    let f : Stored → List ℕ = (λ (value : Stored). with_length (octets_of value)) in
    let items : List (Option (List ℕ)) = c.args.self.now.array.now.items in
    let within : c.loop-row.row < length items = omega (arith, length-map items (option_map Octets)) in
    elim c.match-get.branch [
      | in-Some+in_ok-write_string w ↦ written_some f Octets items c.args.body.now.items c.loop-row.body.items c.match-get.body.items c.args.from c.loop-row.row w.in-Some.bytes.now (omega arith) within
          (c.get.ensures ∙ ap (λ r. Some (option_copied r)) w.in-Some.is) (ap (λ b. b.items) w.body-is ∙ w.in_ok-write_string.ensures) c.loop-row.invariant
      | in_default w ↦ written_none f Octets items c.args.body.now.items c.loop-row.body.items c.match-get.body.items c.args.from c.loop-row.row (omega arith) within
          (c.get.ensures ∙ ap (λ r. Some (option_copied r)) w.in_default.is) (ap (λ b. b.items) w.body-is) c.loop-row.invariant
    ]

pub returns : goal.returns
unfolding values_bytes
returns g c =
    let end : c.loop-row.row ≡ c.args.to = omega (arith, c.loop-row.auto.row) in
    c.loop-row.invariant.is ∙ ap (λ (row : ℕ). c.args.body.now.items ++ flat_map (λ (value : Stored). with_length (octets_of value)) (rows_stored Octets c.args.self.now.array.now.items c.args.from row)) end
