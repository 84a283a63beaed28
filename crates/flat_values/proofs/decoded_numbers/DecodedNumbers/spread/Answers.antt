use Rattle.std.proofs.Common.{◌≤◌, arith, drop, length, sym, take}
use Rattle.std.proofs.lemmas.List.{length-drop, length-take-le}
use Rattle.std.proofs.lemmas.Result.{on_ok_weaker}
use Rattle.parquet_page.specs.Levels.{present_count}
use Rattle.parquet_page.specs.ValidityParts.{word_places}
use Rattle.flat_values.proofs.DecodedLemmas.{cells-with_places, mask-with_places}
use Rattle.flat_values.proofs.decoded_numbers.DecodedNumbers.spread.Goals as goal

pub returns-clause-cells : goal.returns-clause-cells
returns-clause-cells g c =
    let old = c.args.self.now.values.items in
    let held = c.args.held in
    let places = word_places c.args.word in
    let enough : present_count places ≤ length (drop held old) = omega (arith, c.requires.many, length-drop held old) in
    on_ok_weaker c.mark_rows.result
    (λ marked. cells-with_places g.T.NativeType.cell c.default.result (take held old) (drop held old) c.spread_numbers.new.values.items c.args.self.now.validity places c.mark_rows.new.validity held
    (sym (length-take-le held old (omega (arith, c.requires.many)))) enough c.requires.own c.in_ok-spread_numbers.ensures marked)
    c.mark_rows.ensures.ok

pub returns-clause-own : goal.returns-clause-own
returns-clause-own g c =
    let old = c.args.self.now.values.items in
    let held = c.args.held in
    on_ok_weaker c.mark_rows.result
    (λ marked. mask-with_places c.default.result (take held old) (drop held old) c.spread_numbers.new.values.items c.args.self.now.validity (word_places c.args.word) c.mark_rows.new.validity held
    (sym (length-take-le held old (omega (arith, c.requires.many)))) c.requires.own c.in_ok-spread_numbers.ensures marked)
    c.mark_rows.ensures.ok
