use Rattle.std.proofs.Common.{◌≡◌, ◌-◌, ◌∙◌, ap, ap₂, arith, ◌++◌, length}
use Rattle.std.specs.Prelude.{replicate, vec_len}
use Rattle.std.proofs.lemmas.List.{length-replicate, take_all}
use Rattle.std.proofs.lemmas.Result.{on_ok_weaker}
use Rattle.flat_values.specs.Decoded.{marked_cells, with_nulls}
use Rattle.flat_values.proofs.DecodedLemmas.{cells-with_nulls}
use Rattle.flat_values.proofs.decoded_numbers.DecodedNumbers.push_nulls_on.Goals as goal

pub returns-clause-cells : goal.returns-clause-cells
returns-clause-cells g c =
    let cell = g.T.NativeType.cell in
    let old = c.args.self.now.values.items in
    let mask = c.args.self.now.validity in
    let count = c.args.count in
    let more = replicate (c.in-Some.all - vec_len c.args.self.now.values) c.args.number in
    let all = c.in-Some.ensures.1 in
    let held : c.len-held.result ≡ length old = omega (arith, c.len-held.ensures) in
    let long : length more ≡ count = length-replicate (c.in-Some.all - vec_len c.args.self.now.values) c.args.number ∙ omega (arith, all, c.len-held.ensures) in
    let items : c.resize.new.self.items ≡ old ++ more = c.in_ok-resize.ensures.items ∙ ap (λ front. front ++ more) (take_all c.in-Some.all old (omega (arith, all, held))) in
    on_ok_weaker c.mark_nulls.result
    (λ marked. ap₂ (marked_cells cell) items (marked ∙ ap (λ n. with_nulls n count mask) held) ∙ cells-with_nulls cell old more mask count long c.requires.own)
    c.mark_nulls.ensures.ok
