use Rattle.std.proofs.Common.{◌≡◌, ◌-◌, ◌∙◌, ap, ap₂, arith, ◌++◌, length}
use Rattle.std.specs.Prelude.{replicate, vec_len}
use Rattle.std.proofs.lemmas.List.{length-replicate, take_all}
use Rattle.std.proofs.lemmas.Result.{on_ok_weaker}
use Rattle.columns_core.specs.declared.cell.Cell.{Int}
use Rattle.flat_values.specs.Decoded.{marked_cells, with_nulls}
use Rattle.flat_values.proofs.DecodedLemmas.{cells-with_nulls}
use Rattle.dictionary_values.proofs.key_values.KeyValuesValues.push_nulls.Goals as goal

pub returns-clause-cells : goal.returns-clause-cells
returns-clause-cells g c =
    let old = c.args.decoded.now in
    let count = c.args.count in
    let more = replicate (c.in-Some.all - vec_len old.keys) c.default.result in
    let all = c.in-Some.ensures.1 in
    let held : c.len-held.result ≡ length old.keys.items = omega (arith, c.len-held.ensures) in
    let long : length more ≡ count = length-replicate (c.in-Some.all - vec_len old.keys) c.default.result ∙ omega (arith, all, c.len-held.ensures) in
    let items : c.resize.new.self.items ≡ old.keys.items ++ more = c.in_ok-resize.ensures.items ∙ ap (λ front. front ++ more) (take_all c.in-Some.all old.keys.items (omega (arith, all, held))) in
    on_ok_weaker c.mark_nulls.result
    (λ marked. ap₂ (marked_cells (λ key. Int (g.K.DictionaryKey.number key))) items (marked ∙ ap (λ n. with_nulls n count old.validity) held) ∙ cells-with_nulls (λ key. Int (g.K.DictionaryKey.number key)) old.keys.items more old.validity count long c.requires.own)
    c.mark_nulls.ensures.ok
