use Rattle.std.proofs.Common.{◌-◌, ◌∙◌, arith, sym}
use Rattle.std.specs.Prelude.{vec_len}
use Rattle.columns_core.proofs.BitLemmas.{length-low_bits}
use Rattle.parquet_page.specs.ValidityParts.{word_places}
use Rattle.flat_values.proofs.SpreadLemmas.{spread-behind}
use Rattle.flat_values.proofs.spread.spread_numbers.Goals as goal

pub returns : goal.returns
returns g c =
    let word = c.args.word in
    let rows = length-low_bits word.bits word.rows in
    let all = c.in-Some.ensures.1 in
    spread-behind c.args.null (word_places word) c.args.held c.in-Some.all (c.in-Some.all - vec_len c.args.values.now) c.resize.new.self.len c.args.values.now.items c.deref_mut.result.now c.spread_rows.new.numbers _ _ c.requires
    (omega (arith, all, rows)) (omega (arith, c.args.values.now.ok.0)) (c.deref_mut.ensures.value ∙ c.in_ok-resize.ensures.items) (sym c.deref_mut.ensures.len) c.spread_rows.ensures
