use Rattle.std.proofs.Common.{◌∙◌, ◌-◌, ◌++◌, ap, ap₂, map, rules, take, None}
use Rattle.std.specs.Option.{option_copied}
use Rattle.std.proofs.lemmas.Result.{on_ok_weaker}
use Rattle.columns_core.specs.declared.cell.Cell.{Bytes}
use Rattle.page_decoding.proofs.BytesLemmas.{chunks-right}
use Rattle.page_decoding.specs.Bytes.{IsCausedByChunks}
use Rattle.page_decoding.specs.Outcome.{Given}
use Rattle.flat_values.specs.Conversion.{Keep}
use Rattle.flat_values.specs.Decoded.{marked_cells, with_values}
use Rattle.flat_values.specs.FixedLeft.{entry_cells, fixed_outcomes}
use Rattle.flat_values.proofs.CauseLemmas.{memory-told}
use Rattle.flat_values.proofs.DecodedLemmas.{given-with_added}
use Rattle.flat_values.proofs.fixed.FixedValuesValues.take.Goals as goal

pub returns-clause-cells : goal.returns-clause-cells
returns-clause-cells c =
    let old = c.args.decoded.now in
    on_ok_weaker c.mark_values.result
    (λ marked. given-with_added Bytes old.values.items c.take_values.new.items.items old.validity c.mark_values.new.validity (take c.args.count (fixed_outcomes Keep (entry_cells (option_copied c.args.dict)) c.args.bytes.now c.args.place.now))
    c.requires.own.1 c.in_ok-place.ensures.added (marked ∙ ap (λ n. with_values n old.validity) (ap₂ (λ m n. m - n) c.len.ensures c.len-held.ensures)))
    c.mark_values.ensures.ok

pub returns-in_err-place-clause-cause : goal.returns-in_err-place-clause-cause
returns-in_err-place-clause-cause c =
    let held = map Given (marked_cells Bytes c.args.decoded.now.values.items c.args.decoded.now.validity) in
    let outcomes = take c.args.count (fixed_outcomes Keep (entry_cells (option_copied c.args.dict)) c.args.bytes.now c.args.place.now) in
    let error = c.in_err-place.field-0.0 in
    let cause : IsCausedByChunks None None (held ++ outcomes) error = chunks-right None None held outcomes error c.in_err-place.ensures.cause in
    search rules

pub returns-clause-cause : goal.returns-clause-cause
returns-clause-cause c =
    let held = map Given (marked_cells Bytes c.args.decoded.now.values.items c.args.decoded.now.validity) in
    let outcomes = take c.args.count (fixed_outcomes Keep (entry_cells (option_copied c.args.dict)) c.args.bytes.now c.args.place.now) in
    memory-told c.mark_values.result None (held ++ outcomes) c.mark_values.ensures.err
