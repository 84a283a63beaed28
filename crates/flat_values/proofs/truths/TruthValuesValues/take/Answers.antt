use Rattle.std.proofs.Common.{◌∙◌, ◌++◌, ap, map, sym, take, None}
use Rattle.std.proofs.lemmas.List.{take-map}
use Rattle.std.proofs.lemmas.Result.{on_ok_weaker}
use Rattle.columns_core.specs.declared.cell.Cell.{Bool as TruthCell}
use Rattle.page_decoding.specs.Outcome.{Given}
use Rattle.flat_values.specs.Decoded.{marked_cells}
use Rattle.parquet_encoding.specs.PlainLeft.{bits_left, truths}
use Rattle.flat_values.proofs.CauseLemmas.{memory-told}
use Rattle.flat_values.proofs.DecodedLemmas.{given-with_values}
use Rattle.flat_values.proofs.OutcomeLemmas.{behind}
use Rattle.flat_values.proofs.truths.TruthValuesValues.take.Goals as goal

pub returns-clause-cells : goal.returns-clause-cells
returns-clause-cells c =
    let old = c.args.decoded.now in
    let values = truths c.args.place.now c.args.bytes.now in
    on_ok_weaker c.mark_values.result
    (λ marked. given-with_values TruthCell old.values (take c.args.count values) c.extend_truths.new.into old.validity c.mark_values.new.validity c.in_ok-taken.taken c.requires.own
    c.in_ok-taken.ensures.added c.in_ok-taken.ensures.count marked
    ∙ ap (λ more. map Given (marked_cells TruthCell old.values old.validity) ++ more) (sym (take-map (λ b. Given (TruthCell b)) c.args.count values)))
    c.mark_values.ensures.ok

pub returns-clause-left : goal.returns-clause-left
returns-clause-left c =
    on_ok_weaker c.mark_values.result
    (λ _. behind (λ b. Given (TruthCell b)) (bits_left c.extend_truths.new.values c.args.bytes.now) (truths c.args.place.now c.args.bytes.now) c.args.count c.in_ok-taken.ensures.rest)
    c.mark_values.ensures.ok

pub returns-clause-cause : goal.returns-clause-cause
returns-clause-cause c =
    let rows = map Given (marked_cells TruthCell c.args.decoded.now.values c.args.decoded.now.validity) ++ take c.args.count (map (λ b. Given (TruthCell b)) (truths c.args.place.now c.args.bytes.now)) in
    memory-told c.mark_values.result None rows c.mark_values.ensures.err
