use Rattle.std.proofs.Common.{◌∙◌, ap, ap₂, replicate}
use Rattle.std.proofs.lemmas.List.{length-replicate}
use Rattle.std.proofs.lemmas.Result.{on_ok_weaker}
use Rattle.columns_core.specs.declared.cell.Cell.{Bytes}
use Rattle.flat_values.specs.Decoded.{marked_cells, with_nulls}
use Rattle.flat_values.proofs.DecodedLemmas.{cells-with_nulls}
use Rattle.flat_values.proofs.fixed.FixedValuesValues.push_nulls.Goals as goal

pub returns-clause-cells : goal.returns-clause-cells
returns-clause-cells c =
    let old = c.args.decoded.now in
    let count = c.args.count in
    let zeros = replicate old.values.size 0 in
    on_ok_weaker c.mark_nulls.result
    (λ marked. ap₂ (marked_cells Bytes) (ap (λ v. v.items) c.in_ok-extend_constant.ensures.ok) (marked ∙ ap (λ held. with_nulls held count old.validity) c.len-held.ensures)
    ∙ cells-with_nulls Bytes old.values.items (replicate count zeros) old.validity count (length-replicate count zeros) c.requires.own.1)
    c.mark_nulls.ensures.ok
