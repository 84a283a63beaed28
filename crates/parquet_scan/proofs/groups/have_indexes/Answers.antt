use Rattle.std.proofs.Common.{◌≡◌, ◌∙◌, ap, sym, arith, get_or, true, false}
use Rattle.parquet_meta.specs.declared.metadata.RowGroupMetaData.{RowGroupMetaData}
use Rattle.parquet_scan.specs.Counting.{has_indexes_if_counting}
use Rattle.parquet_scan.proofs.PairLemmas.{all_behind}
use Rattle.parquet_scan.proofs.groups.have_indexes.Goals as goal

pub loop-i-preserved : goal.loop-i-preserved
loop-i-preserved c =
    let passes : has_indexes_if_counting c.args.bounds.now c.args.fields.now (get_or c.args.groups.now c.loop-i.i c.index-groups-i.result, get_or c.args.counts.now c.loop-i.i false) ≡ true =
    ap (λ (group : RowGroupMetaData). has_indexes_if_counting c.args.bounds.now c.args.fields.now (group, get_or c.args.counts.now c.loop-i.i false)) (sym c.index-groups-i.is)
    ∙ sym c.has_indexes_if_counting.ensures ∙ c.if-not-has_indexes_if_counting.false in
    c.loop-i.invariant ∙ all_behind (has_indexes_if_counting c.args.bounds.now c.args.fields.now) c.args.groups.now c.args.counts.now c.loop-i.i c.index-groups-i.result false (omega arith) (omega arith) passes
