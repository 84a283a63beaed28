use Rattle.std.proofs.Common.{◌<◌, ◌^◌, ◌∙◌, arith, rules, sym, tests}
use Rattle.std.proofs.lemmas.Iterator.{YieldsList-from_map, YieldsList-from_slice}
use Rattle.std.proofs.lemmas.Iterator.Consumers.{YieldsList-at, fits_by_from_yields_list, sum_by_from_yields_List}
use Rattle.parquet_base.specs.Intervals.{row_count}
use Rattle.parquet_base.specs.declared.interval.Interval.{Interval}
use Rattle.parquet_base.proofs.RowLemmas.{rows_of-length}
use Rattle.parquet_base.proofs.ShapeLemmas.{shape-count}
use Rattle.parquet_scan.proofs.located.count_of_rows.Goals as goal

pub sum-requires-clause-fits : goal.sum-requires-clause-fits
sum-requires-clause-fits c =
    let few : row_count c.args.rows.runs.now < 2 ^ 64 = omega (arith, shape-count 0 c.args.rows.runs.now c.args.rows.group.now.num_rows c.requires) in
    fits_by_from_yields_list _ _ c.map.result _
    (YieldsList-from_map _ (λ (run : Interval). run.length) (YieldsList-at c.map.ensures.source (YieldsList-from_slice c.args.rows.runs.now cc)) c.map.ensures.closure (λ x r q k. search (rules, tests))) few

pub returns : goal.returns
returns c =
    sum_by_from_yields_List _ _ c.map.result _ c.sum.ensures.ran
    (YieldsList-from_map _ (λ (run : Interval). run.length) (YieldsList-at c.map.ensures.source (YieldsList-from_slice c.args.rows.runs.now cc)) c.map.ensures.closure (λ x r q k. search (rules, tests)))
    ∙ sym (rows_of-length c.args.rows.runs.now)
