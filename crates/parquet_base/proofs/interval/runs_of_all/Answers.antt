use Rattle.std.proofs.Common.{◌∙◌, ◌&&◌, ap, List}
use Rattle.parquet_base.specs.declared.interval.Interval.{Interval}
use Rattle.parquet_base.specs.Intervals.{covers, maximal_runs}
use Rattle.parquet_base.proofs.SegmentLemmas.{apart_from, common_more}
use Rattle.parquet_base.proofs.interval.runs_of_all.Goals as goal

pub common_runs-requires-clause-first : goal.common_runs-requires-clause-first
common_runs-requires-clause-first c = apart_from _ _ c.args.rows (c.deref.ensures.value ∙ c.loop-list.invariant)

pub loop-list-preserved : goal.loop-list-preserved
loop-list-preserved c =
    c.in_ok-runs-2.ensures
    ∙ ap (λ (r : List Interval). maximal_runs (λ row. covers r row && covers c.deref-in-loop-list.result.now row) c.args.rows) c.deref.ensures.value
    ∙ ap (λ (r : List Interval). maximal_runs (λ row. covers c.loop-list.runs.items row && covers r row) c.args.rows)
    (c.deref-in-loop-list.ensures.value ∙ ap (λ list. list.items) c.list-item.is)
    ∙ common_more (λ list. list.items) c.args.lists.now c.loop-list.list-index _ c.args.rows _ c.loop-list-test.true c.loop-list.invariant
