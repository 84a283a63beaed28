use Rattle.std.proofs.Common.{◌-◌, ◌∙◌, List, arith, ap}
use Rattle.parquet_base.specs.Intervals.{row_count}
use Rattle.parquet_base.specs.declared.interval.Interval.{Interval}
use Rattle.parquet_read.proofs.CutLemmas.{cutting_ends, cutting_next}
use Rattle.parquet_read.proofs.selected.cut_pages.Goals as goal

pub loop-page-preserved : goal.loop-page-preserved
loop-page-preserved c =
    cutting_next c.args.limit c.args.pages.now c.loop-page.page-index c.loop-page.pages c.loop-page.left c.rows_behind-behind.result c.page-item.result c.cut_page.new.page c.loop-page.invariant c.loop-page-test.true c.page-item.is
    c.cut_page.ensures (c.rows_behind-behind.ensures ∙ ap (λ (rows : List Interval). c.loop-page.left - row_count rows) c.as_slice.ensures)

pub returns : goal.returns
returns c =
    cutting_ends c.args.limit c.args.pages.now c.loop-page.page-index c.loop-page.pages c.loop-page.left (omega (arith, c.loop-page-test.false, c.loop-page.invariant.long)) c.loop-page.invariant
