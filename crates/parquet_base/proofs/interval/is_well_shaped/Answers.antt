use Rattle.std.proofs.Common.{◌∙◌, sym}
use Rattle.parquet_base.specs.Intervals.{interval}
use Rattle.parquet_base.proofs.ShapeLemmas.{shape-fails}
use Rattle.parquet_base.proofs.interval.is_well_shaped.Goals as goal

pub returns-then-not-is_between : goal.returns-then-not-is_between
returns-then-not-is_between c =
    sym (shape-fails c.args.intervals.now c.loop-run.run-index c.loop-run.from c.args.rows (interval 0 0) c.loop-run-test.true (sym c.is_between.ensures ∙ c.if-not-is_between.true)) ∙ c.loop-run.invariant.left
