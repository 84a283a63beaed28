use Rattle.std.proofs.Common.{◌≡◌, ◌+◌, ◌-◌, ◌^◌, ◌<◌, drop, map}
use Rattle.std.specs.Prelude.{min, sum_by}
use Rattle.flat_values.specs.ColumnLeft.{ColumnLeft}
use Rattle.parquet_read.proofs.rows.pages_lent.Given as goal

-- the pages so far and those of the columns behind them
abbrev pub invariant-loop-column : goal.invariant-loop-column
invariant-loop-column g l =
    let lent = λ (left : ColumnLeft). left.lent in
    let left = g.A.ColumnArrays.left in
    record {
      same : min (l.lent + sum_by lent (map left (drop l.column-index l.columns))) (2 ^ 64 - 1) ≡ min (sum_by lent (map left l.columns)) (2 ^ 64 - 1);
      fits : l.lent < 2 ^ 64;
    }
