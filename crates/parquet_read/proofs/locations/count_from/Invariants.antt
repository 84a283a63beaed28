use Rattle.std.proofs.Common.{◌≡◌, ◌++◌, map, take, drop}
use Rattle.parquet_read.specs.Opening.{counted_from}
use Rattle.parquet_read.proofs.locations.count_from.Given as goal

-- the pages so far are counted, and those behind them as they were
abbrev pub invariant-loop-page : goal.invariant-loop-page
invariant-loop-page l = l.pages ≡ map (counted_from l.start) (take l.page-index l.fn.pages) ++ drop l.page-index l.fn.pages
