use Rattle.std.proofs.Common.{drop}
use Rattle.parquet_base.specs.Intervals.{is_kept_page}
use Rattle.parquet_base.proofs.SegmentLemmas.{PagesLeft}
use Rattle.parquet_base.proofs.interval.page_runs.Given as goal

-- the runs so far are those of the pages before this one
abbrev pub invariant-loop-i : goal.invariant-loop-i
invariant-loop-i l = PagesLeft (is_kept_page l.pages l.keep) (drop l.i l.pages) (drop l.i l.keep) l.rows l.runs.items
