use Rattle.std.proofs.Common.{◌≡◌, drop}
use Rattle.parquet_page.specs.Locations.{page_intervals}
use Rattle.parquet_page.proofs.ListLemmas.{with_front}
use Rattle.parquet_page.proofs.selection.page_row_intervals.Given as goal

abbrev pub invariant-loop-i : goal.invariant-loop-i
invariant-loop-i l = with_front l.intervals.items (page_intervals (drop l.i l.locations) l.num_rows) ≡ page_intervals l.locations l.num_rows
