use Rattle.std.proofs.Common.{◌≡◌, drop}
use Rattle.parquet_page.proofs.ListLemmas.{with_front}
use Rattle.parquet_page.proofs.SelectionLemmas.{pages_found}
use Rattle.parquet_page.proofs.selection.filtered_pages.Given as goal

abbrev pub invariant-loop-i : goal.invariant-loop-i
invariant-loop-i l = with_front l.pages.items (pages_found l.intervals (drop l.i l.locations) l.num_rows) ≡ pages_found l.intervals l.locations l.num_rows
