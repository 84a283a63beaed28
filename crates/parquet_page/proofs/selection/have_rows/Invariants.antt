use Rattle.std.proofs.Common.{◌≡◌, drop}
use Rattle.std.specs.Prelude.{is_some}
use Rattle.parquet_page.specs.Locations.{page_intervals}
use Rattle.parquet_page.proofs.selection.have_rows.Given as goal

abbrev pub invariant-loop-i : goal.invariant-loop-i
invariant-loop-i l = is_some (page_intervals (drop l.i l.locations) l.num_rows) ≡ is_some (page_intervals l.locations l.num_rows)
