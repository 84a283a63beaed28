use Rattle.std.proofs.Common.{◌≡◌, ◌+◌, drop, length}
use Rattle.std.specs.Prelude.{filter}
use Rattle.parquet_page.specs.Lent.{is_wanted}
use Rattle.parquet_read.proofs.locations.no_bodies.Given as goal

abbrev pub invariant-loop-page : goal.invariant-loop-page
invariant-loop-page l = length l.bodies.items + length (filter is_wanted (drop l.page-index l.pages)) ≡ length (filter is_wanted l.pages)
