use Rattle.std.proofs.Common.{◌≡◌, ◌≤◌, ◌+◌, drop, length}
use Rattle.std.specs.Prelude.{filter}
use Rattle.parquet_page.specs.Lent.{is_wanted}
use Rattle.parquet_page.proofs.entries.count_wanted.Given as goal

abbrev pub invariant-loop-page : goal.invariant-loop-page
invariant-loop-page l = record {
  sum : l.count + length (filter is_wanted (drop l.page-index l.pages)) ≡ length (filter is_wanted l.pages);
  few : l.count ≤ l.page-index;
}
