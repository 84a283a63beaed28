use Rattle.std.proofs.Common.{◌≡◌, drop}
use Rattle.parquet_page.specs.Lent.{lie_within}
use Rattle.parquet_page.proofs.EntryLemmas.{all_within}
use Rattle.parquet_page.proofs.entries.lie_within.Given as goal

abbrev pub invariant-loop-page : goal.invariant-loop-page
invariant-loop-page l = all_within l.size l.first (drop l.page-index l.pages) ≡ lie_within l.size l.pages
