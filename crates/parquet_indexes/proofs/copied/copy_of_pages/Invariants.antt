use Rattle.std.proofs.Common.{◌≡◌, take}
use Rattle.parquet_indexes.proofs.copied.copy_of_pages.Given as goal

abbrev pub invariant-loop-page : goal.invariant-loop-page
invariant-loop-page g l = l.copy.items ≡ take l.page-index l.pages
