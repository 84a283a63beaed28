use Rattle.std.proofs.Common.{◌≡◌, ◌++◌, drop}
use Rattle.pages_for_tests.specs.Pages.{bytes_of_pages}
use Rattle.pages_for_tests.proofs.chunk_of.Given as goal

-- the pages so far, and those that are left, are all
abbrev pub invariant-loop-page : goal.invariant-loop-page
invariant-loop-page l = l.chunk.items ++ bytes_of_pages (drop l.page-index l.pages) ≡ bytes_of_pages l.pages
