use Rattle.parquet_read.proofs.CutLemmas.{IsCutting}
use Rattle.parquet_read.proofs.selected.cut_pages.Given as goal

abbrev pub invariant-loop-page : goal.invariant-loop-page
invariant-loop-page l = IsCutting l.limit l.fn.pages l.page-index l.pages l.left
