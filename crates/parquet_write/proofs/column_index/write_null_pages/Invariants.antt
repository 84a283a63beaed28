use Rattle.parquet_write.proofs.ListLemmas.{AreWritten}
use Rattle.parquet_thrift.specs.Values.{truth}
use Rattle.parquet_write.specs.Told.{is_null_page}
use Rattle.parquet_write.proofs.column_index.write_null_pages.Given as goal

abbrev pub invariant-loop-page : goal.invariant-loop-page
invariant-loop-page l = AreWritten (λ page. truth (is_null_page page)) l.initial.out.items l.out.items l.pages l.page-index
