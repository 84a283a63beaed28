use Rattle.parquet_write.proofs.ListLemmas.{AreWritten}
use Rattle.parquet_thrift.specs.Values.{number}
use Rattle.parquet_write.specs.Told.{nulls_told}
use Rattle.parquet_write.proofs.column_index.write_null_counts.Given as goal

abbrev pub invariant-loop-page : goal.invariant-loop-page
invariant-loop-page l = AreWritten (λ page. number (nulls_told page)) l.initial.out.items l.out.items l.pages l.page-index
