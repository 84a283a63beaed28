use Rattle.parquet_write.proofs.ListLemmas.{AreWritten}
use Rattle.parquet_thrift.specs.Values.{binary}
use Rattle.parquet_write.specs.Told.{greatest_told}
use Rattle.parquet_write.proofs.column_index.write_greatest.Given as goal

abbrev pub invariant-loop-page : goal.invariant-loop-page
invariant-loop-page l = AreWritten (λ page. binary (greatest_told page)) l.initial.out.items l.out.items l.pages l.page-index
