use Rattle.parquet_write.proofs.ListLemmas.{AreWritten}
use Rattle.parquet_thrift.specs.Values.{binary}
use Rattle.parquet_write.proofs.group.write_path.Given as goal

abbrev pub invariant-loop-name : goal.invariant-loop-name
invariant-loop-name l = AreWritten (binary) l.initial.out.items l.out.items l.path l.name-index
