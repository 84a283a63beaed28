use Rattle.std.proofs.Common.{take}
use Rattle.std.specs.Prelude.{All}
use Rattle.parquet_write.proofs.ListLemmas.{AreWritten}
use Rattle.parquet_plain.specs.Structs.{element_value}
use Rattle.parquet_write.specs.Told.{IsTellableColumn}
use Rattle.parquet_write.proofs.schema.write_schema.Given as goal

abbrev pub invariant-loop-column : goal.invariant-loop-column
invariant-loop-column l = record {
  written : AreWritten element_value l.initial.out.items l.out.items l.columns l.column-index;
  few : All IsTellableColumn (take l.column-index l.columns);
}
