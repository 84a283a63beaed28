use Rattle.std.proofs.Common.{take}
use Rattle.std.specs.Prelude.{All}
use Rattle.parquet_write.proofs.ListLemmas.{AreWritten}
use Rattle.parquet_plain.specs.Structs.{location_value}
use Rattle.parquet_write.specs.Told.{IsTellablePage, location_told}
use Rattle.parquet_write.proofs.offset_index.write_offset_index.Given as goal

abbrev pub invariant-loop-page : goal.invariant-loop-page
invariant-loop-page l = record {
  written : AreWritten (λ page. location_value (location_told page)) l.initial.out.items l.out.items l.pages l.page-index;
  few : All IsTellablePage (take l.page-index l.pages);
}
