use Rattle.std.proofs.Common.{take}
use Rattle.std.specs.Prelude.{All}
use Rattle.parquet_plain.specs.Structs.{group_value}
use Rattle.parquet_write.specs.Told.{IsTellableGroup, group_told}
use Rattle.parquet_write.proofs.ListLemmas.{AreWritten}
use Rattle.parquet_write.proofs.footer.write_footer.Given as goal

abbrev pub invariant-loop-group : goal.invariant-loop-group
invariant-loop-group l = record {
  written : AreWritten (λ group. group_value (group_told l.columns l.bases group)) l.initial.out.items l.out.items l.groups l.group-index;
  few : All (IsTellableGroup l.bases) (take l.group-index l.groups);
}
