-- Calls for the next group of a file come to an end.
use Rattle.std.proofs.Common.{length, ap, arith}
use Rattle.std.specs.Prelude.{Option, Some, None, Result}
use Rattle.std.specs.Iterator.{MakesProgress}
use Rattle.columns_core.specs.declared.error.Error.{Error}
use Rattle.parquet_meta.specs.declared.source.Source.{Ghosts}
use Rattle.parquet_read.specs.GroupReader.{NextGroup, groups_to_come}
use Rattle.parquet_read.specs.Groups.{GroupsLeft}
use Rattle.parquet_read.specs.declared.group_reader.RowGroupReader.{RowGroupReader}
use Rattle.parquet_read.specs.declared.row_group.RowGroupDeserializer.{RowGroupDeserializer}

pub group_goes : {S : Type 0} (g : Ghosts S) {can : RowGroupReader S → Type 0} → ((s : RowGroupReader S) → can s) → (old : RowGroupReader S) (result : Option (Result RowGroupDeserializer Error)) (new : RowGroupReader S)
    → NextGroup g old result new → MakesProgress can groups_to_come old result new
group_goes g can old None new next = record { on = λ _. tt; keeps = tt; rests = λ finite. finite }
group_goes g can old (Some given) new next = record {
  on = λ finite. (can new, finite, omega (arith, ap length next.gives.groups, ap (λ (left : GroupsLeft). length left.groups) next.gives.left));
  keeps = can new;
  rests = λ _. tt;
}
