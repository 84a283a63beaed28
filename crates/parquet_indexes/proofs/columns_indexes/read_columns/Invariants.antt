use Rattle.std.proofs.Common.{◌≡◌, drop, length, map}
use Rattle.std.specs.Prelude.{zip}
use Rattle.std.specs.List.{list_all}
use Rattle.parquet_meta.specs.Indexes.{column_index_length}
use Rattle.parquet_meta.specs.Keeps.{Keeps}
use Rattle.parquet_indexes.specs.FieldStatistics.{IsOfColumn, causes_of_typed, is_carried_column}
use Rattle.parquet_indexes.proofs.TellingLemmas.{IsTelling}
use Rattle.parquet_indexes.proofs.columns_indexes.read_columns.Given as goal

-- what is told of the columns so far
abbrev pub invariant-loop-i : goal.invariant-loop-i
invariant-loop-i g l = record {
  keeps : Keeps g.S.Source l.fn.source l.source;
  quiet : g.S.Source.faults l.source ≡ g.S.Source.faults l.fn.source;
  telling : IsTelling IsOfColumn causes_of_typed (λ typed. column_index_length typed.1) (g.S.Source.told l.fn.source)
      (zip (map (λ t. t.now) l.types) (map (λ column. column.now) l.columns)) (zip (map (λ t. t.now) (drop l.i l.types)) (map (λ column. column.now) (drop l.i l.columns))) l.told.items
      (g.S.Source.taken l.fn.source) (g.S.Source.taken l.source);
  carried : list_all is_carried_column (zip (map (λ t. t.now) l.types) (map (λ column. column.now) l.columns))
      ≡ list_all is_carried_column (zip (map (λ t. t.now) (drop l.i l.types)) (map (λ column. column.now) (drop l.i l.columns)));
  count : length l.told.items ≡ l.i;
}
