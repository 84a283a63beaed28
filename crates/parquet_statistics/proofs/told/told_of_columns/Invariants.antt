use Rattle.std.proofs.Common.{◌≡◌, ◌++◌, drop, map}
use Rattle.parquet_statistics.specs.Deserialized.{told_columns}
use Rattle.parquet_statistics.specs.Parts.{causes_by_column}
use Rattle.parquet_statistics.proofs.told.told_of_columns.Given as goal

-- what is told so far, and of the other types
abbrev pub invariant-loop-place : goal.invariant-loop-place
invariant-loop-place l = record {
  told : told_columns (map (λ t. t.now) l.types) (map (λ columns. map (λ column. column.now) columns.items) l.groups)
      ≡ map (λ column. column.items) l.told.items
      ++ told_columns (map (λ t. t.now) (drop l.place l.types)) (map (drop l.place) (map (λ columns. map (λ column. column.now) columns.items) l.groups));
  none : causes_by_column (map (λ t. t.now) l.types) (map (λ columns. map (λ column. column.now) columns.items) l.groups)
      ≡ causes_by_column (map (λ t. t.now) (drop l.place l.types)) (map (drop l.place) (map (λ columns. map (λ column. column.now) columns.items) l.groups));
}
