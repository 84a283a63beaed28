use Rattle.std.proofs.Common.{◌≡◌, ◌++◌, drop, map}
use Rattle.std.specs.Prelude.{flat_map}
use Rattle.column_ends.specs.Converted.{group_causes}
use Rattle.parquet_statistics.specs.Deserialized.{told_in}
use Rattle.parquet_statistics.specs.Parts.{columns_in_place}
use Rattle.parquet_statistics.proofs.told.told_of_column.Given as goal

-- what is told so far, and of the other groups
abbrev pub invariant-loop-columns : goal.invariant-loop-columns
invariant-loop-columns l = record {
  told : map (told_in l.data_type) (columns_in_place l.place (map (λ columns. map (λ column. column.now) columns.items) l.groups))
      ≡ l.told.items ++ map (told_in l.data_type) (columns_in_place l.place (map (λ columns. map (λ column. column.now) columns.items) (drop l.columns-index l.groups)));
  none : flat_map (group_causes l.data_type) (columns_in_place l.place (map (λ columns. map (λ column. column.now) columns.items) l.groups))
      ≡ flat_map (group_causes l.data_type) (columns_in_place l.place (map (λ columns. map (λ column. column.now) columns.items) (drop l.columns-index l.groups)));
}
