use Rattle.std.proofs.Common.{◌≡◌, [], map, take}
use Rattle.std.specs.Prelude.{flat_map}
use Rattle.parquet_statistics.specs.Deserialized.{columns_in}
use Rattle.parquet_statistics.specs.Parts.{uneven_causes}
use Rattle.parquet_statistics.proofs.told.columns_of_groups.Given as goal

-- those of the groups so far, each of which has as many
abbrev pub invariant-loop-group : goal.invariant-loop-group
invariant-loop-group l = record {
  columns : map (λ columns. map (λ column. column.now) columns.items) l.groups.items ≡ map (columns_in l.field) (take l.group-index l.row_groups);
  even : flat_map (uneven_causes l.count l.field) (take l.group-index l.row_groups) ≡ [];
}
