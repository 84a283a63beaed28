use Rattle.std.proofs.Common.{◌≡◌, ◌++◌, map, drop}
use Rattle.parquet_meta.specs.Indexes.{field_columns}
use Rattle.parquet_meta.proofs.fields.get_field_columns.Given as goal

-- the columns so far, and those that are left, are all of them
abbrev pub invariant-loop-column : goal.invariant-loop-column
invariant-loop-column l = map (λ column. column.now) l.found.items ++ field_columns l.field_name (drop l.column-index l.columns) ≡ field_columns l.field_name l.columns
