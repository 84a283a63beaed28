use Rattle.std.proofs.Common.{◌≡◌, min, sum_by, take}
use Rattle.parquet_statistics.specs.LeafTypes.{columned}
use Rattle.parquet_statistics.proofs.carried_types.+few_columns.Given as goal

-- those of the fields so far
abbrev pub invariant-few_columns_of_fields-loop-field : goal.invariant-few_columns_of_fields-loop-field
invariant-few_columns_of_fields-loop-field l = l.count ≡ min 2 (sum_by (λ field. (columned field.data_type).leaf_count) (take l.field-index l.fields))
