use Rattle.std.proofs.Common.{◌≡◌, take, map}
use Rattle.parquet_statistics.specs.CountType.{count_field}
use Rattle.parquet_statistics.proofs.counts.+create_dt.Given as goal

abbrev pub invariant-create_fields-loop-field : goal.invariant-create_fields-loop-field
invariant-create_fields-loop-field l = l.counts.items ≡ map count_field (take l.field-index l.fields)
