-- The statistics of a chunk, by the ids of their fields.
use Rattle.std.specs.Prelude.{Some, None, if◌then◌else◌}
use Rattle.parquet_meta.specs.Meaning.{Rule, Field, i64, byte_string, is_id, setting, passing, struct_of}
use Rattle.parquet_meta.specs.declared.metadata.StatisticsBytes.{StatisticsBytes}

-- Statistics: 3 null_count, 4 distinct_count, 5 max_value, 6 min_value
unfoldable pub statistics_field : Field StatisticsBytes
statistics_field s id =
    if is_id id 3 then setting (λ n. record s { null_count = Some n }) i64
    else (if is_id id 4 then setting (λ n. record s { distinct_count = Some n }) i64
    else (if is_id id 5 then setting (λ b. record s { max_value = Some b }) byte_string
    else (if is_id id 6 then setting (λ b. record s { min_value = Some b }) byte_string
    else passing s)))

unfoldable pub statistics : Rule StatisticsBytes
statistics = struct_of statistics_field (record { null_count = None; distinct_count = None; max_value = None; min_value = None })
