use Rattle.std.proofs.Common.{◌≡◌, take, true}
use Rattle.std.specs.List.{list_all}
use Rattle.parquet_statistics.specs.Deserialized.{is_count, slot_count}
use Rattle.parquet_statistics.specs.Parts.{type_of_arrays}
use Rattle.parquet_statistics.proofs.slots.+slot_count.Given as goal

-- the fields so far come to the same number as the first
abbrev pub invariant-agreed_count-loop-field : goal.invariant-agreed_count-loop-field
invariant-agreed_count-loop-field l =
    list_all (λ field. is_count l.count (slot_count l.groups (type_of_arrays l.arrays field.data_type))) (take l.field-index l.others) ≡ true
