use Rattle.std.proofs.Common.{◌≡◌, true, map, take}
use Rattle.parquet_plain.specs.Description.{descriptor_of}
use Rattle.put_program.specs.Put.{are_written, column_of_field}
use Rattle.put_program.proofs.fields.descriptors_of.Given as goal

abbrev pub invariant-loop-field : goal.invariant-loop-field
invariant-loop-field l =
    (l.columns.items ≡ map descriptor_of (map column_of_field (take l.field-index l.fields))) × (are_written (take l.field-index l.fields) ≡ true)
