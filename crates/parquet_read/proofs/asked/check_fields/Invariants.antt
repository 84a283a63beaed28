use Rattle.std.proofs.Common.{◌≡◌, drop, None}
use Rattle.parquet_read.specs.Asked.{GroupReading, fields_causes}
use Rattle.parquet_read.proofs.asked.check_fields.Given as goal

abbrev pub invariant-loop-field : goal.invariant-loop-field
invariant-loop-field l =
    let reading : GroupReading = record { group = l.group; size = None; limit = None } in
    fields_causes reading l.fields ≡ fields_causes reading (drop l.field-index l.fields)
