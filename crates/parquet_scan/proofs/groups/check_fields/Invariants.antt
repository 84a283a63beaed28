use Rattle.std.proofs.Common.{◌≡◌, [], take}
use Rattle.std.specs.List.{flat_map}
use Rattle.parquet_scan.specs.Causes.{field_causes}
use Rattle.parquet_scan.proofs.groups.check_fields.Given as goal

-- none of the fields so far has a cause
abbrev pub invariant-loop-field : goal.invariant-loop-field
invariant-loop-field l = flat_map (field_causes l.columns) (take l.field-index l.fields) ≡ []
