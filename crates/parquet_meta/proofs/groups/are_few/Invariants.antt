use Rattle.std.proofs.Common.{◌≡◌, ◌^◌, ◌<◌, take}
use Rattle.parquet_meta.specs.File.{rows_in_groups}
use Rattle.parquet_meta.proofs.groups.are_few.Given as goal

abbrev pub invariant-groups : goal.invariant-groups
invariant-groups l = (l.rows ≡ rows_in_groups (take l.group-index l.groups)) × (l.rows < 2 ^ 63)
