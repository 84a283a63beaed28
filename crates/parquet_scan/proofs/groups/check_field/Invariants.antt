use Rattle.std.proofs.Common.{◌≡◌, ◌++◌, drop}
use Rattle.std.specs.Prelude.{filter, option_to_list, option_copied}
use Rattle.parquet_scan.specs.Request.{begins}
use Rattle.parquet_scan.proofs.groups.check_field.Given as goal

-- the column so far stands in front of those that are left
abbrev pub invariant-loop-column : goal.invariant-loop-column
invariant-loop-column l = filter (begins l.field.name) l.columns ≡ option_to_list (option_copied l.found) ++ filter (begins l.field.name) (drop l.column-index l.columns)
