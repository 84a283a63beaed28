use Rattle.std.proofs.Common.{◌≡◌, ◌++◌, drop}
use Rattle.std.specs.Prelude.{filter, option_to_list, option_copied}
use Rattle.parquet_scan.specs.Rows.{is_named}
use Rattle.parquet_scan.proofs.groups.column_named.Given as goal

-- the column so far stands in front of those that are left
abbrev pub invariant-loop-column : goal.invariant-loop-column
invariant-loop-column l = filter (is_named l.name) l.group.columns ≡ option_to_list (option_copied l.found) ++ filter (is_named l.name) (drop l.column-index l.group.columns)
