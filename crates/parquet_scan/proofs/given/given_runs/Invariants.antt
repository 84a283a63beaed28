use Rattle.std.proofs.Common.{◌≡◌, ◌++◌, true, length, map, drop}
use Rattle.std.specs.Prelude.{zip}
use Rattle.std.specs.List.{list_all}
use Rattle.parquet_base.specs.Intervals.{is_well_shaped, rows_of}
use Rattle.parquet_scan.specs.Rows.{first_rows, given_of_kept}
use Rattle.parquet_scan.proofs.given.given_runs.Given as goal

-- the rows so far stand in front of those that the groups behind them give
abbrev pub invariant-loop-group : goal.invariant-loop-group
invariant-loop-group l = record {
  rows : map rows_of l.given.items ++ first_rows l.left (map (λ group. rows_of group.intervals) (drop l.group-index l.kept)) ≡ given_of_kept l.fn.limit l.kept;
  shaped : list_all (λ group. is_well_shaped group.1 (group.0).rows) (zip l.kept l.given.items) ≡ true;
  count : length l.given.items ≡ l.group-index;
}
