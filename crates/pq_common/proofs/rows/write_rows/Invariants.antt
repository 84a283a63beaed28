use Rattle.std.proofs.Common.{◌≡◌, ◌-◌, ◌≤◌, drop, length, map}
use Rattle.std.specs.List.{flat_map, range_with_len}
use Rattle.columns_core.specs.Array.{column_of}
use Rattle.pq_common.specs.Rows.{row_line}
use Rattle.pq_common.proofs.rows.write_rows.Given as goal

-- the lines behind the row are written
abbrev pub invariant-loop-row : goal.invariant-loop-row
invariant-loop-row l = record {
  left : l.from ≤ l.row;
  within : l.start ≤ length l.lines;
  written : drop l.start l.lines ≡ flat_map (row_line (map column_of l.arrays)) (range_with_len l.row (l.to - l.row));
}
