use Rattle.std.proofs.Common.{◌≡◌, ◌-◌, ◌*◌, ◌≤◌, [], ◌∷◌, drop, length}
use Rattle.std.specs.List.{flat_map, range_with_len}
use Rattle.columns_core.specs.Array.{column_of}
use Rattle.columns_core.specs.declared.array.Array.TheVariants.{Int32}
use Rattle.pq_common.specs.Rows.{row_line}
use Rattle.pq_common.proofs.column.write_lines.Given as goal

-- there is room for the lines that are left, and those behind them are written
abbrev pub invariant-loop-row : goal.invariant-loop-row
invariant-loop-row l = record {
  left : l.from ≤ l.row;
  room : 12 * (l.row - l.from) ≤ l.start;
  within : l.start ≤ length l.block;
  written : drop l.start l.block ≡ flat_map (row_line (column_of (Int32 l.array) ∷ [])) (range_with_len l.row (l.to - l.row));
}
