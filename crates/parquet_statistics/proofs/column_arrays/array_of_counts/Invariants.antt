use Rattle.std.proofs.Common.{◌≡◌, length, map, take}
use Rattle.columns_core.specs.Column.{where_set}
use Rattle.parquet_statistics.specs.Parts.{count_on}
use Rattle.parquet_statistics.proofs.column_arrays.array_of_counts.Given as goal

-- those so far, each where it is told
abbrev pub invariant-loop-ends : goal.invariant-loop-ends
invariant-loop-ends l = record {
  even : length l.validity ≡ length l.values.items;
  counts : where_set l.values.items l.validity ≡ map (count_on l.fn.count) (take l.ends-index l.column);
}
