use Rattle.std.proofs.Common.{◌≡◌, map, take}
use Rattle.columns_core.specs.Array.{cells, data_type_of}
use Rattle.parquet_statistics.specs.Parts.{slot_of_end}
use Rattle.parquet_statistics.proofs.column_arrays.arrays_of_ends.Given as goal

-- those so far
abbrev pub invariant-loop-i : goal.invariant-loop-i
invariant-loop-i l = record {
  types : map data_type_of l.arrays.items ≡ map (λ t. t.now) (take l.i l.types);
  cells : map cells l.arrays.items ≡ map (λ column. map (slot_of_end l.end) column.items) (take l.i l.told);
}
