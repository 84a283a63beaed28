use Rattle.std.proofs.Common.{◌≡◌, map, take}
use Rattle.columns_core.specs.Array.{cells, data_type_of}
use Rattle.columns_core.specs.declared.data_type.DataType.{UInt64}
use Rattle.parquet_statistics.specs.Parts.{slot_of_count}
use Rattle.parquet_statistics.proofs.column_arrays.arrays_of_counts.Given as goal

-- those so far
abbrev pub invariant-loop-column : goal.invariant-loop-column
invariant-loop-column l = record {
  types : map data_type_of l.arrays.items ≡ map (λ _. UInt64) (take l.column-index l.told);
  cells : map cells l.arrays.items ≡ map (λ column. map (slot_of_count l.count) column.items) (take l.column-index l.told);
}
