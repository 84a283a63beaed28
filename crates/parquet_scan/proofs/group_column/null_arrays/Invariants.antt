use Rattle.std.proofs.Common.{◌≡◌, ◌++◌, map, replicate}
use Rattle.columns_core.specs.Array.{column_of}
use Rattle.columns_core.specs.declared.cell.Cell.{Null}
use Rattle.columns_core.specs.declared.data_type.DataType as type
use Rattle.parquet_base.specs.Pieces.{cut}
use Rattle.parquet_scan.proofs.group_column.null_arrays.Given as goal

abbrev pub invariant-loop-left : goal.invariant-loop-left
invariant-loop-left l = record {
  arrays : map column_of l.arrays.items ++ map (λ nulls. (type.Null, nulls)) (cut l.chunk_size (replicate l.left Null)) ≡ map (λ nulls. (type.Null, nulls)) (cut l.chunk_size (replicate l.rows Null));
}

abbrev pub decreases-loop-left : goal.decreases-loop-left
decreases-loop-left l = l.left
