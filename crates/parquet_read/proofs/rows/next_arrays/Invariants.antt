use Rattle.std.proofs.Common.{◌≡◌, length, map}
use Rattle.parquet_read.specs.Rows.{each_given}
use Rattle.parquet_read.proofs.AskLemmas.{IsAsking}
use Rattle.parquet_read.proofs.rows.next_arrays.Given as goal

-- each column so far gave an array
abbrev pub invariant-loop-column : goal.invariant-loop-column
invariant-loop-column g l =
    let left = g.A.ColumnArrays.left in
    record {
      asking : IsAsking (map left l.fn.columns) (each_given l.arrays.items) (map left l.columns) l.column-index l.fn.steps l.steps;
      count : length l.arrays.items ≡ l.column-index;
    }
