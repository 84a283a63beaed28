use Rattle.std.proofs.Common.{◌≡◌, ◌+◌, ◌-◌, ◌^◌, ◌<◌, ◌++◌, All, map}
use Rattle.std.specs.Prelude.{min, sum_by}
use Rattle.columns_core.specs.Chunk.{AreEqualLengths, array_rows as chunk_rows}
use Rattle.parquet_scan.specs.Chunks.{side_by_side, turned}
use Rattle.parquet_scan.specs.Scan.{rows_in}
use Rattle.parquet_scan.proofs.chunks.add_chunks.Given as goal

-- the chunks so far stand in front of those that the columns still make
abbrev pub invariant-loop-i : goal.invariant-loop-i
invariant-loop-i l =
    let all = side_by_side (map (λ column. column.items) l.fn.columns) in
    let left = turned (l.count - l.i) (map (λ column. column.items) l.columns) in
    record {
      chunks : l.read.chunks.items ++ left ≡ l.fn.read.chunks.items ++ all;
      lengths : All AreEqualLengths left;
      rows : min (l.read.rows + sum_by chunk_rows left) (2 ^ 64 - 1) ≡ min (l.fn.read.rows + sum_by chunk_rows all) (2 ^ 64 - 1);
      fits : l.read.rows < 2 ^ 64;
      own_rows : l.fn.read.rows ≡ rows_in l.fn.read.chunks.items → l.read.rows ≡ rows_in l.read.chunks.items;
      even : All AreEqualLengths l.fn.read.chunks.items → All AreEqualLengths l.read.chunks.items;
      pages : l.read.pages ≡ l.fn.read.pages;
    }
