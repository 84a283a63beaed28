use Rattle.std.proofs.Common.{◌≡◌, ◌++◌, drop, map}
use Rattle.parquet_meta.specs.Keeps.{Keeps}
use Rattle.parquet_meta.proofs.EachLemmas.{IsReadingEach}
use Rattle.parquet_read.specs.Columns.{range_length, chunk_of_column}
use Rattle.parquet_read.proofs.columns.read_each.Given as goal

-- the chunks of the columns so far are found
abbrev pub invariant-loop-column : goal.invariant-loop-column
invariant-loop-column g l = record {
  keeps : Keeps g.S.Source l.fn.source l.source;
  quiet : g.S.Source.faults l.source ≡ g.S.Source.faults l.fn.source;
  reading : IsReadingEach chunk_of_column range_length (g.S.Source.told l.fn.source)
      (map (λ column. column.now) l.columns) (map (λ column. column.now) (drop l.column-index l.columns)) (map (λ chunk. (chunk.0.now, chunk.1.items)) l.chunks.items)
      (g.S.Source.taken l.fn.source) (g.S.Source.taken l.source);
  each : map (λ chunk. chunk.0.now) l.chunks.items ++ map (λ column. column.now) (drop l.column-index l.columns) ≡ map (λ column. column.now) l.columns;
}
