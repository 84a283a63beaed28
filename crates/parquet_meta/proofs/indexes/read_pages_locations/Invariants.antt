use Rattle.std.proofs.Common.{◌≡◌, ◌+◌, length, map, drop}
use Rattle.parquet_meta.specs.Keeps.{Keeps}
use Rattle.parquet_meta.specs.Indexes.{locations_of, offset_index_length}
use Rattle.parquet_meta.proofs.EachLemmas.{IsReadingEach}
use Rattle.parquet_meta.proofs.indexes.read_pages_locations.Given as goal

abbrev pub invariant-loop-column : goal.invariant-loop-column
invariant-loop-column g l = record {
  keeps : Keeps g.S.Source l.fn.source l.source;
  each : length l.lists.items + length (drop l.column-index l.columns) ≡ length l.columns;
  quiet : g.S.Source.faults l.source ≡ g.S.Source.faults l.fn.source;
  reading : IsReadingEach locations_of offset_index_length (g.S.Source.told l.fn.source) l.columns (drop l.column-index l.columns) (map (λ list. list.items) l.lists.items)
      (g.S.Source.taken l.fn.source) (g.S.Source.taken l.source);
}
