use Rattle.std.proofs.Common.{◌≡◌, ◌+◌, length, drop}
use Rattle.parquet_meta.specs.Keeps.{Keeps}
use Rattle.parquet_meta.specs.Indexes.{field_columns}
use Rattle.parquet_meta.proofs.RawIndexLemmas.{IsReadingIndexes}
use Rattle.parquet_meta.proofs.indexes.read_raw_indexes.Given as goal

abbrev pub invariant-loop-column : goal.invariant-loop-column
invariant-loop-column g l = record {
  keeps : Keeps g.S.Source l.fn.source l.source;
  each : length l.indexes.items + length (field_columns l.field_name (drop l.column-index l.columns)) ≡ length (field_columns l.field_name l.columns);
  quiet : g.S.Source.faults l.source ≡ g.S.Source.faults l.fn.source;
  reading : IsReadingIndexes (g.S.Source.told l.fn.source) (field_columns l.field_name l.columns) (field_columns l.field_name (drop l.column-index l.columns)) l.indexes.items
      (g.S.Source.taken l.fn.source) (g.S.Source.taken l.source);
}
