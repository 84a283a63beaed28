use Rattle.std.proofs.Common.{◌≡◌, drop, length}
use Rattle.std.specs.List.{list_all}
use Rattle.parquet_meta.specs.Keeps.{Keeps}
use Rattle.parquet_indexes.specs.FieldStatistics.{IsOfField, causes_of_field, column_indexes_length, is_carried_field}
use Rattle.parquet_indexes.proofs.TellingLemmas.{IsTelling}
use Rattle.parquet_indexes.proofs.columns_indexes.read_fields.Given as goal

-- the statistics of the fields so far are told
abbrev pub invariant-loop-field : goal.invariant-loop-field
invariant-loop-field g l = record {
  keeps : Keeps g.S.Source l.fn.source l.source;
  quiet : g.S.Source.faults l.source ≡ g.S.Source.faults l.fn.source;
  telling : IsTelling (λ file field. IsOfField file l.chunks field) (λ file field. causes_of_field file l.chunks field) (column_indexes_length l.chunks) (g.S.Source.told l.fn.source)
      l.fields (drop l.field-index l.fields) l.statistics.items (g.S.Source.taken l.fn.source) (g.S.Source.taken l.source);
  carried : list_all (is_carried_field l.chunks) l.fields ≡ list_all (is_carried_field l.chunks) (drop l.field-index l.fields);
  count : length l.statistics.items ≡ l.field-index;
}
