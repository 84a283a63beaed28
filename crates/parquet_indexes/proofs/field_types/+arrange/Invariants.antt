use Rattle.std.proofs.Common.{◌≡◌, ◌+◌, drop, length, map}
use Rattle.std.specs.Prelude.{flat_map}
use Rattle.parquet_statistics.specs.LeafTypes.{leaf_types}
use Rattle.parquet_indexes.specs.FieldTypes.{arranged, arranged_in_turn}
use Rattle.parquet_indexes.proofs.FieldTypeLemmas.{and_then_these}
use Rattle.parquet_indexes.proofs.field_types.+arrange.Given as goal

-- the statistics of the fields so far, and those of the others
abbrev pub invariant-arrange_fields-loop-field : goal.invariant-arrange_fields-loop-field
invariant-arrange_fields-loop-field l = record {
  turned : arranged_in_turn (map (λ field. arranged field.data_type) l.fields) l.fn.columns.items
      ≡ and_then_these l.statistics.items (arranged_in_turn (map (λ field. arranged field.data_type) (drop l.field-index l.fields)) l.columns.items);
  rest : length l.columns.items + length (flat_map (λ field. leaf_types field.data_type) l.fields)
      ≡ length l.fn.columns.items + length (flat_map (λ field. leaf_types field.data_type) (drop l.field-index l.fields));
}
