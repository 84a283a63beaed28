use Rattle.std.proofs.Common.{◌≡◌, ◌<◌, [], length, take, true}
use Rattle.std.specs.Prelude.{flat_map}
use Rattle.parquet_statistics.specs.BuiltTypes.{are_empty_of, type_refusals}
use Rattle.parquet_statistics.proofs.empty_builders.+builder_of.Given as goal

-- there is a field, and the builders are empty ones of the fields so far
abbrev pub invariant-builders_of-loop-field : goal.invariant-builders_of-loop-field
invariant-builders_of-loop-field l = record {
  some : 0 < length l.fields;
  empty : are_empty_of (take l.field-index l.fields) l.builders.items ≡ true;
  free : flat_map (λ field. type_refusals field.data_type) (take l.field-index l.fields) ≡ [];
}
