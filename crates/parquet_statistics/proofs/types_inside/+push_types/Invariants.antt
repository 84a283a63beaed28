use Rattle.std.proofs.Common.{◌≡◌, ◌++◌, map, take}
use Rattle.std.specs.Prelude.{flat_map}
use Rattle.parquet_statistics.specs.LeafTypes.{leaf_types}
use Rattle.parquet_statistics.proofs.types_inside.+push_types.Given as goal

-- the types inside the fields so far were appended
abbrev pub invariant-push_types_of_fields-loop-field : goal.invariant-push_types_of_fields-loop-field
invariant-push_types_of_fields-loop-field l =
    map (λ t. t.now) l.types.items ≡ map (λ t. t.now) l.fn.types.items ++ flat_map (λ field. leaf_types field.data_type) (take l.field-index l.fields)
