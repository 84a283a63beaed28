use Rattle.std.proofs.Common.{◌≡◌, take, true}
use Rattle.std.specs.List.{list_all}
use Rattle.parquet_statistics.specs.LeafTypes.{has_single_dictionaries}
use Rattle.parquet_statistics.proofs.carried_types.+has_single_dictionaries.Given as goal

-- the fields so far have
abbrev pub invariant-have_single_dictionaries-loop-field : goal.invariant-have_single_dictionaries-loop-field
invariant-have_single_dictionaries-loop-field l = list_all (λ field. has_single_dictionaries field.data_type) (take l.field-index l.fields) ≡ true
