use Rattle.std.proofs.Common.{◌≡◌, ◌-◌, ◌≤◌, drop, length, true}
use Rattle.std.specs.Prelude.{find, is_some}
use Rattle.std.specs.Str.{bytes_eq}
use Rattle.columns_core.specs.declared.data_type.Field.{Field}
use Rattle.parquet_scan.proofs.request.place_of.Given as goal

-- the field is one of those that are left
abbrev pub invariant-loop-place : goal.invariant-loop-place
invariant-loop-place l = record {
  left : is_some (find (λ (field : Field). bytes_eq l.bound.field field.name) (drop l.place l.fields)) ≡ true;
  within : l.place ≤ length l.fields;
}

abbrev pub decreases-loop-place : goal.decreases-loop-place
decreases-loop-place l = length l.fields - l.place
