use Rattle.std.proofs.Common.{◌≡◌, ◌≤◌, ◌+◌, ◌++◌, true, drop, length, map}
use Rattle.std.specs.Prelude.{IfSome, flat_map, sum_by}
use Rattle.std.specs.List.{list_all}
use Rattle.parquet_page.specs.Locations.{has_shape}
use Rattle.parquet_meta.specs.Keeps.{Keeps}
use Rattle.parquet_scan.specs.Causes.{offset_causes_of_field}
use Rattle.parquet_scan.specs.Costs.{location_bytes_of}
use Rattle.parquet_scan.specs.Rows.{field_locations}
use Rattle.parquet_scan.proofs.locations.read_all_locations.Given as goal

-- what is wrong with the offset indexes of all fields, and what they tell, is what is so of those that are left
abbrev pub invariant-loop-field : goal.invariant-loop-field
invariant-loop-field g l =
    let source = g.S.Source in
    record {
      keeps : Keeps source l.fn.source l.source;
      quiet : source.faults l.source ≡ source.faults l.fn.source;
      none : IfSome (source.told l.fn.source) (λ bytes. flat_map (offset_causes_of_field bytes l.group) l.fields ≡ flat_map (offset_causes_of_field bytes l.group) (drop l.field-index l.fields));
      locations : IfSome (source.told l.fn.source) (λ bytes.
          map (λ field. field_locations bytes l.group field.name) l.fields ≡ l.lists.items ++ map (λ field. field_locations bytes l.group field.name) (drop l.field-index l.fields));
      taken : source.taken l.source + sum_by (location_bytes_of l.group) (drop l.field-index l.fields) ≤ source.taken l.fn.source + sum_by (location_bytes_of l.group) l.fields;
      count : length l.lists.items ≡ l.field-index;
      shaped : list_all (λ list. has_shape list l.group.num_rows) l.lists.items ≡ true;
    }
