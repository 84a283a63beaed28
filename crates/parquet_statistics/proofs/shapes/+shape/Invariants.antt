use Rattle.std.proofs.Common.{◌≡◌, drop, length, map}
use Rattle.std.specs.Prelude.{flat_map}
use Rattle.columns_core.specs.Array.{cells}
use Rattle.parquet_statistics.specs.LeafTypes.{leaf_types}
use Rattle.parquet_statistics.specs.Made.{made_array}
use Rattle.parquet_statistics.specs.Parts.{shaped_each, AreOfTypes}
use Rattle.parquet_statistics.proofs.ShapeSteps.{and_these}
use Rattle.parquet_statistics.proofs.shapes.+shape.Given as goal

-- the arrays of the fields so far, and what is made of the others over the columns that are left
abbrev pub invariant-shape_fields-loop-field : goal.invariant-shape_fields-loop-field
invariant-shape_fields-loop-field l = record {
  turned : AreOfTypes (flat_map (λ field. leaf_types field.data_type) l.fields) l.fn.columns.items → shaped_each (map (λ field. field.data_type) l.fields) (map cells l.fn.columns.items)
      ≡ and_these (map made_array l.arrays.items) (shaped_each (map (λ field. field.data_type) (drop l.field-index l.fields)) (map cells l.columns.items));
  leads : AreOfTypes (flat_map (λ field. leaf_types field.data_type) l.fields) l.fn.columns.items
      → AreOfTypes (flat_map (λ field. leaf_types field.data_type) (drop l.field-index l.fields)) l.columns.items;
  left : drop (length (flat_map (λ field. leaf_types field.data_type) (drop l.field-index l.fields))) l.columns.items
      ≡ drop (length (flat_map (λ field. leaf_types field.data_type) l.fields)) l.fn.columns.items;
}
