-- Items of values, and their bytes. (Laws of arrays as items: impls cite them, so they stand here.)
use Rattle.std.specs.Prelude.{◌≡◌, Bool, List, [], ◌∷◌, Option, Some, None, refl, map, option_map}
use Rattle.std.specs.List.{flat_map}
use Rattle.std.proofs.Common.{ap, ◌∙◌}
use Rattle.columns_core.specs.Column.{cell_of}
use Rattle.columns_core.specs.declared.cell.Cell.{Cell}
use Rattle.columns_core.specs.declared.data_type.DataType.{DataType}
use Rattle.parquet_meta.specs.declared.metadata.PhysicalType.{PhysicalType}
use Rattle.parquet_meta.specs.declared.metadata.PhysicalType.TheVariants as types
use Rattle.parquet_page.specs.Stored.{Stored}
use Rattle.parquet_plain.specs.Bodies.{values_bytes}
use Rattle.parquet_plain.specs.Columns.{end_bytes}
use Rattle.put_program.specs.Stored.{stored_cell}
use Rattle.put_program.specs.Typed.{AreStored, StoresValues}

-- ---- values one behind another

pub joined_i32 : (values : List Stored) → values_bytes types.Int32 values ≡ flat_map (end_bytes types.Int32) values
unfolding values_bytes
joined_i32 values = refl

pub joined_i64 : (values : List Stored) → values_bytes types.Int64 values ≡ flat_map (end_bytes types.Int64) values
unfolding values_bytes
joined_i64 values = refl

pub joined_fixed : (values : List Stored) → values_bytes (types.FixedLenByteArray 16) values ≡ flat_map (end_bytes (types.FixedLenByteArray 16)) values
unfolding values_bytes
joined_fixed values = refl

-- ---- items of values

pub of_values : {T : Type 0} (cell : T → Cell) (stored : T → Stored) {data_type : DataType} {type_ : PhysicalType} {at_most : Stored → Stored → Bool} → StoresValues data_type type_ at_most cell stored →
    (items : List (Option T)) → AreStored data_type (map (cell_of cell) items) type_ at_most (map (option_map stored) items)
of_values {T = T} cell stored {data_type = data_type} stores items = record { physical = stores.physical; order = stores.order; same = each-same items }
  where
    each-same : (some : List (Option T)) → map (stored_cell data_type) (map (cell_of cell) some) ≡ map (option_map stored) some
    each-same [] = refl
    each-same (None ∷ some) = ap (λ (rest : List (Option Stored)). None ∷ rest) (each-same some)
    each-same (Some value ∷ some) = ap (λ (item : Option Stored). item ∷ map (stored_cell data_type) (map (cell_of cell) some)) (stores.each value) ∙ ap (λ (rest : List (Option Stored)). Some (stored value) ∷ rest) (each-same some)
