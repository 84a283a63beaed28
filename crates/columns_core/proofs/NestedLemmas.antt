-- Cells of lists and of structs.
use Rattle.std.proofs.Common.{◌≡◌, ℕ, zero, suc, ◌<◌, ◌≤◌, Bool, true, false, List, [], ◌∷◌, length, get_or, map, refl, sym, ap, ◌∙◌, arith, All}
use Rattle.std.specs.Prelude.{slice_get, Option, Some, None, option_map, if◌then◌else◌}
use denote.Hole.Carrier
use Rattle.columns_core.specs.declared.cell.Cell.TheViews as cell_views
use Rattle.columns_core.specs.declared.data_type.DataType.TheViews as type_views
use Rattle.std.proofs.lemmas.List.{length-map}
use Rattle.std.proofs.lemmas.List.FromFn.{length-map-range_with_len, get_or-map-range_with_len}
use Rattle.std.proofs.lemmas.Option.{slice_get-map, slice_get-get_or, get_or_from_slice_get}
use Rattle.columns_core.specs.Array.{cells, data_type_of}
use Rattle.columns_core.specs.Chunk.{array_rows, AreEqualLengths}
use Rattle.columns_core.specs.Column.{cell_of, FitsMask}
use Rattle.columns_core.specs.Depth.{depth, largest}
use Rattle.columns_core.specs.Masks.{is_there}
use Rattle.columns_core.specs.Nested.{field_types, field_types_at, row_at, first_length, rows}
use Rattle.columns_core.specs.Struct.{structs}
use Rattle.columns_core.specs.declared.array.Array.{Array}
use Rattle.columns_core.specs.declared.cell.Cell.{Cell, Null, Cells, out-Cell, out-roll-Cell}
use Rattle.columns_core.specs.declared.cell.Cell.TheOpen.{Cell-F}
use Rattle.columns_core.specs.declared.cell.Cell.TheVariants.{rolls-Cells}
use Rattle.columns_core.specs.declared.data_type.DataType.{DataType, Struct, out-DataType, out-roll-DataType}
use Rattle.columns_core.specs.declared.data_type.DataType.TheOpen.{DataType-F}
use Rattle.columns_core.specs.declared.data_type.DataType.TheVariants.{rolls-Struct}
use Rattle.columns_core.specs.declared.data_type.Field.{Field}
use Rattle.columns_core.proofs.Masked.{length-masked}
use Rattle.columns_core.proofs.JoinedLemmas.{get-masked}

-- an item that is there, and one that is not
module _ (items : List (Option (List Cell))) (i : ℕ) (there : Bool) (x : List Cell) (e : slice_get items i ≡ Some (if there then Some x else None)) where
  pub cells_at : there ≡ true → slice_get (map (cell_of Cells) items) i ≡ Some (Cells x)
  cells_at t = slice_get-map (cell_of Cells) items i ∙ ap (option_map (cell_of Cells)) (e ∙ ap (λ b. Some (if b then Some x else None)) t)

  pub null_at : there ≡ false → slice_get (map (cell_of Cells) items) i ≡ Some Null
  null_at t = slice_get-map (cell_of Cells) items i ∙ ap (option_map (cell_of Cells)) (e ∙ ap (λ b. Some (if b then Some x else None)) t)

-- ---- structs

pub count-rows : (columns : List Array) → first_length (map cells columns) ≡ array_rows columns
count-rows [] = refl
count-rows (column ∷ columns) = refl

pub length-rows : (columns : List Array) → length (rows (map cells columns)) ≡ array_rows columns
length-rows columns = length-map-range_with_len (row_at (map cells columns)) 0 (first_length (map cells columns)) ∙ count-rows columns

pub length-structs : (columns : List Array) (mask : Option (List Bool)) → FitsMask (rows (map cells columns)) mask → length (structs columns mask) ≡ array_rows columns
length-structs columns mask fits = length-masked (rows (map cells columns)) mask fits ∙ length-rows columns

pub get-structs : (columns : List Array) (mask : Option (List Bool)) (i : ℕ) → FitsMask (rows (map cells columns)) mask → i < array_rows columns
    → slice_get (structs columns mask) i ≡ Some (if is_there mask i then Some (row_at (map cells columns) i) else None)
get-structs columns mask i fits h =
    let long = length-rows columns in
    let here : i < first_length (map cells columns) = omega (arith, count-rows columns) in
    get-masked (rows (map cells columns)) mask i [] fits (omega (arith, long))
    ∙ ap (λ row. Some (if is_there mask i then Some row else None)) (get_or-map-range_with_len (row_at (map cells columns)) 0 (first_length (map cells columns)) i i [] here (omega arith))

-- the place is in every column
pub in_each : (columns : List Array) (i : ℕ) → AreEqualLengths columns → i < array_rows columns → All (λ column. i < length (cells column)) columns
in_each columns i equal h k d within = omega (arith, equal.1 k d within)

pub length-row_at : (columns : List Array) (i : ℕ) → length (row_at (map cells columns) i) ≡ length columns
length-row_at columns i = length-map (map cells columns) (λ column. get_or column i Null) ∙ length-map columns cells

-- the cell of one column
pub cell_across : (columns : List Array) (column : Array) (i k : ℕ) (cell : Cell) → k < length columns → column ≡ get_or columns k column → slice_get (cells column) i ≡ Some cell
    → slice_get (row_at (map cells columns) i) k ≡ Some cell
cell_across columns column i k cell h is e =
    slice_get-map (λ column. get_or column i Null) (map cells columns) k
    ∙ ap (option_map (λ column. get_or column i Null)) (slice_get-map cells columns k ∙ ap (option_map cells) (slice_get-get_or columns k column h ∙ ap Some (sym is)))
    ∙ ap Some (get_or_from_slice_get (cells column) i cell Null e)

depth_within : (columns : List Array) (d : Array) (k : ℕ) → k < length columns → depth (data_type_of (get_or columns k d)) ≤ largest (map depth (map data_type_of columns))
depth_within [] d k h = absurd (omega arith)
depth_within (column ∷ columns) d zero h = omega arith
depth_within (column ∷ columns) d (suc k) h = omega (arith, depth_within columns d k (omega arith))

-- none is deeper than all of them
pub depth_in : (columns : List Array) (column : Array) (k : ℕ) → k < length columns → column ≡ get_or columns k column → depth (data_type_of column) ≤ largest (map depth (map data_type_of columns))
depth_in columns column k h is = omega (arith, depth_within columns column k h, ap (λ c. depth (data_type_of c)) is)

abbrev inside_at : Cell-F Cell → List Cell
inside_at (Cell-F.Cells cells) = cells
inside_at _ = []

out_cells : (inside : List Cell) → out-Cell (Cells inside) ≡ Cell-F.Cells inside
unfolding Rattle.columns_core.specs.declared.cell.Cell.TheViews.roll-Cell out-Cell denote.Hole.Carrier.roll
out_cells inside = ap out-Cell (rolls-Cells inside) ∙ out-roll-Cell (Cell-F.Cells inside)

-- equal cells have equal cells inside
pub same_inside : (a b : List Cell) → Cells a ≡ Cells b → a ≡ b
same_inside a b e = sym (ap inside_at (out_cells a)) ∙ ap (λ cell. inside_at (out-Cell cell)) e ∙ ap inside_at (out_cells b)

pub some_same : {X : Type 0} (a b : X) → Some a ≡ Some b → a ≡ b
some_same a b e = cc

pub types_of_struct : (fields : List Field) → field_types (Struct fields) ≡ Some (map (λ (field : Field). field.data_type) fields)
unfolding Rattle.columns_core.specs.declared.data_type.DataType.TheViews.roll-DataType out-DataType denote.Hole.Carrier.roll
types_of_struct fields = ap field_types_at (ap out-DataType (rolls-Struct fields) ∙ out-roll-DataType (DataType-F.Struct fields))
