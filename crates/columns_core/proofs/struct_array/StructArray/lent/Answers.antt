use Rattle.std.proofs.Common.{◌≡◌, ◌∙◌, ◌<◌, true, false, length, map, ap, sym, subst, arith, All}
use Rattle.std.specs.Prelude.{slice_get, Some}
use Rattle.columns_core.specs.Array.{cells, data_type_of}
use Rattle.columns_core.specs.Chunk.{array_rows}
use Rattle.columns_core.specs.Column.{Column, cell_of}
use Rattle.columns_core.specs.Depth.{depth, largest, fields_less_deep}
use Rattle.columns_core.specs.Masks.{is_there}
use Rattle.columns_core.specs.Nested.{row_at}
use Rattle.columns_core.specs.Struct.{structs}
use Rattle.columns_core.specs.declared.cell.Cell.{Cells}
use Rattle.columns_core.proofs.NestedLemmas.{cells_at, null_at, length-rows, length-structs, get-structs, in_each}
use Rattle.columns_core.proofs.struct_array.StructArray.lent.Goals as goal

pub is_there-requires : goal.is_there-requires
is_there-requires c found is =
    let s = c.self.inside in
    let long = (c.self.invariant.0).fits found (sym c.as_ref.ensures.value ∙ is) in
    omega (arith, c.requires, ap (λ (column : Column _). length column.items) c.self.view_is, length-structs s.columns s.validity (c.self.invariant.0).fits, long, length-rows s.columns)

pub returns-then-is_there-clause-cell : goal.returns-then-is_there-clause-cell
returns-then-is_there-clause-cell c =
    let s = c.self.inside in
    let i = c.args.i in
    let h : i < array_rows s.columns = omega (arith, c.requires, ap (λ (column : Column _). length column.items) c.self.view_is, length-structs s.columns s.validity (c.self.invariant.0).fits) in
    let there : is_there s.validity i ≡ true = ap (λ m. is_there m i) (sym c.as_ref.ensures.value) ∙ sym c.is_there.ensures ∙ c.if-is_there.true in
    ap (λ (column : Column _). slice_get (map (cell_of Cells) column.items) i) (sym c.self.view_is)
    ∙ cells_at (structs s.columns s.validity) i (is_there s.validity i) (row_at (map cells s.columns) i) (get-structs s.columns s.validity i (c.self.invariant.0).fits h) there
    ∙ ap (λ columns. Some (Cells (row_at (map cells columns) i))) (sym c.as_slice.ensures)

pub returns-then-is_there-clause-there : goal.returns-then-is_there-clause-there
returns-then-is_there-clause-there c =
    let s = c.self.inside in
    let i = c.args.i in
    let h : i < array_rows s.columns = omega (arith, c.requires, ap (λ (column : Column _). length column.items) c.self.view_is, length-structs s.columns s.validity (c.self.invariant.0).fits) in
    subst (λ columns. All (λ column. i < length (cells column)) columns) (sym c.as_slice.ensures) (in_each s.columns i (c.self.invariant.0).lengths h)

pub returns-then-is_there-clause-shallow : goal.returns-then-is_there-clause-shallow
returns-then-is_there-clause-shallow c =
    let s = c.self.inside in
    let falls = fields_less_deep s.data_type (map data_type_of s.columns) (c.self.invariant.0).types in
    omega (arith, falls, ap (λ columns. largest (map depth (map data_type_of columns))) c.as_slice.ensures, ap (λ (column : Column _). depth column.data_type) c.self.view_is)

pub returns-else-is_there-clause-cell : goal.returns-else-is_there-clause-cell
returns-else-is_there-clause-cell c =
    let s = c.self.inside in
    let i = c.args.i in
    let h : i < array_rows s.columns = omega (arith, c.requires, ap (λ (column : Column _). length column.items) c.self.view_is, length-structs s.columns s.validity (c.self.invariant.0).fits) in
    let there : is_there s.validity i ≡ false = ap (λ m. is_there m i) (sym c.as_ref.ensures.value) ∙ sym c.is_there.ensures ∙ c.if-is_there.false in
    ap (λ (column : Column _). slice_get (map (cell_of Cells) column.items) i) (sym c.self.view_is)
    ∙ null_at (structs s.columns s.validity) i (is_there s.validity i) (row_at (map cells s.columns) i) (get-structs s.columns s.validity i (c.self.invariant.0).fits h) there
