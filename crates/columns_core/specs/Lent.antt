-- The cell that an array lends.
use Rattle.std.specs.Prelude.{ℕ, ◌+◌, ◌<◌, ◌≤◌, List, length, map, slice_range, All}
use Rattle.columns_core.specs.Array.{cells, data_type_of}
use Rattle.columns_core.specs.Depth.{depth, largest}
use Rattle.columns_core.specs.Nested.{row_at}
use Rattle.columns_core.specs.declared.cell.Cell.{Cell, Null, Bool, Int, DaysMs, Text, Bytes, Cells}
use Rattle.columns_core.specs.declared.lent.Lent.{Lent}
use Rattle.columns_core.specs.declared.lent.Lent.TheVariants as lent
use Rattle.columns_core.specs.declared.lent.Nest.{Nest}
use Rattle.columns_core.specs.declared.lent.Nest.TheVariants as nest

-- cells one behind another in an array, or one of each of some arrays
abbrev pub nest_cells : Nest → List Cell
nest_cells (nest.Along items start end) = slice_range (cells items.now) start end
nest_cells (nest.Across columns i) = row_at (map cells columns.now) i

-- they are there
abbrev pub AreThere : Nest → Type 0
AreThere (nest.Along items start end) = (start ≤ end) × (end ≤ length (cells items.now))
AreThere (nest.Across columns i) = All (λ column. i < length (cells column)) columns.now

-- how deep they may lie in one another
abbrev pub nest_depth : Nest → ℕ
nest_depth (nest.Along items start end) = depth (data_type_of items.now) + 1
nest_depth (nest.Across columns i) = largest (map depth (map data_type_of columns.now)) + 1

-- the cell itself
abbrev pub cell_lent : Lent → Cell
cell_lent lent.Null = Null
cell_lent (lent.Bool value) = Bool value
cell_lent (lent.Int value) = Int value
cell_lent (lent.DaysMs days milliseconds) = DaysMs days milliseconds
cell_lent (lent.Text text) = Text text.now
cell_lent (lent.Bytes bytes) = Bytes bytes.now
cell_lent (lent.Cells inside) = Cells (nest_cells inside)

-- what it lends is there
abbrev pub IsThere : Lent → Type 0
IsThere lent.Null = Unit {0}
IsThere (lent.Bool value) = Unit {0}
IsThere (lent.Int value) = Unit {0}
IsThere (lent.DaysMs days milliseconds) = Unit {0}
IsThere (lent.Text text) = Unit {0}
IsThere (lent.Bytes bytes) = Unit {0}
IsThere (lent.Cells inside) = AreThere inside

-- how deep its cells may lie in one another
abbrev pub lent_depth : Lent → ℕ
lent_depth lent.Null = 0
lent_depth (lent.Bool value) = 0
lent_depth (lent.Int value) = 0
lent_depth (lent.DaysMs days milliseconds) = 0
lent_depth (lent.Text text) = 0
lent_depth (lent.Bytes bytes) = 0
lent_depth (lent.Cells inside) = nest_depth inside
