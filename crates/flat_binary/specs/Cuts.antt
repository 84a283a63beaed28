-- The cells of a column, whatever chunk size it is read by.
use Rattle.std.specs.Prelude.{◌≡◌, ℕ, List, Option, flat_map}
use Rattle.columns_core.specs.Array.{cells}
use Rattle.columns_core.specs.declared.array.Array.{Array}
use Rattle.columns_core.specs.declared.cell.Cell.{Cell}
use Rattle.page_decoding.specs.Queue.{IsChunkSize}
use Rattle.flat_values.specs.ColumnLeft.{ColumnLeft}
use Rattle.flat_binary.specs.Collected.{AreCollected}

-- the cells of all arrays, joined
abbrev pub joined_cells : List Array → List Cell
joined_cells arrays = flat_map cells arrays

-- All arrays of a column, and all arrays of the same column by another chunk size, have the same cells.
abbrev pub HasSameCells : Type 0
HasSameCells = (left : ColumnLeft) (size : Option ℕ) (arrays others : List Array) → IsChunkSize left.size → IsChunkSize size
    → AreCollected left arrays → AreCollected (record left { size = size }) others → joined_cells arrays ≡ joined_cells others
