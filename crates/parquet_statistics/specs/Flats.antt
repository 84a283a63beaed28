-- Cells are appended to flat builders alone.
use Rattle.std.specs.Prelude.{◌≡◌, ◌++◌, [], ◌∷◌, true, IsTrue, Option, Some, None}
use Rattle.columns_core.specs.Causes.{is_invalid_argument}
use Rattle.columns_core.specs.Shown.{Shown}
use Rattle.columns_core.specs.declared.cell.Cell.{Cell}
use Rattle.columns_core.specs.declared.error.Error.{Error}
use Rattle.flat_values.specs.CellTypes.{is_cell_of}
use Rattle.flat_builders.specs.Kept.{IsRefusedCell, cells_fit}
use Rattle.parquet_statistics.specs.declared.dyn_mutable.DynMutable.{DynMutable, Flat, out-DynMutable}
use Rattle.parquet_statistics.specs.declared.dyn_mutable.DynMutable.TheOpen.{DynMutable-F}
use Rattle.parquet_statistics.specs.declared.dyn_mutable.DynMutableDictionary.{DynMutableDictionary}
use Rattle.parquet_statistics.specs.declared.dyn_mutable.DynMutableListArray.{DynMutableListArray}
use Rattle.parquet_statistics.specs.declared.dyn_mutable.DynMutableMapArray.{DynMutableMapArray}
use Rattle.parquet_statistics.specs.declared.dyn_mutable.DynMutableStructArray.{DynMutableStructArray}

-- the type and the cells of a flat builder
abbrev pub flat_at : DynMutable-F DynMutable DynMutableDictionary DynMutableListArray DynMutableMapArray DynMutableStructArray → Option Shown
flat_at (DynMutable-F.Flat builder) = Some builder
flat_at (DynMutable-F.Dictionary entries) = None
flat_at (DynMutable-F.List items) = None
flat_at (DynMutable-F.Map pairs) = None
flat_at (DynMutable-F.Struct fields) = None

abbrev pub flat_of : DynMutable → Option Shown
flat_of builder = flat_at (out-DynMutable builder)

-- a cell of the type was appended, and the bytes of all fit its offsets
pub record IsPushed (old : Shown) (cell : Cell) (new : DynMutable) : Type 0 where
  pub appended : new ≡ Flat (old.0, old.1 ++ cell ∷ [])
  pub typed : is_cell_of old.0 cell ≡ true
  pub fits : cells_fit old.0 (old.1 ++ cell ∷ []) ≡ true

-- why a cell is not appended
abbrev pub IsNotAppended : Option Shown → Cell → Error → Type 0
IsNotAppended None cell error = IsTrue (is_invalid_argument error)
IsNotAppended (Some old) cell error = IsRefusedCell (is_cell_of old.0 cell) (cells_fit old.0 (old.1 ++ cell ∷ [])) error
