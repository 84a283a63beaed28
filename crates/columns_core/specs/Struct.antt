-- The columns of a struct.
use Rattle.std.specs.Prelude.{◌≡◌, Bool, List, map, Option, Some}
use Rattle.columns_core.specs.Array.{cells, data_type_of}
use Rattle.columns_core.specs.Chunk.{AreEqualLengths}
use Rattle.columns_core.specs.Column.{masked, FitsMask}
use Rattle.columns_core.specs.declared.array.Array.{Array}
use Rattle.columns_core.specs.declared.cell.Cell.{Cell}
use Rattle.columns_core.specs.declared.data_type.DataType.{DataType}
use Rattle.columns_core.specs.Nested.{field_types, rows}

-- the cells of a struct, row by row, where the mask leaves them
abbrev pub structs : List Array → Option (List Bool) → List (Option (List Cell))
structs columns mask = masked (rows (map cells columns)) mask

-- There is a column, all are equally long, each has the type of its field, and the mask has a place for each row.
pub record AreColumnsOf (data_type : DataType) (columns : List Array) (mask : Option (List Bool)) : Type 0 where
  pub types : field_types data_type ≡ Some (map data_type_of columns)
  pub lengths : AreEqualLengths columns
  pub fits : FitsMask (rows (map cells columns)) mask
