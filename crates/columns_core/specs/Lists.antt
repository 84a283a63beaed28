-- The items of list and map arrays.
use Rattle.std.specs.Prelude.{◌≡◌, ℕ, Bool, List, Option, Some}
use Rattle.columns_core.specs.Array.{cells, data_type_of}
use Rattle.columns_core.specs.Joined.{joined_strings, FitTogether}
use Rattle.columns_core.specs.declared.array.Array.{Array}
use Rattle.columns_core.specs.declared.cell.Cell.{Cell}
use Rattle.columns_core.specs.declared.data_type.DataType.{DataType}

-- the cells of each list, where the mask leaves it
abbrev pub lists : List ℕ → Array → Option (List Bool) → List (Option (List Cell))
lists places items mask = joined_strings places (cells items) mask

-- the items have the type that is named, the last list ends within them, and the mask has a place for each list
abbrev pub AreLists : Option DataType → List ℕ → Array → Option (List Bool) → Type 0
AreLists item places items mask = (item ≡ Some (data_type_of items)) × FitTogether places (cells items) mask
