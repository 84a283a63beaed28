-- What a contract sees of an array: its type and its items.
use Rattle.std.specs.Prelude.{◌≡◌, Bool, if◌then◌else◌, List, [], ◌∷◌, length, map, Option, Some, None, refl}
use Rattle.std.specs.Option.{ForSome}
use Rattle.std.specs.Coded.{Coded, code_by, coded×, coded_list, coded_option}
use Rattle.columns_core.specs.declared.data_type.DataType.{DataType}
use Rattle.columns_core.specs.declared.cell.Cell.{Cell, Null}

-- a typed list of values, some of them null
pub record Column (T : Type 0) : Type 0 where
  pub data_type : DataType
  pub items : List (Option T)

-- how a column is stored, from how its type and its values are
abbrev pub column_code : {T : Type 0} → Coded DataType → Coded T → Coded (Column T)
column_code {T} types values =
    code_by (DataType × List (Option T)) (coded× types (coded_list (coded_option values)))
    (λ c. (c.data_type, c.items)) (λ p. record { data_type = p.0; items = p.1 }) (λ _. refl)

-- values, where the mask says that they are there
abbrev pub where_set : {T : Type 0} → List T → List Bool → List (Option T)
where_set [] mask = []
where_set (value ∷ values) [] = []
where_set (value ∷ values) (set ∷ mask) = (if set then Some value else None) ∷ where_set values mask

-- all of the values, or those that the mask leaves
abbrev pub masked : {T : Type 0} → List T → Option (List Bool) → List (Option T)
masked values None = map Some values
masked values (Some mask) = where_set values mask

-- a mask has a place for each value
abbrev pub FitsMask : {T : Type 0} → List T → Option (List Bool) → Type 0
FitsMask values mask = ForSome mask (λ found. length found ≡ length values)

-- a value's cell, or null
abbrev pub cell_of : {T : Type 0} → (T → Cell) → Option T → Cell
cell_of cell None = Null
cell_of cell (Some value) = cell value

-- of this type and these items
abbrev pub as_column : {T : Type 0} → DataType → List (Option T) → Column T
as_column data_type items = record { data_type = data_type; items = items }
