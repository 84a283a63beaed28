-- Values that were decoded, as cells.
use Rattle.std.specs.Prelude.{◌≡◌, ◌⊎◌, ℕ, zero, suc, Bool, true, false, if◌then◌else◌, List, [], ◌∷◌, ◌++◌, length, map, replicate, Option, Some, None}
use Rattle.columns_core.specs.declared.cell.Cell.{Cell}
use Rattle.columns_core.specs.Column.{cell_of}

-- values, where the mask says that they are there; behind its end all are
abbrev pub marked : {T : Type 0} → List T → List Bool → List (Option T)
marked [] mask = []
marked (value ∷ values) [] = Some value ∷ marked values []
marked (value ∷ values) (set ∷ mask) = (if set then Some value else None) ∷ marked values mask

abbrev pub marked_cells : {T : Type 0} → (T → Cell) → List T → List Bool → List Cell
marked_cells cell values mask = map (cell_of cell) (marked values mask)

-- A mask is empty, or it has a place for each value.
abbrev pub IsMaskFor : {T : Type 0} → List T → List Bool → Type 0
IsMaskFor values mask = (mask ≡ []) ⊎ (length mask ≡ length values)

-- the mask, with so many values more that are there
abbrev pub with_values : ℕ → List Bool → List Bool
with_values count [] = []
with_values count (set ∷ mask) = (set ∷ mask) ++ replicate count true

-- the mask of so many values, with so many nulls more
abbrev pub with_nulls : ℕ → ℕ → List Bool → List Bool
with_nulls held zero mask = mask
with_nulls held (suc count) [] = replicate held true ++ replicate (suc count) false
with_nulls held (suc count) (set ∷ mask) = (set ∷ mask) ++ replicate (suc count) false

-- the mask of so many values, with these places more
abbrev pub with_places : ℕ → List Bool → List Bool → List Bool
with_places held places [] = replicate held true ++ places
with_places held places (set ∷ mask) = (set ∷ mask) ++ places

-- Values are spread over the places that have one, one after another. The others stand on `null`, and so does a place without a value left.
abbrev pub spread_over : {T : Type 0} → T → List Bool → List T → List T
spread_over null [] values = []
spread_over null (false ∷ places) values = null ∷ spread_over null places values
spread_over null (true ∷ places) [] = null ∷ spread_over null places []
spread_over null (true ∷ places) (value ∷ values) = value ∷ spread_over null places values

-- An empty mask is none.
abbrev pub found_mask : List Bool → Option (List Bool)
found_mask [] = None
found_mask (set ∷ mask) = Some (set ∷ mask)
