-- Arrays of columns that are put together to chunks.
use Rattle.std.specs.Prelude.{ℕ, zero, suc, List, [], ◌∷◌, length, map, flat_map, take, drop}

-- the first items of all lists, then the second ones, and so on, so many times
abbrev pub turned : {A : Type 0} → ℕ → List (List A) → List (List A)
turned zero lists = []
turned (suc more) lists = flat_map (take 1) lists ∷ turned more (map (drop 1) lists)

-- as many times as the first list has items
abbrev pub side_by_side : {A : Type 0} → List (List A) → List (List A)
side_by_side [] = []
side_by_side (first ∷ others) = turned (length first) (first ∷ others)
