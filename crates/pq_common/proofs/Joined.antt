-- Pieces with a separator between them, one after another.
use Rattle.std.proofs.Common.{◌≡◌, List, [], ◌∷◌, ◌++◌, map, refl, ◌∙◌, ap, ℕ}
use Rattle.std.specs.List.{join_by, flat_map}

join_by-map : {X Y : Type 0} (view : X → Y) (f : Y → List ℕ) (sep : List ℕ) (xs : List X) → flat_map (λ y. sep ++ f y) (map view xs) ≡ flat_map (λ x. sep ++ f (view x)) xs
join_by-map view f sep [] = refl
join_by-map view f sep (x ∷ xs) = ap (λ rest. sep ++ f (view x) ++ rest) (join_by-map view f sep xs)

-- the first piece, and the others each behind the separator
pub first_of_joined : {X Y : Type 0} (view : X → Y) (f : Y → List ℕ) (sep : List ℕ) (all rest : List X) (first : X) → all ≡ first ∷ rest
    → join_by f sep (map view all) ≡ f (view first) ++ flat_map (λ x. sep ++ f (view x)) rest
first_of_joined view f sep all rest first is = ap (λ all. join_by f sep (map view all)) is ∙ ap (λ others. f (view first) ++ others) (join_by-map view f sep rest)
