-- Lines one after another.
use Rattle.std.proofs.Common.{◌≡◌, ℕ, ◌+◌, ◌<◌, List, ◌++◌, length, map, drop, get_or, sym, ◌∙◌, ap}
use Rattle.std.specs.Prelude.{IfNone, Option, Some, None}
use Rattle.std.specs.List.{flat_map, enumerate_from}
use Rattle.std.proofs.lemmas.List.{at_drop_more}

pub if_none : {P : Type 0} {X : Type 0} (o : Option X) → P → IfNone o P
if_none None p = p
if_none (Some x) p = tt

-- the line of the next item with its number, and those of the items behind it
pub numbered_left : {X Y : Type 0} (f : ℕ × Y → List ℕ) (view : X → Y) (xs : List X) (i : ℕ) (x : X) → i < length xs → x ≡ get_or xs i x
    → flat_map f (enumerate_from i (map view (drop i xs))) ≡ f (i, view x) ++ flat_map f (enumerate_from (i + 1) (map view (drop (i + 1) xs)))
numbered_left f view xs i x within is =
    at_drop_more (λ left. flat_map f (enumerate_from i (map view left))) xs i x within
    ∙ ap (λ x. f (i, view x) ++ flat_map f (enumerate_from (i + 1) (map view (drop (i + 1) xs)))) (sym is)

-- the lines of the next item, and those of the items behind it
pub mapped_left : {X Y : Type 0} (f : Y → List ℕ) (view : X → Y) (xs : List X) (i : ℕ) (x : X) → i < length xs → x ≡ get_or xs i x
    → flat_map f (map view (drop i xs)) ≡ f (view x) ++ flat_map f (map view (drop (i + 1) xs))
mapped_left f view xs i x within is =
    at_drop_more (λ left. flat_map f (map view left)) xs i x within ∙ ap (λ x. f (view x) ++ flat_map f (map view (drop (i + 1) xs))) (sym is)
