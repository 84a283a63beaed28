-- Rows from one up to another.
use Rattle.std.proofs.Common.{◌≡◌, ℕ, suc, ◌+◌, ◌-◌, ◌<◌, ◌≤◌, List, [], ◌∷◌, ◌++◌, ap, ◌∙◌, arith, length, map, take, drop, get_or}
use Rattle.std.specs.List.{slice_range}
use Rattle.std.proofs.lemmas.List.{drop-drop, drop-map, drop-take, length-drop, length-take, take_all, take-map, take-take}
use Rattle.std.proofs.Math.Seq.{drop-cons, take-add}

pub length-rows : {X : Type 0} (from to : ℕ) (items : List X) → to ≤ length items → length (slice_range items from to) ≡ to - from
length-rows from to items le = omega (arith, length-drop from items, length-take (to - from) (drop from items))

pub rows-none : {X : Type 0} (at : ℕ) (items : List X) → slice_range items at at ≡ []
rows-none at items =
    let none : at - at ≡ 0 = omega arith in
    ap (λ (n : ℕ). take n (drop at items)) none

pub rows-all : {X : Type 0} (items : List X) → slice_range items 0 (length items) ≡ items
rows-all items = take_all (length items - 0) items (omega arith)

pub rows-map : {X Y : Type 0} (f : X → Y) (items : List X) (from to : ℕ) → slice_range (map f items) from to ≡ map f (slice_range items from to)
rows-map {Y = Y} f items from to = ap (take (to - from)) (drop-map f from items) ∙ take-map f (to - from) (drop from items)

-- up to a row, and from it on
pub rows-split : {X : Type 0} (items : List X) (from mid to : ℕ) → from ≤ mid → mid ≤ to → slice_range items from to ≡ slice_range items from mid ++ slice_range items mid to
rows-split {X = X} items from mid to first second =
    let many : to - from ≡ (mid - from) + (to - mid) = omega arith in
    let there : from + (mid - from) ≡ mid = omega arith in
    ap (λ (n : ℕ). take n (drop from items)) many ∙ take-add (mid - from) (to - mid) (drop from items)
    ∙ ap (λ (rest : List X). slice_range items from mid ++ take (to - mid) rest) (drop-drop (mid - from) from items ∙ ap (λ (n : ℕ). drop n items) there)

-- the first of them, and those behind it
pub rows-first : {X : Type 0} (items : List X) (d : X) (from to : ℕ) → from < to → from < length items → slice_range items from to ≡ get_or items from d ∷ slice_range items (suc from) to
rows-first {X = X} items d from to lt within =
    let many : to - from ≡ suc (to - suc from) = omega arith in
    ap (λ (n : ℕ). take n (drop from items)) many ∙ ap (take (suc (to - suc from))) (drop-cons items from d within)

-- one row more
pub rows-last : {X : Type 0} (items : List X) (d : X) (from to : ℕ) → from ≤ to → to < length items → slice_range items from (to + 1) ≡ slice_range items from to ++ get_or items to d ∷ []
rows-last {X = X} items d from to le within =
    let one : slice_range items to (to + 1) ≡ get_or items to d ∷ [] =
    rows-first items d to (to + 1) (omega arith) within ∙ ap (λ (n : ℕ). get_or items to d ∷ take n (drop (suc to) items)) (none to) in
    rows-split items from to (to + 1) le (omega arith) ∙ ap (λ (rest : List X). slice_range items from to ++ rest) one
  where
    none : (n : ℕ) → n + 1 - suc n ≡ 0
    none n = omega arith

-- rows of rows
pub rows-within : {X : Type 0} (items : List X) (from to first last : ℕ) → from ≤ first → first ≤ last → last ≤ to →
    slice_range (slice_range items from to) (first - from) (last - from) ≡ slice_range items first last
rows-within {X = X} items from to first last a b d =
    let many : to - from ≡ (first - from) + (to - first) = omega arith in
    let own : last - from - (first - from) ≡ last - first = omega arith in
    let there : from + (first - from) ≡ first = omega arith in
    ap (λ (n : ℕ). take n (drop (first - from) (slice_range items from to))) own
    ∙ ap (λ (n : ℕ). take (last - first) (drop (first - from) (take n (drop from items)))) many
    ∙ ap (take (last - first)) (drop-take (first - from) (to - first) (drop from items))
    ∙ take-take (last - first) (to - first) (drop (first - from) (drop from items)) (omega arith)
    ∙ ap (take (last - first)) (drop-drop (first - from) from items ∙ ap (λ (n : ℕ). drop n items) there)
