-- Bounds of items are their least and greatest, and those of two lists are found from the bounds of each.
use Rattle.std.proofs.Common.{◌≡◌, Bool, true, false, cond, List, [], ◌∷◌, ◌++◌, Some, None, refl, sym, ap, ◌∙◌, append-nil}
use Rattle.std.specs.Prelude.{All}
use Rattle.std.proofs.lemmas.List.Elements.{All-head, All-tail}
use Rattle.parquet_meta.specs.declared.metadata.PhysicalType.{PhysicalType}
use Rattle.parquet_page.specs.Stored.{Stored}
use Rattle.parquet_plain.specs.Bounds.{Bounds, bounds_after, joined_bounds, stored_bounds, with_item}
use Rattle.parquet_plain.specs.Columns.{ends_of, first_of, greatest, last_of, least}
use Rattle.parquet_plain.specs.Orders.{IsOrder}
use Rattle.parquet_plain.proofs.OrderLemmas.{first-is, last-is}

bounds-some : (at_most : Stored → Stored → Bool) (low high : Stored) (items : List Stored) →
    bounds_after at_most (Some (low, high)) items ≡ Some (least at_most low items, greatest at_most high items)
bounds-some at_most low high [] = refl
bounds-some at_most low high (item ∷ items) = bounds-some at_most (first_of at_most low item) (last_of at_most high item) items

-- the ends of items are those of their bounds
pub ends-are : (type : PhysicalType) (at_most : Stored → Stored → Bool) (items : List Stored) →
    stored_bounds type (bounds_after at_most None items) ≡ ends_of type at_most items
ends-are type at_most [] = refl
ends-are type at_most (item ∷ items) = ap (stored_bounds type) (bounds-some at_most item item items)

pub bounds-append : (at_most : Stored → Stored → Bool) (bounds : Bounds) (xs ys : List Stored) →
    bounds_after at_most bounds (xs ++ ys) ≡ bounds_after at_most (bounds_after at_most bounds xs) ys
bounds-append at_most bounds [] ys = refl
bounds-append at_most bounds (x ∷ xs) ys = bounds-append at_most (Some (with_item at_most bounds x)) xs ys

-- one item is a list of its own
pub joined-one : (at_most : Stored → Stored → Bool) (bounds : Bounds) (item : Stored) →
    joined_bounds at_most bounds (Some (item, item)) ≡ bounds_after at_most bounds (item ∷ [])
joined-one at_most None item = refl
joined-one at_most (Some bounds) item = refl

-- ---- two lists

module _ (P : Stored → Type 0) (at_most : Stored → Stored → Bool) (order : IsOrder P at_most) where
  not_through : (a b c : Stored) → P a → P b → P c → at_most a b ≡ false → at_most b c ≡ false → at_most a c ≡ false
  not_through a b c pa pb pc first second = by_test (at_most a c) refl
    where
      by_test : (t : Bool) → at_most a c ≡ t → t ≡ false
      by_test false e = refl
      by_test true e = sym (order.through a c b pa pc pb e (order.total b c pb pc second)) ∙ first

  first-first : (a b c : Stored) → P a → P b → P c → first_of at_most (first_of at_most a b) c ≡ first_of at_most a (first_of at_most b c)
  first-first a b c pa pb pc = by_tests (at_most a b) (at_most b c) refl refl
    where
      by_tests : (s t : Bool) → at_most a b ≡ s → at_most b c ≡ t → first_of at_most (cond s a b) c ≡ first_of at_most a (cond t b c)
      by_tests true true e k =
          ap (λ (u : Bool). cond u a c) (order.through a b c pa pb pc e k) ∙ sym (ap (λ (u : Bool). cond u a b) e)
      by_tests true false e k = refl
      by_tests false true e k = ap (λ (u : Bool). cond u b c) k ∙ sym (ap (λ (u : Bool). cond u a b) e)
      by_tests false false e k =
          ap (λ (u : Bool). cond u b c) k ∙ sym (ap (λ (u : Bool). cond u a c) (not_through a b c pa pb pc e k))

  last-last : (a b c : Stored) → P a → P b → P c → last_of at_most (last_of at_most a b) c ≡ last_of at_most a (last_of at_most b c)
  last-last a b c pa pb pc = by_tests (at_most a b) (at_most b c) refl refl
    where
      by_tests : (s t : Bool) → at_most a b ≡ s → at_most b c ≡ t → last_of at_most (cond s b a) c ≡ last_of at_most a (cond t c b)
      by_tests true true e k =
          ap (λ (u : Bool). cond u c b) k ∙ sym (ap (λ (u : Bool). cond u c a) (order.through a b c pa pb pc e k))
      by_tests true false e k = ap (λ (u : Bool). cond u c b) k ∙ sym (ap (λ (u : Bool). cond u b a) e)
      by_tests false true e k = refl
      by_tests false false e k =
          ap (λ (u : Bool). cond u c a) (not_through a b c pa pb pc e k) ∙ sym (ap (λ (u : Bool). cond u b a) e)

  least-first : (m y : Stored) (ys : List Stored) → P m → P y → All P ys → least at_most (first_of at_most m y) ys ≡ first_of at_most m (least at_most y ys)
  least-first m y [] pm py all = refl
  least-first m y (z ∷ zs) pm py all =
      let pz : P z = All-head P z zs all in
      ap (λ (s : Stored). least at_most s zs) (first-first m y z pm py pz)
      ∙ least-first m (first_of at_most y z) zs pm (first-is P at_most order y z py pz).0 (All-tail P z zs all)

  greatest-last : (m y : Stored) (ys : List Stored) → P m → P y → All P ys → greatest at_most (last_of at_most m y) ys ≡ last_of at_most m (greatest at_most y ys)
  greatest-last m y [] pm py all = refl
  greatest-last m y (z ∷ zs) pm py all =
      let pz : P z = All-head P z zs all in
      ap (λ (s : Stored). greatest at_most s zs) (last-last m y z pm py pz)
      ∙ greatest-last m (last_of at_most y z) zs pm (last-is P at_most order y z py pz).0 (All-tail P z zs all)

  least-append : (m : Stored) (xs : List Stored) (y : Stored) (ys : List Stored) → P m → All P xs → P y → All P ys →
      least at_most m (xs ++ (y ∷ ys)) ≡ first_of at_most (least at_most m xs) (least at_most y ys)
  least-append m [] y ys pm all py others = least-first m y ys pm py others
  least-append m (x ∷ xs) y ys pm all py others =
      least-append (first_of at_most m x) xs y ys (first-is P at_most order m x pm (All-head P x xs all)).0 (All-tail P x xs all) py others

  greatest-append : (m : Stored) (xs : List Stored) (y : Stored) (ys : List Stored) → P m → All P xs → P y → All P ys →
      greatest at_most m (xs ++ (y ∷ ys)) ≡ last_of at_most (greatest at_most m xs) (greatest at_most y ys)
  greatest-append m [] y ys pm all py others = greatest-last m y ys pm py others
  greatest-append m (x ∷ xs) y ys pm all py others =
      greatest-append (last_of at_most m x) xs y ys (last-is P at_most order m x pm (All-head P x xs all)).0 (All-tail P x xs all) py others

  -- the bounds of two lists, from those of each
  pub bounds-joined : (xs ys : List Stored) → All P xs → All P ys →
      bounds_after at_most None (xs ++ ys) ≡ joined_bounds at_most (bounds_after at_most None xs) (bounds_after at_most None ys)
  bounds-joined [] ys all others = refl
  bounds-joined (x ∷ xs) [] all others =
      ap (bounds_after at_most None) (append-nil (x ∷ xs)) ∙ bounds-some at_most x x xs
      ∙ sym (ap (λ (b : Bounds). joined_bounds at_most b None) (bounds-some at_most x x xs))
  bounds-joined (x ∷ xs) (y ∷ ys) all others =
      let px : P x = All-head P x xs all in
      let py : P y = All-head P y ys others in
      let low : Stored = first_of at_most (least at_most x xs) (least at_most y ys) in
      bounds-some at_most x x (xs ++ (y ∷ ys))
      ∙ ap (λ (l : Stored). Some (l, greatest at_most x (xs ++ (y ∷ ys)))) (least-append x xs y ys px (All-tail P x xs all) py (All-tail P y ys others))
      ∙ ap (λ (g : Stored). Some (low, g)) (greatest-append x xs y ys px (All-tail P x xs all) py (All-tail P y ys others))
      ∙ sym (ap (λ (b : Bounds). joined_bounds at_most b (bounds_after at_most None (y ∷ ys))) (bounds-some at_most x x xs)
      ∙ ap (joined_bounds at_most (Some (least at_most x xs, greatest at_most x xs))) (bounds-some at_most y y ys))
