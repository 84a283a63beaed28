-- Items a row at a time: which are null, and what their bounds are.
use Rattle.std.proofs.Common.{◌≡◌, ℕ, suc, ◌+◌, ◌-◌, ◌<◌, ◌≤◌, Bool, true, false, cond, List, [], ◌∷◌, ◌++◌, Option, Some, None, refl, sym, ap, subst, ◌∙◌, arith, length, drop, map, get_or, unwrap_or, append-nil}
use Rattle.std.specs.Prelude.{All, Contains, is_none, is_some, slice_get, IfSome, IsSome}
use Rattle.std.specs.List.{slice_range}
use Rattle.std.specs.Option.{option_and_then}
use Rattle.std.proofs.lemmas.List.Elements.{All-contains_itself, All-weaker, Contains-append_left, Contains-append_right, filter_map-append}
use Rattle.std.proofs.lemmas.List.Folds.{drop_split}
use Rattle.std.proofs.lemmas.List.Sums.{sum_by-append}
use Rattle.std.proofs.lemmas.Option.{unwrap_or-slice_get}
use Rattle.parquet_page.specs.Stored.{Stored}
use Rattle.parquet_plain.specs.Bodies.{present}
use Rattle.parquet_plain.specs.Bounds.{Bounds, bounds_after, joined_bounds}
use Rattle.parquet_plain.specs.Columns.{first_of, last_of, nulls_of}
use Rattle.parquet_plain.specs.Orders.{IsOrder}
use Rattle.parquet_plain.proofs.BoundLemmas.{bounds-append, bounds-joined, joined-one}
use Rattle.parquet_plain.proofs.RowLemmas.{rows-first, rows-last, rows-map, rows-none, rows-split}
use Rattle.parquet_write.specs.Items.{AreBothThere, FindsBounds, bounds_by_rows, row_of}
use Rattle.parquet_write.specs.declared.bounds.RowBounds.{RowBounds}

-- ---- rows

pub row-is : (items : List (Option Stored)) (row : ℕ) → get_or items row None ≡ row_of items row
row-is items row = sym (unwrap_or-slice_get items row None) ∙ by_case (slice_get items row)
  where
    by_case : (o : Option (Option Stored)) → unwrap_or o None ≡ option_and_then (λ item. item) o
    by_case None = refl
    by_case (Some item) = refl

-- one row more
row-last : (items : List (Option Stored)) (from row : ℕ) (item : Option Stored) → from ≤ row → row < length items → row_of items row ≡ item →
    slice_range items from (row + 1) ≡ slice_range items from row ++ item ∷ []
row-last items from row item le lt own =
    rows-last items None from row le lt ∙ ap (λ (i : Option Stored). slice_range items from row ++ i ∷ []) (row-is items row ∙ own)

some_item : (o : Option Stored) → IsSome o → (item : Stored) × (o ≡ Some item)
some_item None some = absurd cc
some_item (Some item) some = (item, refl)

none_item : (o : Option Stored) → is_some o ≡ false → o ≡ None
none_item None none = refl
none_item (Some item) none = absurd cc

-- the first level, and those behind it
pub levels-first : (items : List (Option Stored)) (now row to : ℕ) → row ≡ suc now → now < to → now < length items →
    slice_range (map is_some items) now to ≡ is_some (row_of items now) ∷ slice_range (map is_some items) row to
levels-first items now row to e lt within =
    rows-map is_some items now to ∙ ap (map is_some) (rows-first items None now to lt within)
    ∙ ap (λ (item : Option Stored). is_some item ∷ map is_some (slice_range items (suc now) to)) (row-is items now)
    ∙ ap (λ (bs : List Bool). is_some (row_of items now) ∷ bs) (sym (rows-map is_some items (suc now) to))
    ∙ ap (λ (n : ℕ). is_some (row_of items now) ∷ slice_range (map is_some items) n to) (sym e)

if_some : (o : Option Stored) (P : Stored → Type 0) → IsSome o → IfSome o P → (item : Stored) × (o ≡ Some item) × P item
if_some None P some p = absurd cc
if_some (Some item) P some p = (item, refl, p)

-- ---- nulls

nulls-append : (xs ys : List (Option Stored)) → nulls_of (xs ++ ys) ≡ nulls_of xs + nulls_of ys
nulls-append xs ys = sum_by-append (λ (item : Option Stored). cond (is_none item) 1 0) xs ys

-- up to a row, and from it on
pub nulls-split : (items : List (Option Stored)) (mid to : ℕ) → mid ≤ to → nulls_of (slice_range items 0 to) ≡ nulls_of (slice_range items 0 mid) + nulls_of (slice_range items mid to)
nulls-split items mid to le = ap nulls_of (rows-split items 0 mid to (omega arith) le) ∙ nulls-append (slice_range items 0 mid) (slice_range items mid to)

-- how many of the rows from one on are null
pub record AreNulls (items : List (Option Stored)) (from nulls row : ℕ) : Type 0 where
  pub few : nulls ≤ row - from
  pub same : nulls ≡ nulls_of (slice_range items from row)

pub nulls_begin : (items : List (Option Stored)) (from : ℕ) → AreNulls items from 0 from
nulls_begin items from = record { few = omega arith; same = ap nulls_of (sym (rows-none from items)) }

pub nulls_go_on : (items : List (Option Stored)) (from nulls row next : ℕ) (there : Bool) → from ≤ row → row < length items → there ≡ is_some (row_of items row) →
    next ≡ nulls + cond there 0 1 → AreNulls items from nulls row → AreNulls items from next (row + 1)
nulls_go_on items from nulls row next there le lt own e are =
    record { few = omega (arith, are.few, at_most there, e); same = e ∙ ap (λ (n : ℕ). n + cond there 0 1) are.same ∙ sym whole }
  where
    at_most : (b : Bool) → cond b 0 1 ≤ 1
    at_most true = omega arith
    at_most false = omega arith

    one : (item : Option Stored) (b : Bool) → b ≡ is_some item → nulls_of (item ∷ []) ≡ cond b 0 1
    one None b e = ap (λ (t : Bool). cond t 0 1) (sym e)
    one (Some item) b e = ap (λ (t : Bool). cond t 0 1) (sym e)

    whole : nulls_of (slice_range items from (row + 1)) ≡ nulls_of (slice_range items from row) + cond there 0 1
    whole = ap nulls_of (row-last items from row (row_of items row) le lt refl) ∙ nulls-append (slice_range items from row) (row_of items row ∷ [])
        ∙ ap (λ (n : ℕ). nulls_of (slice_range items from row) + n) (one (row_of items row) there own)

-- ---- bounds

-- bounds of rows that are there are bounds
pub both_there : (items : List (Option Stored)) (rows : RowBounds) (low high : Stored) → row_of items rows.least ≡ Some low → row_of items rows.greatest ≡ Some high →
    bounds_by_rows items (Some rows) ≡ Some (low, high)
both_there items rows low high first second = rw (first, second) refl

pub finds_none : (at_most : Stored → Stored → Bool) (items : List (Option Stored)) (from : ℕ) → FindsBounds at_most items (slice_range items from from) None
finds_none at_most items from = record { there = tt; same = ap (λ (rows : List (Option Stored)). bounds_after at_most None (present rows)) (sym (rows-none from items)) }

pub finds_null : (at_most : Stored → Stored → Bool) (items : List (Option Stored)) (from row : ℕ) (found : Option RowBounds) → from ≤ row → row < length items → is_some (row_of items row) ≡ false →
    FindsBounds at_most items (slice_range items from row) found → FindsBounds at_most items (slice_range items from (row + 1)) found
finds_null at_most items from row found le lt none is =
    let more : present (slice_range items from (row + 1)) ≡ present (slice_range items from row) =
    ap present (row-last items from row None le lt (none_item (row_of items row) none)) ∙ filter_map-append (λ (item : Option Stored). item) (slice_range items from row) (None ∷ []) ∙ append-nil _ in
    record { there = is.there; same = is.same ∙ ap (bounds_after at_most None) (sym more) }

pub finds_more : (at_most : Stored → Stored → Bool) (items : List (Option Stored)) (from row : ℕ) (found next : Option RowBounds) → from ≤ row → row < length items → IsSome (row_of items row) →
    AreBothThere items next → bounds_by_rows items next ≡ joined_bounds at_most (bounds_by_rows items found) (bounds_by_rows items (Some (record { least = row; greatest = row }))) →
    FindsBounds at_most items (slice_range items from row) found → FindsBounds at_most items (slice_range items from (row + 1)) next
finds_more at_most items from row found next le lt some there both is =
    let item : Stored = (some_item (row_of items row) some).0 in
    let own : row_of items row ≡ Some item = (some_item (row_of items row) some).1 in
    let rows : List (Option Stored) = slice_range items from row in
    let more : present (slice_range items from (row + 1)) ≡ present rows ++ item ∷ [] =
    ap present (row-last items from row (Some item) le lt own) ∙ filter_map-append (λ (i : Option Stored). i) rows (Some item ∷ []) in
    record {
      there = there;
      same = both ∙ ap (λ (b : Bounds). joined_bounds at_most b (bounds_by_rows items (Some (record { least = row; greatest = row })))) is.same
          ∙ ap (joined_bounds at_most (bounds_after at_most None (present rows))) (both_there items (record { least = row; greatest = row }) item item own own)
          ∙ joined-one at_most (bounds_after at_most None (present rows)) item ∙ sym (bounds-append at_most None (present rows) (item ∷ []))
          ∙ ap (bounds_after at_most None) (sym more);
    }

-- ---- two lists of rows

among_front : (xs ys zs : List Stored) → All (Contains ((xs ++ ys) ++ zs)) xs
among_front xs ys zs =
    All-weaker (Contains xs) (Contains ((xs ++ ys) ++ zs)) (λ x h. Contains-append_left (xs ++ ys) zs x (Contains-append_left xs ys x h)) xs (All-contains_itself xs)

among_rest : (xs ys zs : List Stored) → All (Contains ((xs ++ ys) ++ zs)) ys
among_rest xs ys zs =
    All-weaker (Contains ys) (Contains ((xs ++ ys) ++ zs)) (λ x h. Contains-append_left (xs ++ ys) zs x (Contains-append_right xs ys x h)) ys (All-contains_itself ys)

-- the bounds of rows and those behind them
pub finds_both : (at_most : Stored → Stored → Bool) (items : List (Option Stored)) (mid to : ℕ) (first second next : Option RowBounds) → IsOrder (Contains (present items)) at_most → mid ≤ to →
    FindsBounds at_most items (slice_range items 0 mid) first → FindsBounds at_most items (slice_range items mid to) second → AreBothThere items next →
    bounds_by_rows items next ≡ joined_bounds at_most (bounds_by_rows items first) (bounds_by_rows items second) → FindsBounds at_most items (slice_range items 0 to) next
finds_both at_most items mid to first second next order le a b there both =
    let xs : List Stored = present (slice_range items 0 mid) in
    let ys : List Stored = present (slice_range items mid to) in
    let zs : List Stored = present (drop to items) in
    let whole : present (slice_range items 0 to) ≡ xs ++ ys =
    ap present (rows-split items 0 mid to (omega arith) le) ∙ filter_map-append (λ (i : Option Stored). i) (slice_range items 0 mid) (slice_range items mid to) in
    let all : present items ≡ (xs ++ ys) ++ zs =
    ap present (drop_split items 0 to (omega arith)) ∙ filter_map-append (λ (i : Option Stored). i) (slice_range items 0 to) (drop to items) ∙ ap (λ (front : List Stored). front ++ zs) whole in
    record {
      there = there;
      same = both ∙ ap (λ (x : Bounds). joined_bounds at_most x (bounds_by_rows items second)) a.same ∙ ap (joined_bounds at_most (bounds_after at_most None xs)) b.same
          ∙ sym (bounds-joined (Contains ((xs ++ ys) ++ zs)) at_most (subst (λ (own : List Stored). IsOrder (Contains own) at_most) all order) xs ys (among_front xs ys zs) (among_rest xs ys zs))
          ∙ ap (bounds_after at_most None) (sym whole);
    }

-- ---- the rows of two bounds

-- the rows of both ends make the bounds of both
pub record AreJoined (at_most : Stored → Stored → Bool) (items : List (Option Stored)) (a b rows : RowBounds) : Type 0 where
  pub there : AreBothThere items (Some rows)
  pub same : bounds_by_rows items (Some rows) ≡ joined_bounds at_most (bounds_by_rows items (Some a)) (bounds_by_rows items (Some b))

pub rows_joined : (at_most : Stored → Stored → Bool) (items : List (Option Stored)) (a b rows : RowBounds) → AreBothThere items (Some a) → AreBothThere items (Some b) →
    IfSome (row_of items a.least) (λ x. IfSome (row_of items b.least) (λ y. row_of items rows.least ≡ Some (first_of at_most x y))) →
    IfSome (row_of items a.greatest) (λ x. IfSome (row_of items b.greatest) (λ y. row_of items rows.greatest ≡ Some (last_of at_most x y))) → AreJoined at_most items a b rows
rows_joined at_most items a b rows first second low high =
    let la = if_some (row_of items a.least) (λ x. IfSome (row_of items b.least) (λ y. row_of items rows.least ≡ Some (first_of at_most x y))) first.0 low in
    let lb = if_some (row_of items b.least) (λ y. row_of items rows.least ≡ Some (first_of at_most la.0 y)) second.0 la.2 in
    let ga = if_some (row_of items a.greatest) (λ x. IfSome (row_of items b.greatest) (λ y. row_of items rows.greatest ≡ Some (last_of at_most x y))) first.1 high in
    let gb = if_some (row_of items b.greatest) (λ y. row_of items rows.greatest ≡ Some (last_of at_most ga.0 y)) second.1 ga.2 in
    record {
      there = (ap is_some lb.2, ap is_some gb.2);
      same = both_there items rows (first_of at_most la.0 lb.0) (last_of at_most ga.0 gb.0) lb.2 gb.2
          ∙ sym (ap (λ (x : Bounds). joined_bounds at_most x (bounds_by_rows items (Some b))) (both_there items a la.0 ga.0 la.1 ga.1)
          ∙ ap (joined_bounds at_most (Some (la.0, ga.0))) (both_there items b lb.0 gb.0 lb.1 gb.1));
    }
