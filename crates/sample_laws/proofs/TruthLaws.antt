-- The ends and the number of nulls of items are true of their cells.
use Rattle.std.proofs.Common.{◌≡◌, ℕ, ◌+◌, Bool, true, false, cond, List, [], ◌∷◌, Option, Some, None, refl, sym, ap, ◌∙◌, map, eq-eqb}
use Rattle.std.specs.Prelude.{All, count_by, is_none}
use Rattle.std.specs.List.{list_all}
use Rattle.std.proofs.lemmas.List.Elements.{All-head, All-tail, All-cons, All-nil}
use Rattle.std.proofs.lemmas.List.Folds.{list_all-append}
use Rattle.std.proofs.lemmas.List.Sums.{sum_by-cons}
use Rattle.columns_core.specs.declared.cell.Cell.{Cell, Null}
use Rattle.parquet_page.specs.Stored.{Stored}
use Rattle.flat_values.specs.Conversion.{Conversion}
use Rattle.column_ends.specs.Converted.{end_cell}
use Rattle.parquet_scan.specs.declared.bound.Scalar.{Scalar}
use Rattle.parquet_scan.specs.Bound.{KnownEnds, is_above, is_past, value_of, known_value}
use Rattle.parquet_scan.specs.Truth.{are_true, is_between, is_null}
use Rattle.parquet_plain.specs.Bodies.{present}
use Rattle.parquet_plain.specs.Columns.{Written, greatest, least, nulls_of}
use Rattle.parquet_plain.specs.Orders.{IsOrder}
use Rattle.parquet_plain.proofs.OrderLemmas.{greatest-is, least-is}
use Rattle.sample_laws.proofs.EndLaws.{high_of, low_of}
use Rattle.sample_laws.proofs.KindLaws.{IsKind, place_cell}
use Rattle.sample_laws.proofs.StatisticsLaws.{HasEnds, end-is}

-- The cells of a kind have values, in the order of the stored ones.
pub record HasValues (to : Written) (P : Stored → Type 0) (cell_of : Stored → Cell) (value : Stored → Scalar) : Type 0 where
  pub order : IsOrder P to.at_most
  pub valued : (s : Stored) → P s → value_of (cell_of s) ≡ Some (value s)
  pub there : (s : Stored) → P s → is_null (cell_of s) ≡ false
  pub below : (a b : Stored) → P a → P b → to.at_most a b ≡ true → is_above (value a) (value b) ≡ false

-- what is known of some items
abbrev pub known_of : Conversion → (Stored → Stored → Bool) → List (Option Stored) → KnownEnds
known_of rule at_most items = record { low = known_value (end_cell rule (low_of at_most (present items))); high = known_value (end_cell rule (high_of at_most (present items))); nulls = Some (nulls_of items) }

-- a value is not past ends
pub record IsInside (low high : Option Scalar) (value : Scalar) : Type 0 where
  pub above : is_past low (Some value) ≡ false
  pub under : is_past (Some value) high ≡ false

module _ (to : Written) (rule : Conversion) (P : Stored → Type 0) (cell_of : Stored → Cell) (value : Stored → Scalar) (kind : IsKind to rule P cell_of) (ends : HasEnds to rule P) (values : HasValues to P cell_of value) where
  all-between : (low high : Option Scalar) (items : List (Option Stored)) → All P (present items) → All (λ s. IsInside low high (value s)) (present items) → list_all (is_between low high) (map (place_cell cell_of) items) ≡ true
  all-between low high [] all inside = refl
  all-between low high (None ∷ items) all inside = list_all-append (is_between low high) (Null ∷ []) (map (place_cell cell_of) items) ∙ rw (all-between low high items all inside) refl
  all-between low high (Some s ∷ items) all inside =
      let is : P s = All-head P s (present items) all in
      let own : IsInside low high (value s) = All-head (λ v. IsInside low high (value v)) s (present items) inside in
      let one : is_between low high (cell_of s) ≡ true = rw (values.valued s is, own.above, own.under) refl in
      list_all-append (is_between low high) (cell_of s ∷ []) (map (place_cell cell_of) items)
      ∙ rw (one, all-between low high items (All-tail P s (present items) all) (All-tail (λ v. IsInside low high (value v)) s (present items) inside)) refl

  nulls-are : (items : List (Option Stored)) → All P (present items) → count_by is_null (map (place_cell cell_of) items) ≡ nulls_of items
  nulls-are [] all = refl
  nulls-are (None ∷ items) all =
      sum_by-cons (λ (c : Cell). cond (is_null c) 1 0) Null (map (place_cell cell_of) items) ∙ ap (λ (n : ℕ). 1 + n) (nulls-are items all) ∙ sym (sum_by-cons (λ (i : Option Stored). cond (is_none i) 1 0) None items)
  nulls-are (Some s ∷ items) all =
      sum_by-cons (λ (c : Cell). cond (is_null c) 1 0) (cell_of s) (map (place_cell cell_of) items) ∙ ap (λ (b : Bool). cond b 1 0 + count_by is_null (map (place_cell cell_of) items)) (values.there s (All-head P s (present items) all))
      ∙ ap (λ (n : ℕ). 0 + n) (nulls-are items (All-tail P s (present items) all)) ∙ sym (sum_by-cons (λ (i : Option Stored). cond (is_none i) 1 0) (Some s) items)

  known-end : (s : Stored) → P s → known_value (end_cell rule (Some s)) ≡ Some (value s)
  known-end s is = rw (end-is to rule P cell_of kind ends (Some s) is) (values.valued s is)

  each-inside : (a b : Stored) (items : List Stored) → P a → P b → All P items → All (λ v. to.at_most a v ≡ true) items → All (λ v. to.at_most v b ≡ true) items
      → All (λ s. IsInside (known_value (end_cell rule (Some a))) (known_value (end_cell rule (Some b))) (value s)) items
  each-inside a b [] pa pb all low high = All-nil (λ s. IsInside (known_value (end_cell rule (Some a))) (known_value (end_cell rule (Some b))) (value s))
  each-inside a b (s ∷ items) pa pb all low high =
      let is : P s = All-head P s items all in
      let own : IsInside (known_value (end_cell rule (Some a))) (known_value (end_cell rule (Some b))) (value s) = record {
        above = rw (known-end a pa) (values.below a s pa is (All-head (λ v. to.at_most a v ≡ true) s items low));
        under = rw (known-end b pb) (values.below s b is pb (All-head (λ v. to.at_most v b ≡ true) s items high));
      } in
      All-cons (λ v. IsInside (known_value (end_cell rule (Some a))) (known_value (end_cell rule (Some b))) (value v)) s items own
      (each-inside a b items pa pb (All-tail P s items all) (All-tail (λ v. to.at_most a v ≡ true) s items low) (All-tail (λ v. to.at_most v b ≡ true) s items high))

  all-inside : (items : List Stored) → All P items → All (λ s. IsInside (known_value (end_cell rule (low_of to.at_most items))) (known_value (end_cell rule (high_of to.at_most items))) (value s)) items
  all-inside [] all = All-nil (λ s. IsInside None None (value s))
  all-inside (item ∷ items) all =
      let one : P item = All-head P item items all in
      let rest : All P items = All-tail P item items all in
      let low = least-is P to.at_most values.order item items one rest in
      let high = greatest-is P to.at_most values.order item items one rest in
      let a : Stored = least to.at_most item items in
      let b : Stored = greatest to.at_most item items in
      each-inside a b (item ∷ items) low.0 high.0 all (All-cons (λ v. to.at_most a v ≡ true) item items low.1 low.2) (All-cons (λ v. to.at_most v b ≡ true) item items high.1 high.2)

  -- what is known of items is true of their cells
  pub true_of_items : (items : List (Option Stored)) → All P (present items) → are_true (known_of rule to.at_most items) (map (place_cell cell_of) items) ≡ true
  true_of_items items all =
      rw (all-between (known_value (end_cell rule (low_of to.at_most (present items)))) (known_value (end_cell rule (high_of to.at_most (present items)))) items all (all-inside (present items) all), nulls-are items all, eq-eqb (nulls_of items) (nulls_of items) refl) refl
