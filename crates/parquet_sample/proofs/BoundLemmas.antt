-- Bounds of rows, an item at a time.
use Rattle.std.proofs.Common.{◌≡◌, ℕ, ◌+◌, ◌-◌, ◌≤◌, Bool, List, [], ◌∷◌, ◌++◌, Option, None, sym, ap, ◌∙◌, arith, map}
use Rattle.std.specs.List.{range_with_len}
use Rattle.std.proofs.lemmas.List.{map-append}
use Rattle.std.proofs.lemmas.List.Elements.{filter_map-append}
use Rattle.parquet_page.specs.Stored.{Stored}
use Rattle.parquet_plain.specs.Bodies.{present}
use Rattle.parquet_plain.specs.Bounds.{Bounds, bounds_after}
use Rattle.parquet_plain.proofs.BoundLemmas.{bounds-append}
use Rattle.parquet_sample.proofs.RangeLemmas.{range_more}

-- the bounds of so many rows
pub record AreBounds (at_most : Stored → Stored → Bool) (item : ℕ → Option Stored) (first : ℕ) (bounds : Bounds) (n : ℕ) : Type 0 where
  pub same : bounds ≡ bounds_after at_most None (present (map item (range_with_len first (n - first))))

pub bounds_begin : (at_most : Stored → Stored → Bool) (item : ℕ → Option Stored) (first : ℕ) → AreBounds at_most item first None first
bounds_begin at_most item first =
    let none : 0 ≡ first - first = omega arith in
    record { same = ap (λ (k : ℕ). bounds_after at_most None (present (map item (range_with_len first k)))) none }

pub bounds_go_on : (at_most : Stored → Stored → Bool) (item : ℕ → Option Stored) (first : ℕ) (bounds next : Bounds) (n : ℕ) → first ≤ n → AreBounds at_most item first bounds n →
    next ≡ bounds_after at_most bounds (present (item n ∷ [])) → AreBounds at_most item first next (n + 1)
bounds_go_on at_most item first bounds next n le are one =
    let count : n - first + 1 ≡ n + 1 - first = omega arith in
    let here : first + (n - first) ≡ n = omega arith in
    let so_far : List (Option Stored) = map item (range_with_len first (n - first)) in
    let grown : map item (range_with_len first (n - first + 1)) ≡ so_far ++ item n ∷ [] =
    ap (map item) (range_more first (n - first)) ∙ map-append item (range_with_len first (n - first)) ((first + (n - first)) ∷ []) ∙ ap (λ (k : ℕ). so_far ++ item k ∷ []) here in
    record {
      same = one ∙ ap (λ (b : Bounds). bounds_after at_most b (present (item n ∷ []))) are.same ∙ sym (bounds-append at_most None (present so_far) (present (item n ∷ [])))
          ∙ ap (bounds_after at_most None) (sym (filter_map-append (λ (i : Option Stored). i) so_far (item n ∷ []))) ∙ ap (λ (items : List (Option Stored)). bounds_after at_most None (present items)) (sym grown)
          ∙ ap (λ (k : ℕ). bounds_after at_most None (present (map item (range_with_len first k)))) count;
    }

pub bounds_end : (at_most : Stored → Stored → Bool) (item : ℕ → Option Stored) (first rows : ℕ) (bounds : Bounds) (n : ℕ) → n ≡ first + rows → AreBounds at_most item first bounds n →
    bounds ≡ bounds_after at_most None (present (map item (range_with_len first rows)))
bounds_end at_most item first rows bounds n end are =
    let count : n - first ≡ rows = omega arith in
    are.same ∙ ap (λ (k : ℕ). bounds_after at_most None (present (map item (range_with_len first k)))) count
