-- Lists of one item each, and the one list of all items.
use Rattle.std.proofs.Common.{◌≡◌, ℕ, zero, suc, ◌+◌, ◌-◌, List, [], ◌∷◌, ◌++◌, length, get_or, map, take, drop, refl, sym, ap, ◌∙◌, arith, length-append, append_assoc, zero-add, add-one}
use Rattle.std.specs.Prelude.{slice_range, Some, None}
use Rattle.std.specs.List.{range_with_len}
use Rattle.std.proofs.lemmas.List.FromFn.{length-range_with_len, get_or-range_with_len}
use Rattle.columns_core.specs.Column.{Column, FitsMask, as_column, cell_of}
use Rattle.columns_core.specs.Joined.{FitTogether, joined_strings}
use Rattle.columns_core.specs.Offsets.{last, parts}
use Rattle.columns_core.specs.Shown.{Shown}
use Rattle.columns_core.specs.declared.cell.Cell.{Cell, Cells}
use Rattle.columns_core.specs.declared.data_type.DataType.{DataType}

-- ---- places that rise by one

range_from : (a n : ℕ) → range_with_len a (n + 1) ≡ range_with_len a n ++ (a + n) ∷ []
range_from a zero = let e : a ≡ a + 0 = omega arith in ap (λ k. k ∷ []) e
range_from a (suc n) =
    let e : a + 1 + n ≡ a + suc n = omega arith in
    ap (λ count. range_with_len a count) (add-one (suc n))
    ∙ ap (λ rest. a ∷ rest) (ap (λ count. range_with_len (a + 1) count) (sym (add-one n)) ∙ range_from (a + 1) n ∙ ap (λ k. range_with_len (a + 1) n ++ k ∷ []) e)

last-range : (n : ℕ) → last (range_with_len 0 (n + 1)) ≡ n
last-range n =
    let e : n + 1 - 1 ≡ n = omega arith in
    ap (λ k. get_or (range_with_len 0 (n + 1)) (k - 1) 0) (length-range_with_len 0 (n + 1)) ∙ ap (λ k. get_or (range_with_len 0 (n + 1)) k 0) e
    ∙ get_or-range_with_len 0 (n + 1) n 0 (omega arith) ∙ zero-add n

-- one place more
pub place_more : (places pushed : List ℕ) (n : ℕ) → pushed ≡ places ++ (last places + 1) ∷ [] → places ≡ range_with_len 0 (n + 1) → pushed ≡ range_with_len 0 (n + 1 + 1)
place_more places pushed n more is =
    let e : n + 1 ≡ 0 + (n + 1) = omega arith in
    more ∙ ap (λ o. o ++ (last o + 1) ∷ []) is ∙ ap (λ k. range_with_len 0 (n + 1) ++ (k + 1) ∷ []) (last-range n)
    ∙ ap (λ k. range_with_len 0 (n + 1) ++ k ∷ []) e ∙ sym (range_from 0 (n + 1))

pub last_place : (places : List ℕ) (n : ℕ) → places ≡ range_with_len 0 (n + 1) → last places ≡ n
last_place places n is = ap last is ∙ last-range n

-- ---- the items between them

drop_before : {X : Type 0} (before ys : List X) → drop (length before) (before ++ ys) ≡ ys
drop_before [] ys = refl
drop_before (x ∷ before) ys = drop_before before ys

single : {X : Type 0} (before : List X) (x : X) (xs : List X) (n : ℕ) → n ≡ length before → slice_range (before ++ x ∷ xs) n (n + 1) ≡ x ∷ []
single before x xs n e =
    let one : n + 1 - n ≡ 1 = omega arith in
    ap (λ k. take k (drop n (before ++ x ∷ xs))) one ∙ ap (λ k. take 1 (drop k (before ++ x ∷ xs))) e ∙ ap (λ ys. take 1 ys) (drop_before before (x ∷ xs))

parts_single : {X : Type 0} (before xs : List X) (n : ℕ) → n ≡ length before → parts (range_with_len n (suc (length xs))) (before ++ xs) ≡ map (λ x. x ∷ []) xs
parts_single before [] n e = refl
parts_single before (x ∷ xs) n e =
    let first = single before x xs n e in
    let rest = ap (λ joined. parts (range_with_len (n + 1) (suc (length xs))) joined) (sym (append_assoc before (x ∷ []) xs)) ∙ parts_single (before ++ x ∷ []) xs (n + 1) (omega (arith, length-append before (x ∷ []))) in
    λ i. first i ∷ rest i

cells_of_singles : (items : List Cell) → map (cell_of Cells) (map Some (map (λ cell. cell ∷ []) items)) ≡ map (λ cell. Cells (cell ∷ [])) items
cells_of_singles [] = refl
cells_of_singles (cell ∷ items) = ap (λ rest. Cells (cell ∷ []) ∷ rest) (cells_of_singles items)

unmasked : {X : Type 0} (values : List X) → FitsMask values None
unmasked values found is = absurd cc

module _ (items : List Cell) (places : List ℕ) where
  module _ (is : places ≡ range_with_len 0 (length items + 1)) where
    each_alone : map (cell_of Cells) (joined_strings places items None) ≡ map (λ cell. Cells (cell ∷ [])) items
    each_alone =
        ap (λ o. map (cell_of Cells) (map Some (parts o items))) (is ∙ ap (λ n. range_with_len 0 n) (add-one (length items)))
        ∙ ap (λ ps. map (cell_of Cells) (map Some ps)) (parts_single [] items 0 refl) ∙ cells_of_singles items

    pub shown_alone : (data_type : DataType) (array : Column (List Cell)) → array ≡ as_column data_type (joined_strings places items None)
        → ◌≡◌ {A = Shown} (array.data_type, map (cell_of Cells) array.items) (data_type, map (λ cell. Cells (cell ∷ [])) items)
    shown_alone data_type array made = λ i. ((made i).data_type, (ap (λ (column : Column (List Cell)). map (cell_of Cells) column.items) made ∙ each_alone) i)

    pub each_fits : FitTogether places items None
    each_fits = let end = ap last is ∙ last-range (length items) in (omega arith, unmasked (parts places items))

  module _ (is : places ≡ 0 ∷ length items ∷ []) where
    pub all_fit : FitTogether places items None
    all_fit = let end = ap last is in (omega arith, unmasked (parts places items))
