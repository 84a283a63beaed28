-- Lists side by side, turned.
use Rattle.std.proofs.Common.{◌≡◌, ℕ, zero, suc, ◌+◌, ◌<◌, ◌≤◌, List, [], ◌∷◌, ◌++◌, length, map, take, drop, get_or, append_assoc, length-append, length-drop, refl, sym, ap, ◌∙◌, arith}
use Rattle.std.specs.Prelude.{flat_map}
use Rattle.std.proofs.lemmas.List.{append-nil, drop_all, drop_at, drop_more, length-map, length-take-le, take_all}
use Rattle.parquet_scan.specs.Chunks.{side_by_side, turned}

turned_length : {A : Type 0} (n : ℕ) (lists : List (List A)) → length (turned n lists) ≡ n
turned_length zero lists = refl
turned_length (suc n) lists = ap suc (turned_length n (map (drop 1) lists))

-- as many as the first list has items
pub first_count : {A : Type 0} (lists : List (List A)) (n : ℕ) → 1 ≤ length lists → n ≡ length (get_or lists 0 []) → n ≡ length (side_by_side lists)
first_count [] n some at = absurd (omega (arith, some))
first_count (first ∷ others) n some at = at ∙ sym (turned_length (length first) (first ∷ others))

pub turned_all : {A : Type 0} (lists : List (List A)) (n : ℕ) → n ≡ length (side_by_side lists) → turned n lists ≡ side_by_side lists
turned_all [] n e = ap (λ n. turned n []) e
turned_all (first ∷ others) n e = ap (λ n. turned n (first ∷ others)) (e ∙ turned_length (length first) (first ∷ others))

pub turned_more : {A : Type 0} (lists : List (List A)) (k n : ℕ) → k ≡ suc n → turned k lists ≡ flat_map (take 1) lists ∷ turned n (map (drop 1) lists)
turned_more lists k n e = ap (λ k. turned k lists) e

-- the first items of one more list
pub fronts_more : {A : Type 0} (before now : List (List A)) (fronts : List A) (i : ℕ) (x : List A) → i < length before → now ≡ map (drop 1) (take i before) ++ drop i before → x ≡ get_or now i x
    → fronts ++ flat_map (take 1) (drop i before) ≡ flat_map (take 1) before → (fronts ++ take 1 x) ++ flat_map (take 1) (drop (i + 1) before) ≡ flat_map (take 1) before
fronts_more {A} before now fronts i x below is at so_far =
    append_assoc fronts (take 1 x) (flat_map (take 1) (drop (i + 1) before)) ∙ ap (λ lists. fronts ++ flat_map (take 1) lists) (sym left) ∙ so_far where
      gone : length (map (drop {A = A} 1) (take i before)) ≡ i
      gone = length-map (take i before) (drop 1) ∙ length-take-le i before (omega (arith, below))

      same : drop i now ≡ drop i before
      same = ap (drop i) is ∙ drop_at (map (drop 1) (take i before)) (drop i before) i gone

      enough : i < length now
      enough = omega (arith, below, ap length is, length-append (map (drop {A = A} 1) (take i before)) (drop i before), gone, length-drop i before)

      first : get_or before i x ≡ x
      first = ap (λ lists. get_or lists 0 x) (sym (drop_more before i x below) ∙ sym same ∙ drop_more now i x enough) ∙ sym at

      left : drop i before ≡ x ∷ drop (i + 1) before
      left = drop_more before i x below ∙ ap (λ list. list ∷ drop (i + 1) before) first

pub fronts_done : {A : Type 0} (before : List (List A)) (fronts : List A) (i : ℕ) → length before ≤ i → fronts ++ flat_map (take 1) (drop i before) ≡ flat_map (take 1) before → fronts ≡ flat_map (take 1) before
fronts_done before fronts i done so_far = sym (append-nil fronts) ∙ ap (λ lists. fronts ++ flat_map (take 1) lists) (sym (drop_all i before done)) ∙ so_far

pub rests_done : {A : Type 0} (before now : List (List A)) (i : ℕ) → length before ≤ i → now ≡ map (drop 1) (take i before) ++ drop i before → now ≡ map (drop 1) before
rests_done {A} before now i done is =
    is ∙ (λ j. map (drop {A = A} 1) (take_all i before done j) ++ drop_all i before done j) ∙ append-nil (map (drop 1) before)
