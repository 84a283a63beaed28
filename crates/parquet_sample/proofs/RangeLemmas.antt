-- Rows one after another, and their bytes.
use Rattle.std.proofs.Common.{◌≡◌, ℕ, zero, suc, ◌+◌, ◌-◌, ◌≤◌, List, [], ◌∷◌, ◌++◌, sym, ap, ◌∙◌, arith, append_assoc, append-nil, length, map, take, drop}
use Rattle.std.specs.List.{flat_map, range_with_len, slice_range}
use Rattle.std.proofs.lemmas.List.{map-append}
use Rattle.std.proofs.lemmas.List.Concat.{flat_map-append}
use Rattle.std.proofs.lemmas.List.FromFn.{length-map-range_with_len, take-map-range_with_len}
use Rattle.std.proofs.Math.Seq.{drop-append_seam}

pub range_more : (first count : ℕ) → range_with_len first (count + 1) ≡ range_with_len first count ++ (first + count) ∷ []
range_more first zero =
    let here : first ≡ first + 0 = omega arith in
    ap (λ (n : ℕ). n ∷ []) here
range_more first (suc count) =
    let more : suc count + 1 ≡ suc (count + 1) = omega arith in
    let there : first + 1 + count ≡ first + suc count = omega arith in
    ap (range_with_len first) more ∙ ap (λ (ns : List ℕ). first ∷ ns) (range_more (first + 1) count ∙ ap (λ (n : ℕ). range_with_len (first + 1) count ++ n ∷ []) there)

pub range_split : (from n m : ℕ) → range_with_len from (n + m) ≡ range_with_len from n ++ range_with_len (from + n) m
range_split from zero m =
    let none : zero + m ≡ m = omega arith in
    let here : from ≡ from + zero = omega arith in
    ap (range_with_len from) none ∙ ap (λ (at : ℕ). range_with_len at m) here
range_split from (suc n) m =
    let more : suc n + m ≡ suc (n + m) = omega arith in
    let there : from + 1 + n ≡ from + suc n = omega arith in
    ap (range_with_len from) more ∙ ap (λ (rest : List ℕ). from ∷ rest) (range_split (from + 1) n m ∙ ap (λ (at : ℕ). range_with_len (from + 1) n ++ range_with_len at m) there)

-- the rows that are left of a list made of rows
pub drop-rows : {X : Type 0} (f : ℕ → X) (first rows row : ℕ) → row ≤ rows → drop row (map f (range_with_len first rows)) ≡ map f (range_with_len (first + row) (rows - row))
drop-rows {X = X} f first rows row le =
    let many : rows ≡ row + (rows - row) = omega arith in
    let front : List X = map f (range_with_len first row) in
    let rest : List X = map f (range_with_len (first + row) (rows - row)) in
    let long : row ≡ length front = sym (length-map-range_with_len f first row) in
    ap (λ (n : ℕ). drop row (map f (range_with_len first n))) many ∙ ap (λ (ns : List ℕ). drop row (map f ns)) (range_split first row (rows - row))
    ∙ ap (drop row) (map-append f (range_with_len first row) (range_with_len (first + row) (rows - row))) ∙ ap (λ (n : ℕ). drop n (front ++ rest)) long ∙ drop-append_seam front rest

-- rows of a list made of rows
pub slice-rows : {X : Type 0} (f : ℕ → X) (first rows row count : ℕ) → row + count ≤ rows → slice_range (map f (range_with_len first rows)) row (row + count) ≡ map f (range_with_len (first + row) count)
slice-rows {X = X} f first rows row count le =
    let many : row + count - row ≡ count = omega arith in
    ap (λ (n : ℕ). take n (drop row (map f (range_with_len first rows)))) many
    ∙ ap (take count) (drop-rows f first rows row (omega arith)) ∙ take-map-range_with_len f (first + row) (rows - row) count (omega arith)

-- the bytes of so many rows stand behind what was there
pub record AreRows (of : ℕ → List ℕ) (start : List ℕ) (first : ℕ) (out : List ℕ) (n : ℕ) : Type 0 where
  pub same : out ≡ start ++ flat_map of (range_with_len first (n - first))

pub rows_begin : (of : ℕ → List ℕ) (start : List ℕ) (first : ℕ) → AreRows of start first start first
rows_begin of start first =
    let none : 0 ≡ first - first = omega arith in
    record { same = sym (append-nil start) ∙ ap (λ (k : ℕ). start ++ flat_map of (range_with_len first k)) none }

pub rows_go_on : (of : ℕ → List ℕ) (start : List ℕ) (first : ℕ) (out next : List ℕ) (n : ℕ) → first ≤ n → AreRows of start first out n → next ≡ out ++ of n → AreRows of start first next (n + 1)
rows_go_on of start first out next n le are one =
    let count : n - first + 1 ≡ n + 1 - first = omega arith in
    let here : first + (n - first) ≡ n = omega arith in
    let grown : flat_map of (range_with_len first (n - first + 1)) ≡ flat_map of (range_with_len first (n - first)) ++ of n =
    ap (flat_map of) (range_more first (n - first)) ∙ flat_map-append of (range_with_len first (n - first)) ((first + (n - first)) ∷ [])
    ∙ ap (λ (bs : List ℕ). flat_map of (range_with_len first (n - first)) ++ bs) (append-nil (of (first + (n - first))) ∙ ap of here) in
    record {
      same = one ∙ ap (λ (bs : List ℕ). bs ++ of n) are.same ∙ append_assoc start (flat_map of (range_with_len first (n - first))) (of n)
          ∙ ap (λ (bs : List ℕ). start ++ bs) (sym grown) ∙ ap (λ (k : ℕ). start ++ flat_map of (range_with_len first k)) count;
    }

pub rows_end : (of : ℕ → List ℕ) (start : List ℕ) (first rows : ℕ) (out : List ℕ) (n : ℕ) → n ≡ first + rows → AreRows of start first out n → out ≡ start ++ flat_map of (range_with_len first rows)
rows_end of start first rows out n end are =
    let count : n - first ≡ rows = omega arith in
    are.same ∙ ap (λ (k : ℕ). start ++ flat_map of (range_with_len first k)) count
