-- The runs of the first rows.
use Rattle.std.proofs.Common.{◌≡◌, ℕ, zero, suc, ◌+◌, ◌-◌, ◌<◌, ◌≤◌, Bool, true, false, List, [], ◌∷◌, ◌++◌, All, length, map, take, drop, get_or, append_assoc, refl, sym, ap, ◌∙◌, arith}
use Rattle.std.proofs.lemmas.List.{append-nil, drop_all, drop_more, map-append}
use Rattle.std.proofs.lemmas.List.Elements.{All-cons, All-nil, All-tail}
use Rattle.std.proofs.lemmas.List.FromFn.{length-range_with_len}
use Rattle.std.specs.Prelude.{min, nat_lt, Option, Some, None, if◌then◌else◌}
use Rattle.std.specs.List.{range_with_len}
use Rattle.std.proofs.lemmas.Bool.{and_from, le-leb, lt-ltb, true≢false}
use Rattle.parquet_base.specs.declared.interval.Interval.{Interval}
use Rattle.parquet_base.specs.Intervals.{end, interval, is_well_shaped_from, row_count, rows_of}
use Rattle.parquet_scan.specs.Counting.{AreFirst}
use Rattle.parquet_scan.specs.Rows.{first_rows}
use Rattle.parquet_scan.specs.declared.scanning.GroupKept.{GroupKept}
use Rattle.parquet_base.proofs.RowLemmas.{rows_of-length}
use Rattle.parquet_base.proofs.ShapeLemmas.{shape-cons, shape-weaker}

-- the runs of the first rows of runs
abbrev pub clipped : ℕ → List Interval → List Interval
clipped left [] = []
clipped left (run ∷ runs) =
    if nat_lt 0 (min run.length left) then interval run.start (min run.length left) ∷ clipped (left - min run.length left) runs else clipped left runs

take_range : (left start n : ℕ) (rest : List ℕ) → take left (range_with_len start n ++ rest) ≡ range_with_len start (min n left) ++ take (left - min n left) rest
take_range zero start n rest =
    let none : min n zero ≡ 0 = omega arith in
    let left : zero - min n zero ≡ zero = omega arith in
    sym (λ i. range_with_len start (none i) ++ take (left i) rest)
take_range (suc left) start zero rest =
    let none : min zero (suc left) ≡ 0 = omega arith in
    let all : suc left - min zero (suc left) ≡ suc left = omega arith in
    sym (λ i. range_with_len start (none i) ++ take (all i) rest)
take_range (suc left) start (suc n) rest =
    let more : min (suc n) (suc left) ≡ suc (min n left) = omega arith in
    let over : left - min n left ≡ suc left - min (suc n) (suc left) = omega arith in
    ap (λ rows. start ∷ rows) (take_range left (start + 1) n rest)
    ∙ (λ i. (sym (ap (λ k. range_with_len start k) more) i) ++ take (over i) rest)

not_positive : (n : ℕ) → nat_lt 0 n ≡ false → n ≡ 0
not_positive zero e = refl
not_positive (suc n) e = absurd (true≢false (sym (lt-ltb 0 (suc n) (omega arith)) ∙ e))

pub clipped_rows : (left : ℕ) (runs : List Interval) → rows_of (clipped left runs) ≡ take left (rows_of runs)
clipped_rows zero [] = refl
clipped_rows (suc left) [] = refl
clipped_rows left (run ∷ runs) = by (nat_lt 0 (min run.length left)) refl (clipped_rows (left - min run.length left) runs) (clipped_rows left runs) ∙ sym (take_range left run.start run.length (rows_of runs)) where
  n : ℕ
  n = min run.length left

  by : (b : Bool) → nat_lt 0 n ≡ b → rows_of (clipped (left - n) runs) ≡ take (left - n) (rows_of runs) → rows_of (clipped left runs) ≡ take left (rows_of runs)
      → rows_of (if b then interval run.start n ∷ clipped (left - n) runs else clipped left runs) ≡ range_with_len run.start n ++ take (left - n) (rows_of runs)
  by true some fewer same = ap (λ rows. range_with_len run.start n ++ rows) fewer
  by false some fewer same =
      let none : n ≡ 0 = not_positive n some in
      let all : left - n ≡ left = omega (arith, none) in
      same ∙ sym (λ i. range_with_len run.start (none i) ++ take (all i) (rows_of runs))

pub clipped_shape : (from left : ℕ) (runs : List Interval) (rows : ℕ) → is_well_shaped_from from runs rows ≡ true → is_well_shaped_from from (clipped left runs) rows ≡ true
clipped_shape from left [] rows shaped = shaped
clipped_shape from left (run ∷ runs) rows shaped =
    let own = shape-cons from run runs rows shaped in
    by (nat_lt 0 (min run.length left)) refl (clipped_shape (end run) (left - min run.length left) runs rows own.rest)
    (clipped_shape from left runs rows (shape-weaker (end run) from runs rows (omega (arith, own.late)) own.rest)) where
      n : ℕ
      n = min run.length left

      by : (b : Bool) → nat_lt 0 n ≡ b → is_well_shaped_from (end run) (clipped (left - n) runs) rows ≡ true → is_well_shaped_from from (clipped left runs) rows ≡ true
          → is_well_shaped_from from (if b then interval run.start n ∷ clipped (left - n) runs else clipped left runs) rows ≡ true
      by true some rest same =
          and_from _ _ (and_from _ _ (le-leb from run.start (shape-cons from run runs rows shaped).late) some) (shape-weaker (end run) (run.start + n) (clipped (left - n) runs) rows (omega arith) rest)
      by false some rest same = same

-- all runs
pub clipped_done : (first runs : List Interval) (left limit i : ℕ) → length runs ≤ i → first ++ clipped left (drop i runs) ≡ clipped limit runs → first ≡ clipped limit runs
clipped_done first runs left limit i done so_far = sym (append-nil first) ∙ ap (λ runs. first ++ clipped left runs) (sym (drop_all i runs done)) ∙ so_far

pub none_left : (runs : List Interval) (i left limit : ℕ) → length runs ≤ i → left - row_count (drop i runs) ≡ limit - row_count runs → left ≡ limit - length (rows_of runs)
none_left runs i left limit done so_far =
    let none : row_count (drop i runs) ≡ 0 = ap row_count (drop_all i runs done) in
    omega (arith, so_far, none, rows_of-length runs)

-- ---- the rows that groups give

abbrev rows_kept : List GroupKept → List (List ℕ)
rows_kept kept = map (λ (group : GroupKept). rows_of group.intervals) kept

-- of one more group
pub given_more : (given : List (List Interval)) (runs : List Interval) (left after : Option ℕ) (kept : List GroupKept) (i : ℕ) (group : GroupKept) (all : List (List ℕ)) → i < length kept → group ≡ get_or kept i group
    → ((more : List (List ℕ)) → first_rows left (rows_of group.intervals ∷ more) ≡ rows_of runs ∷ first_rows after more) → map rows_of given ++ first_rows left (rows_kept (drop i kept)) ≡ all
    → map rows_of (given ++ runs ∷ []) ++ first_rows after (rows_kept (drop (i + 1) kept)) ≡ all
given_more given runs left after kept i group all below at own so_far =
    let front : drop i kept ≡ group ∷ drop (i + 1) kept = drop_more kept i group below ∙ ap (λ first. first ∷ drop (i + 1) kept) (sym at) in
    let rest = first_rows after (rows_kept (drop (i + 1) kept)) in
    ap (λ rows. rows ++ rest) (map-append rows_of given (runs ∷ []))
    ∙ append_assoc (map rows_of given) (rows_of runs ∷ []) rest
    ∙ ap (λ rows. map rows_of given ++ rows) (sym (own (rows_kept (drop (i + 1) kept))))
    ∙ ap (λ kept. map rows_of given ++ first_rows left (rows_kept kept)) (sym front)
    ∙ so_far

none_given : (left : Option ℕ) → first_rows left [] ≡ []
none_given None = refl
none_given (Some left) = refl

pub given_done : (given : List (List Interval)) (left : Option ℕ) (kept : List GroupKept) (i : ℕ) (all : List (List ℕ)) → length kept ≤ i → map rows_of given ++ first_rows left (rows_kept (drop i kept)) ≡ all → map rows_of given ≡ all
given_done given left kept i all done so_far =
    sym (append-nil (map rows_of given)) ∙ ap (λ rows. map rows_of given ++ rows) (sym (none_given left)) ∙ ap (λ kept. map rows_of given ++ first_rows left (rows_kept kept)) (sym (drop_all i kept done)) ∙ so_far

-- ---- where all that are kept are the first of their group, so are those that are given

take-nil : (k : ℕ) → take {A = ℕ} k [] ≡ []
take-nil zero = refl
take-nil (suc k) = refl

pub first_of_range : (left n : ℕ) → take left (range_with_len 0 n) ≡ range_with_len 0 (min n left)
first_of_range left n =
    ap (take left) (sym (append-nil (range_with_len 0 n))) ∙ take_range left 0 n [] ∙ ap (λ rest. range_with_len 0 (min n left) ++ rest) (take-nil (left - min n left)) ∙ append-nil (range_with_len 0 (min n left))

first_are : (n left : ℕ) (rows : List ℕ) (runs : List Interval) → rows ≡ range_with_len 0 n → rows_of runs ≡ take left rows → AreFirst false runs
first_are n left rows runs are e =
    let some : rows_of runs ≡ range_with_len 0 (min n left) = e ∙ ap (take left) are ∙ first_of_range left n in
    let count : min n left ≡ row_count runs = omega (arith, ap length some, rows_of-length runs, length-range_with_len 0 (min n left)) in
    some ∙ ap (range_with_len 0) count

first_given : (limit : Option ℕ) (kept : List GroupKept) (given : List (List Interval)) → map rows_of given ≡ first_rows limit (rows_kept kept) → All (λ (group : GroupKept). AreFirst false group.intervals) kept → All (AreFirst false) given
first_given limit kept [] e all = All-nil (AreFirst false)
first_given limit [] (runs ∷ given) e all = let none : rows_of runs ∷ map rows_of given ≡ [] = e ∙ none_given limit in absurd cc
first_given None (group ∷ kept) (runs ∷ given) e all =
    let own : rows_of runs ≡ rows_of group.intervals = ap (λ rows. get_or rows 0 []) e in
    let count : row_count group.intervals ≡ row_count runs = omega (arith, ap length own, rows_of-length runs, rows_of-length group.intervals) in
    All-cons (AreFirst false) runs given (own ∙ all 0 group (omega arith) ∙ ap (range_with_len 0) count)
    (first_given None kept given (ap (drop 1) e) (All-tail (λ (group : GroupKept). AreFirst false group.intervals) group kept all))
first_given (Some left) (group ∷ kept) (runs ∷ given) e all =
    All-cons (AreFirst false) runs given (first_are (row_count group.intervals) left (rows_of group.intervals) runs (all 0 group (omega arith)) (ap (λ rows. get_or rows 0 []) e))
    (first_given (Some (left - length (rows_of group.intervals))) kept given (ap (drop 1) e) (All-tail (λ (group : GroupKept). AreFirst false group.intervals) group kept all))

pub given_first : (by_pages : Bool) (limit : Option ℕ) (kept : List GroupKept) (given : List (List Interval)) → map rows_of given ≡ first_rows limit (rows_kept kept) → All (λ (group : GroupKept). AreFirst by_pages group.intervals) kept → All (AreFirst by_pages) given
given_first true limit kept given e all = λ k d h. tt
given_first false limit kept given e all = first_given limit kept given e all
