-- The rows of intervals, one after another, and of the pages that they lie in.
use Rattle.std.proofs.Common.{◌≡◌, ℕ, zero, suc, ◌+◌, ◌-◌, ◌<◌, ◌≤◌, Bool, true, false, cond, List, [], ◌∷◌, ◌++◌, refl, sym, ap, ◌∙◌, arith, length, length-append}
use Rattle.std.specs.Prelude.{map}
use Rattle.std.specs.List.{filter, flat_map, range_with_len}
use Rattle.std.proofs.lemmas.List.FromFn.{length-range_with_len}
use Rattle.std.proofs.lemmas.List.Sums.{sum_by-cons}
use Rattle.std.proofs.lemmas.Bool.{cond-true, cond-false, or_from}
use Rattle.parquet_base.specs.declared.interval.Interval.{Interval}
use Rattle.parquet_base.specs.Intervals.{end, covers, is_well_shaped, is_well_shaped_from, overlaps, row_count, rows_of, rows_in_page, AreAdjacent}
use Rattle.parquet_base.proofs.ShapeLemmas.{shape-cons, shape-here, shape-le, shape-weaker}
use Rattle.parquet_base.proofs.SegmentLemmas.{adjacent-le, holds_before, covers_after, covers_inside}
use Rattle.parquet_base.proofs.OverlapLemmas.{covers-overlaps, overlaps-shaped}

-- ---- rows that pass a test

-- those among `n` rows from one on
abbrev passing : (ℕ → Bool) → ℕ → ℕ → List ℕ
passing test from n = filter test (range_with_len from n)

cond-append : {A : Type 0} (b : Bool) (x : A) (xs ys : List A) → cond b (x ∷ (xs ++ ys)) (xs ++ ys) ≡ cond b (x ∷ xs) xs ++ ys
cond-append true x xs ys = refl
cond-append false x xs ys = refl

passing-split : (test : ℕ → Bool) (from n m : ℕ) → passing test from (n + m) ≡ passing test from n ++ passing test (from + n) m
passing-split test from zero m =
    let none : zero + m ≡ m = omega arith in
    let here : from + zero ≡ from = omega arith in
    ap (passing test from) none ∙ ap (λ at. passing test at m) (sym here)
passing-split test from (suc n) m =
    let more : suc n + m ≡ suc (n + m) = omega arith in
    let there : from + 1 + n ≡ from + suc n = omega arith in
    ap (passing test from) more
    ∙ ap (λ rest. cond (test from) (from ∷ rest) rest) (passing-split test (from + 1) n m ∙ ap (λ at. passing test (from + 1) n ++ passing test at m) there)
    ∙ cond-append (test from) from (passing test (from + 1) n) (passing test (from + suc n) m)

passing-none : (test : ℕ → Bool) (from n : ℕ) → ((row : ℕ) → from ≤ row → row < from + n → test row ≡ false) → passing test from n ≡ []
passing-none test from zero fails = refl
passing-none test from (suc n) fails = cond-false (test from) _ _ (fails from (omega arith) (omega arith)) ∙ passing-none test (from + 1) n (λ row low high. fails row (omega arith) (omega arith))

passing-all : (test : ℕ → Bool) (from n : ℕ) → ((row : ℕ) → from ≤ row → row < from + n → test row ≡ true) → passing test from n ≡ range_with_len from n
passing-all test from zero passes = refl
passing-all test from (suc n) passes = cond-true (test from) _ _ (passes from (omega arith) (omega arith)) ∙ ap (λ rest. from ∷ rest) (passing-all test (from + 1) n (λ row low high. passes row (omega arith) (omega arith)))

passing-agree : (p q : ℕ → Bool) (from n : ℕ) → ((row : ℕ) → from ≤ row → row < from + n → p row ≡ q row) → passing p from n ≡ passing q from n
passing-agree p q from zero same = refl
passing-agree p q from (suc n) same =
    ap (λ b. cond b (from ∷ passing p (from + 1) n) (passing p (from + 1) n)) (same from (omega arith) (omega arith))
    ∙ ap (λ rest. cond (q from) (from ∷ rest) rest) (passing-agree p q (from + 1) n (λ row low high. same row (omega arith) (omega arith)))

map-cond : (f : ℕ → ℕ) (b : Bool) (x : ℕ) (xs : List ℕ) → map f (cond b (x ∷ xs) xs) ≡ cond b (f x ∷ map f xs) (map f xs)
map-cond f true x xs = refl
map-cond f false x xs = refl

-- rows counted from another one
passing-shift : (test : ℕ → Bool) (by from n : ℕ) → map (λ row. by + row) (passing (λ row. test (by + row)) from n) ≡ passing test (by + from) n
passing-shift test by from zero = refl
passing-shift test by from (suc n) =
    let next : by + (from + 1) ≡ by + from + 1 = omega arith in
    map-cond (λ row. by + row) (test (by + from)) from (passing (λ row. test (by + row)) (from + 1) n)
    ∙ ap (λ rest. cond (test (by + from)) ((by + from) ∷ rest) rest) (passing-shift test by (from + 1) n ∙ ap (λ at. passing test at n) next)

-- ---- the rows of intervals

pub none-held : (from : ℕ) (runs : List Interval) (rows row : ℕ) → is_well_shaped_from from runs rows ≡ true → row < from → covers runs row ≡ false
none-held from [] rows row shaped early = refl
none-held from (run ∷ runs) rows row shaped early =
    let own = shape-cons from run runs rows shaped in
    or_from _ _ (holds_before run row (omega (arith, own.late))) (none-held (end run) runs rows row own.rest (omega (arith, own.late)))

pub rows_of-passing : (from : ℕ) (runs : List Interval) (rows : ℕ) → is_well_shaped_from from runs rows ≡ true → rows_of runs ≡ passing (covers runs) from (rows - from)
rows_of-passing from [] rows shaped = sym (passing-none (λ row. false) from (rows - from) (λ row low high. refl))
rows_of-passing from (run ∷ runs) rows shaped =
    let own = shape-cons from run runs rows shaped in
    let last = shape-le (end run) runs rows own.rest in
    let gap = run.start - from in
    let split : rows - from ≡ gap + (run.length + (rows - end run)) = omega (arith, own.late) in
    let at : from + gap ≡ run.start = omega (arith, own.late) in
    let test = covers (run ∷ runs) in
    sym (ap (passing test from) split
    ∙ passing-split test from gap (run.length + (rows - end run))
    ∙ ap (λ front. front ++ passing test (from + gap) (run.length + (rows - end run))) (passing-none test from gap (λ row low high. none-held run.start (run ∷ runs) rows row (shape-here from run runs rows shaped) (omega arith)))
    ∙ ap (λ row. passing test row (run.length + (rows - end run))) at
    ∙ passing-split test run.start run.length (rows - end run)
    ∙ ap (λ front. front ++ passing test (end run) (rows - end run)) (passing-all test run.start run.length (λ row low high. covers_inside run runs row low high))
    ∙ ap (λ rest. range_with_len run.start run.length ++ rest) (passing-agree test (covers runs) (end run) (rows - end run) (λ row low high. covers_after run runs row low) ∙ sym (rows_of-passing (end run) runs rows own.rest)))

-- ---- the rows of pages

rows_in_page-passing : (page : Interval) (runs : List Interval) (rows : ℕ) → is_well_shaped runs rows ≡ true → rows_in_page page runs ≡ passing (covers runs) page.start page.length
rows_in_page-passing page runs rows shaped =
    let here : page.start + 0 ≡ page.start = omega arith in
    let all : page.length - 0 ≡ page.length = omega arith in
    ap (map (λ row. page.start + row))
    (rows_of-passing 0 (overlaps page runs) page.length (overlaps-shaped page runs rows shaped)
    ∙ ap (passing (covers (overlaps page runs)) 0) all
    ∙ passing-agree (covers (overlaps page runs)) (λ row. covers runs (page.start + row)) 0 page.length (λ row low high. covers-overlaps page runs row (omega arith)))
    ∙ passing-shift (covers runs) page.start 0 page.length
    ∙ ap (λ at. passing (covers runs) at page.length) here

pages-passing : (from : ℕ) (pages runs : List Interval) (rows : ℕ) → AreAdjacent from pages rows → is_well_shaped runs rows ≡ true → flat_map (λ page. rows_in_page page runs) pages ≡ passing (covers runs) from (rows - from)
pages-passing from [] runs rows adjacent shaped = let none : 0 ≡ rows - from = omega (arith, adjacent) in ap (passing (covers runs) from) none
pages-passing from (page ∷ pages) runs rows adjacent shaped =
    let last = adjacent-le (end page) pages rows adjacent.1 in
    let split : page.length + (rows - end page) ≡ rows - from = omega (arith, adjacent.0) in
    ap (λ front. front ++ flat_map (λ page. rows_in_page page runs) pages) (rows_in_page-passing page runs rows shaped)
    ∙ ap (λ rest. passing (covers runs) page.start page.length ++ rest) (pages-passing (end page) pages runs rows adjacent.1 shaped)
    ∙ sym (passing-split (covers runs) page.start page.length (rows - end page))
    ∙ ap (λ at. passing (covers runs) at (page.length + (rows - end page))) adjacent.0
    ∙ ap (passing (covers runs) from) split

-- Pages that lie one after another have each row of intervals in them once, in order.
pub pages-share : (from : ℕ) (pages runs : List Interval) (rows : ℕ) → AreAdjacent from pages rows → is_well_shaped_from from runs rows ≡ true → flat_map (λ page. rows_in_page page runs) pages ≡ rows_of runs
pages-share from pages runs rows adjacent shaped = pages-passing from pages runs rows adjacent (shape-weaker from 0 runs rows (omega arith) shaped) ∙ sym (rows_of-passing from runs rows shaped)

-- ---- how many they are

pub rows_of-length : (runs : List Interval) → length (rows_of runs) ≡ row_count runs
rows_of-length [] = refl
rows_of-length (run ∷ runs) =
    let first = length-range_with_len run.start run.length in
    omega (arith, length-append (range_with_len run.start run.length) (rows_of runs), first, rows_of-length runs, sum_by-cons (λ (run : Interval). run.length) run runs)
