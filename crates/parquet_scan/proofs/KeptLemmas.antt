-- The runs of the rows that are kept, and the rows in them.
use Rattle.std.proofs.Common.{◌≡◌, ℕ, zero, suc, ◌+◌, ◌-◌, ◌<◌, ◌≤◌, Bool, true, false, cond, List, [], ◌∷◌, ◌++◌, length, map, drop, get_or, append_assoc, refl, sym, subst, ◌∙◌, ap, arith}
use Rattle.std.specs.Prelude.{filter, nat_lt, zip, if◌then◌else◌}
use Rattle.std.specs.List.{list_all, range_with_len}
use Rattle.std.proofs.lemmas.Bool.{and_from, and_parts, le-leb, lt-ltb}
use Rattle.std.proofs.lemmas.List.{append-nil, drop_all, drop_more, map-append}
use Rattle.std.proofs.lemmas.List.FromFn.{length-range_with_len}
use Rattle.std.proofs.lemmas.List.Sums.{sum_by-cons}
use Rattle.parquet_base.specs.declared.interval.Interval.{Interval}
use Rattle.parquet_base.specs.Intervals.{AreApart, covers, end, is_well_shaped, is_well_shaped_from, maximal_runs, row_count, rows_of}
use Rattle.parquet_base.proofs.RowLemmas.{rows_of-length, rows_of-passing}
use Rattle.parquet_base.proofs.SegmentLemmas.{covers-maximal_runs, runs_apart}
use Rattle.parquet_base.proofs.ShapeLemmas.{shape-cons, shape-weaker}
use Rattle.parquet_meta.specs.declared.metadata.RowGroupMetaData.{RowGroupMetaData}
use Rattle.parquet_scan.specs.Counting.{AreFirst, lie_in_groups}
use Rattle.parquet_scan.specs.declared.scanning.GroupKept.{GroupKept}

-- ---- maximal runs are well shaped

pub apart_shaped : (from : ℕ) (runs : List Interval) (rows : ℕ) → from ≤ rows → AreApart from runs rows → is_well_shaped_from from runs rows ≡ true
apart_shaped from [] rows h apart = le-leb from rows h
apart_shaped from (run ∷ []) rows h apart = and_from _ _ (and_from _ _ (le-leb from run.start apart.0) (lt-ltb 0 run.length apart.1)) (le-leb (end run) rows apart.2)
apart_shaped from (run ∷ next ∷ runs) rows h apart =
    let behind : is_well_shaped_from (end run + 1) (next ∷ runs) rows ≡ true = apart_shaped (end run + 1) (next ∷ runs) rows (omega (arith, apart.3.0, apart.3.2)) apart.3 in
    and_from _ _ (and_from _ _ (le-leb from run.start apart.0) (lt-ltb 0 run.length apart.1)) (shape-weaker (end run + 1) (end run) (next ∷ runs) rows (omega arith) behind)

pub runs_shaped : (test : ℕ → Bool) (rows : ℕ) → is_well_shaped (maximal_runs test rows) rows ≡ true
runs_shaped test rows = apart_shaped 0 (maximal_runs test rows) rows (omega arith) (runs_apart test rows)

-- ---- they hold the rows that pass the test

filter_agree : (p q : ℕ → Bool) (from n : ℕ) → ((row : ℕ) → row < from + n → p row ≡ q row) → filter p (range_with_len from n) ≡ filter q (range_with_len from n)
filter_agree p q from zero same = refl
filter_agree p q from (suc n) same =
    ap (λ b. cond b (from ∷ filter p (range_with_len (from + 1) n)) (filter p (range_with_len (from + 1) n))) (same from (omega arith))
    ∙ ap (λ rest. cond (q from) (from ∷ rest) rest) (filter_agree p q (from + 1) n (λ row low. same row (omega (arith, low))))

pub rows_are : (test : ℕ → Bool) (rows : ℕ) → rows_of (maximal_runs test rows) ≡ filter test (range_with_len 0 rows)
rows_are test rows =
    let all : rows - 0 ≡ rows = omega arith in
    rows_of-passing 0 (maximal_runs test rows) rows (runs_shaped test rows)
    ∙ ap (λ n. filter (covers (maximal_runs test rows)) (range_with_len 0 n)) all
    ∙ filter_agree (covers (maximal_runs test rows)) test 0 rows (λ row low. covers-maximal_runs test rows row (omega (arith, low)))

-- there is a run where there is a row
pub some_rows : (from : ℕ) (runs : List Interval) (rows : ℕ) → is_well_shaped_from from runs rows ≡ true → nat_lt 0 (length (rows_of runs)) ≡ nat_lt 0 (length runs)
some_rows from [] rows shaped = refl
some_rows from (run ∷ runs) rows shaped =
    let own = shape-cons from run runs rows shaped in
    let many : 0 < length (rows_of (run ∷ runs)) = omega (arith, own.some, rows_of-length (run ∷ runs), sum_by-cons (λ (run : Interval). run.length) run runs) in
    lt-ltb 0 (length (rows_of (run ∷ runs))) many ∙ sym (lt-ltb 0 (length (run ∷ runs)) (omega arith))

pub all_or_none : (b : Bool) (rows : List ℕ) → filter (λ row. b) rows ≡ (if b then rows else [])
all_or_none true [] = refl
all_or_none false [] = refl
all_or_none true (row ∷ rows) = ap (λ rest. row ∷ rest) (all_or_none true rows)
all_or_none false (row ∷ rows) = all_or_none false rows

-- ---- without pruning by pages the rows that are kept are the first of their group

pub none_first : (by_pages : Bool) (runs : List Interval) → runs ≡ [] → AreFirst by_pages runs
none_first true runs none = tt
none_first false runs none = ap rows_of none ∙ ap (λ runs. range_with_len 0 (row_count runs)) (sym none)

pub pages_first : (by_pages : Bool) (runs : List Interval) → by_pages ≡ true → AreFirst by_pages runs
pages_first by_pages runs e = subst (λ by_pages. AreFirst by_pages runs) (sym e) tt

pub whole_first : (by_pages : Bool) (runs : List Interval) (rows : ℕ) → runs ≡ maximal_runs (λ row. true) rows → AreFirst by_pages runs
whole_first true runs rows are = tt
whole_first false runs rows are =
    let all : rows_of runs ≡ range_with_len 0 rows = ap rows_of are ∙ rows_are (λ row. true) rows ∙ all_or_none true (range_with_len 0 rows) in
    let count : rows ≡ row_count runs = omega (arith, ap length all, rows_of-length runs, length-range_with_len 0 rows) in
    all ∙ ap (range_with_len 0) count

-- ---- the rows of groups, beside what is kept of them

abbrev group_rows : List RowGroupMetaData → List ℕ
group_rows groups = map (λ (group : RowGroupMetaData). group.num_rows) groups

abbrev kept_rows : List GroupKept → List ℕ
kept_rows kept = map (λ (group : GroupKept). group.rows) kept

-- of one more group
pub rows_more : (groups : List RowGroupMetaData) (kept : List GroupKept) (i : ℕ) (group : RowGroupMetaData) (one : GroupKept) → i < length groups → group ≡ get_or groups i group → one.rows ≡ group.num_rows
    → group_rows groups ≡ kept_rows kept ++ group_rows (drop i groups) → group_rows groups ≡ kept_rows (kept ++ one ∷ []) ++ group_rows (drop (i + 1) groups)
rows_more groups kept i group one below at own so_far =
    let front : drop i groups ≡ group ∷ drop (i + 1) groups = drop_more groups i group below ∙ ap (λ first. first ∷ drop (i + 1) groups) (sym at) in
    let rest = group_rows (drop (i + 1) groups) in
    so_far ∙ ap (λ groups. kept_rows kept ++ group_rows groups) front ∙ ap (λ n. kept_rows kept ++ n ∷ rest) (sym own)
    ∙ sym (append_assoc (kept_rows kept) (one.rows ∷ []) rest) ∙ ap (λ rows. rows ++ rest) (sym (map-append (λ (group : GroupKept). group.rows) kept (one ∷ [])))

pub rows_done : (groups : List RowGroupMetaData) (kept : List GroupKept) (i : ℕ) → length groups ≤ i → group_rows groups ≡ kept_rows kept ++ group_rows (drop i groups) → kept_rows kept ≡ group_rows groups
rows_done groups kept i done so_far = sym (so_far ∙ ap (λ groups. kept_rows kept ++ group_rows groups) (drop_all i groups done) ∙ append-nil (kept_rows kept))

-- where the runs lie in the rows that stand beside them, they lie in their groups
pub groups_shaped : (groups : List RowGroupMetaData) (kept : List GroupKept) (given : List (List Interval)) → kept_rows kept ≡ group_rows groups
    → list_all (λ (group : GroupKept × List Interval). is_well_shaped group.1 (group.0).rows) (zip kept given) ≡ true → lie_in_groups groups given ≡ true
groups_shaped [] kept given same shaped = refl
groups_shaped (group ∷ groups) [] given same shaped = absurd cc
groups_shaped (group ∷ groups) (one ∷ kept) [] same shaped = refl
groups_shaped (group ∷ groups) (one ∷ kept) (runs ∷ given) same shaped =
    let parts = and_parts _ _ shaped in
    let own : one.rows ≡ group.num_rows = ap (λ rows. get_or rows 0 0) same in
    and_from _ _ (ap (is_well_shaped runs) (sym own) ∙ parts.0) (groups_shaped groups kept given (ap (drop 1) same) parts.1)
