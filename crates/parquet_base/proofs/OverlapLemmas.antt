-- The rows of intervals that lie in a page.
use Rattle.std.proofs.Common.{◌≡◌, ℕ, zero, suc, ◌+◌, ◌-◌, ◌<◌, ◌≤◌, min, max, leb, Bool, true, false, List, [], ◌∷◌, ◌++◌, length, take, drop, get_or, Option, Some, None, refl, sym, ap, ◌∙◌, arith, inl, inr}
use Rattle.std.specs.Prelude.{◌||◌}
use Rattle.std.specs.List.{cons_option, AllWithin}
use Rattle.std.specs.List.Sorted.{IsPartitionedBy}
use Rattle.std.proofs.lemmas.Bool.{cases_lt, and_from, le-leb, leb-true, lt-ltb, le-ltb}
use Rattle.std.proofs.lemmas.List.{drop_more, drop_all, length-drop, take-append-drop, append-nil}
use Rattle.std.proofs.Math.Seq.{take-length}
use Rattle.std.proofs.lemmas.List.Elements.{filter_map-append}
use Rattle.parquet_base.specs.declared.interval.Interval.{Interval}
use Rattle.parquet_base.specs.Intervals.{interval, end, holds, covers, is_well_shaped, is_well_shaped_from, overlap, overlaps}
use Rattle.parquet_base.proofs.ShapeLemmas.{shape-cons, shape-drop}
use Rattle.parquet_base.proofs.SegmentLemmas.{holds_inside, holds_before, holds_after}

-- ---- intervals beside a page

pub overlap-behind : (page run : Interval) → end page ≤ run.start → overlap page run ≡ None
overlap-behind page run h = rw (le-ltb (max page.start run.start) (min (end page) (end run)) (omega arith)) refl

-- behind a page nothing lies in it
pub overlaps-behind : (page : Interval) (from : ℕ) (runs : List Interval) (rows : ℕ) → is_well_shaped_from from runs rows ≡ true → end page ≤ from → overlaps page runs ≡ []
overlaps-behind page from [] rows shaped h = refl
overlaps-behind page from (run ∷ runs) rows shaped h =
    let own = shape-cons from run runs rows shaped in
    ap (λ o. cons_option o (overlaps page runs)) (overlap-behind page run (omega (arith, own.late)))
    ∙ overlaps-behind page (end run) runs rows own.rest (omega (arith, own.late))

-- ---- those that end before a page

-- an interval is not empty and ends at or before a row
abbrev pub ends_by : ℕ → Interval → Bool
ends_by row run = leb run.length (row - run.start)

start-late : (from : ℕ) (runs : List Interval) (rows j : ℕ) (d : Interval) → is_well_shaped_from from runs rows ≡ true → j < length runs → (from ≤ (get_or runs j d).start) × (0 < (get_or runs j d).length)
start-late from [] rows j d shaped h = absurd (omega arith)
start-late from (run ∷ runs) rows zero d shaped h = let own = shape-cons from run runs rows shaped in (own.late, own.some)
start-late from (run ∷ runs) rows (suc j) d shaped h =
    let own = shape-cons from run runs rows shaped in
    let behind = start-late (end run) runs rows j d own.rest (omega arith) in
    (omega (arith, behind.0, own.late), behind.1)

in-order : (from : ℕ) (runs : List Interval) (rows i j : ℕ) (d : Interval) → is_well_shaped_from from runs rows ≡ true → i < j → j < length runs → end (get_or runs i d) ≤ (get_or runs j d).start
in-order from [] rows i j d shaped lt h = absurd (omega arith)
in-order from (run ∷ runs) rows i zero d shaped lt h = absurd (omega arith)
in-order from (run ∷ runs) rows zero (suc j) d shaped lt h = (start-late (end run) runs rows j d (shape-cons from run runs rows shaped).rest (omega arith)).0
in-order from (run ∷ runs) rows (suc i) (suc j) d shaped lt h = in-order (end run) runs rows i j d (shape-cons from run runs rows shaped).rest (omega arith) (omega arith)

pub ends-partitioned : (row : ℕ) (runs : List Interval) (rows : ℕ) → is_well_shaped runs rows ≡ true → IsPartitionedBy (ends_by row) runs
ends-partitioned row runs rows shaped i j d le lt early = elim (cases_lt i j) [
  | inl before ↦
      let apart = in-order 0 runs rows i j d shaped before lt in
      let later = start-late 0 runs rows j d shaped lt in
      let short = leb-true _ _ early in
      le-leb _ _ (omega arith)
  | inr same ↦ (let one : j ≡ i = omega arith in rw one at early)
]

-- intervals that end by the first row of a page have none of its rows
none-early : (page : Interval) (runs : List Interval) (i : ℕ) → AllWithin (λ run. ends_by page.start run ≡ true) runs 0 i → overlaps page (take i runs) ≡ []
none-early page runs zero early = refl
none-early page [] (suc i) early = refl
none-early page (run ∷ runs) (suc i) early =
    let short = leb-true _ _ (early 0 run (omega arith) (omega arith)) in
    ap (λ o. cons_option o (overlaps page (take i runs))) (overlap-short page run short)
    ∙ none-early page runs i (λ k d low high. early (suc k) d (omega arith) (omega arith)) where
      overlap-short : (page run : Interval) → run.length ≤ page.start - run.start → overlap page run ≡ None
      overlap-short page run short = rw (le-ltb (max page.start run.start) (min (end page) (end run)) (omega arith)) refl

pub overlaps-from : (page : Interval) (runs : List Interval) (i : ℕ) → AllWithin (λ run. ends_by page.start run ≡ true) runs 0 i → overlaps page (drop i runs) ≡ overlaps page runs
overlaps-from page runs i early =
    sym (ap (overlaps page) (sym (take-append-drop i runs)) ∙ filter_map-append (overlap page) (take i runs) (drop i runs)
    ∙ ap (λ front. front ++ overlaps page (drop i runs)) (none-early page runs i early))

-- what a slice from an index on is
pub rest_is : (runs : List Interval) (i : ℕ) → take (length runs - i) (drop i runs) ≡ drop i runs
rest_is runs i = ap (λ n. take n (drop i runs)) (sym (length-drop i runs)) ∙ take-length (drop i runs)

-- where none is left, or the next begins behind the page
pub pieces-done : (page : Interval) (runs : List Interval) (i : ℕ) (pieces total : List Interval) → length runs ≤ i → pieces ++ overlaps page (drop i runs) ≡ total → pieces ≡ total
pieces-done page runs i pieces total h so_far = sym (append-nil pieces) ∙ ap (λ rest. pieces ++ overlaps page rest) (sym (drop_all i runs h)) ∙ so_far

pub pieces-behind : (page : Interval) (runs : List Interval) (i rows : ℕ) (d : Interval) (pieces total : List Interval) → is_well_shaped runs rows ≡ true → i < length runs → end page ≤ (get_or runs i d).start
    → pieces ++ overlaps page (drop i runs) ≡ total → pieces ≡ total
pieces-behind page runs i rows d pieces total shaped h behind so_far =
    let run = get_or runs i d in
    let here : drop i runs ≡ run ∷ drop (i + 1) runs = drop_more runs i d h in
    let own = shape-cons 0 run (drop (i + 1) runs) rows (sym (ap (λ rest. is_well_shaped_from 0 rest rows) here) ∙ shape-drop 0 runs rows i shaped) in
    let none : overlaps page (drop i runs) ≡ [] =
    ap (overlaps page) here ∙ ap (λ o. cons_option o (overlaps page (drop (i + 1) runs))) (overlap-behind page run behind)
    ∙ overlaps-behind page (end run) (drop (i + 1) runs) rows own.rest (omega arith) in
    sym (append-nil pieces) ∙ ap (λ rest. pieces ++ rest) (sym none) ∙ so_far

-- ---- which rows they hold

-- whether an optional interval holds a row
abbrev piece_holds : ℕ → Option Interval → Bool
piece_holds row None = false
piece_holds row (Some run) = holds run row

-- the rows of the piece, where there is one
abbrev piece : Interval → Interval → Interval
piece page run = interval (max page.start run.start - page.start) (min (end page) (end run) - max page.start run.start)

one-piece : (page run : Interval) (row : ℕ) → row < page.length → max page.start run.start < min (end page) (end run) → holds (piece page run) row ≡ holds run (page.start + row)
one-piece page run row h some =
    elim (cases_lt (page.start + row) run.start) [
      | inl early ↦ holds_before (piece page run) row (omega arith) ∙ sym (holds_before run (page.start + row) early)
      | inr from ↦ elim (cases_lt (page.start + row) (end run)) [
        | inl to ↦ holds_inside (piece page run) row (omega arith) (omega arith) ∙ sym (holds_inside run (page.start + row) from to)
        | inr late ↦ holds_after (piece page run) row (omega arith) ∙ sym (holds_after run (page.start + row) late)
      ]
    ]

no-piece : (page run : Interval) (row : ℕ) → row < page.length → min (end page) (end run) ≤ max page.start run.start → holds run (page.start + row) ≡ false
no-piece page run row h none =
    elim (cases_lt (page.start + row) run.start) [
      | inl early ↦ holds_before run (page.start + row) early
      | inr from ↦ holds_after run (page.start + row) (omega arith)
    ]

same-row : (page run : Interval) (row : ℕ) → row < page.length → piece_holds row (overlap page run) ≡ holds run (page.start + row)
same-row page run row h =
    elim (cases_lt (max page.start run.start) (min (end page) (end run))) [
      | inl some ↦ rw (lt-ltb _ _ some) (one-piece page run row h some)
      | inr none ↦ rw (le-ltb _ _ none) (sym (no-piece page run row h none))
    ]

in-front : (row : ℕ) (o : Option Interval) (others : List Interval) → covers (cons_option o others) row ≡ (piece_holds row o || covers others row)
in-front row None others = refl
in-front row (Some run) others = refl

pub covers-overlaps : (page : Interval) (runs : List Interval) (row : ℕ) → row < page.length → covers (overlaps page runs) row ≡ covers runs (page.start + row)
covers-overlaps page [] row h = refl
covers-overlaps page (run ∷ runs) row h =
    in-front row (overlap page run) (overlaps page runs)
    ∙ ap (λ b. b || covers (overlaps page runs) row) (same-row page run row h)
    ∙ ap (λ b. holds run (page.start + row) || b) (covers-overlaps page runs row h)

-- ---- their shape

shaped-from : (page : Interval) (runs : List Interval) (from at rows : ℕ) → at ≤ page.length → at ≤ from - page.start → is_well_shaped_from from runs rows ≡ true → is_well_shaped_from at (overlaps page runs) page.length ≡ true
shaped-from page [] from at rows within low shaped = le-leb _ _ within
shaped-from page (run ∷ runs) from at rows within low shaped =
    let own = shape-cons from run runs rows shaped in
    elim (cases_lt (max page.start run.start) (min (end page) (end run))) [
      | inl some ↦
          let found = piece page run in
          let late : at ≤ found.start = omega (arith, own.late) in
          let long : 0 < found.length = omega arith in
          let behind = shaped-from page runs (end run) (end found) rows (omega arith) (omega arith) own.rest in
          rw (lt-ltb _ _ some) (and_from _ _ (and_from _ _ (le-leb _ _ late) (lt-ltb _ _ long)) behind)
      | inr none ↦ rw (le-ltb _ _ none) (shaped-from page runs (end run) at rows within (omega (arith, own.late)) own.rest)
    ]

pub overlaps-shaped : (page : Interval) (runs : List Interval) (rows : ℕ) → is_well_shaped runs rows ≡ true → is_well_shaped (overlaps page runs) page.length ≡ true
overlaps-shaped page runs rows shaped = shaped-from page runs 0 0 rows (omega arith) (omega arith) shaped
