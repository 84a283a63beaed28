-- The shape of intervals.
use Rattle.std.proofs.Common.{◌≡◌, ℕ, zero, suc, ◌+◌, ◌<◌, ◌≤◌, leb, ltb, Bool, true, false, ◌&&◌, List, [], ◌∷◌, length, drop, get_or, refl, sym, ap, ◌∙◌, arith}
use Rattle.std.proofs.lemmas.Bool.{and_parts, and_from, le-leb, leb-true, lt-ltb, ltb-true}
use Rattle.std.proofs.lemmas.List.{drop_more}
use Rattle.std.proofs.lemmas.List.Sums.{sum_by-cons}
use Rattle.parquet_base.specs.declared.interval.Interval.{Interval}
use Rattle.parquet_base.specs.Intervals.{end, is_well_shaped_from, row_count}

-- a well-shaped list begins with a run that is not empty and lies behind the row
pub record BeginsWith (from : ℕ) (run : Interval) (runs : List Interval) (rows : ℕ) : Type 0 where
  pub late : from ≤ run.start
  pub some : 0 < run.length
  pub rest : is_well_shaped_from (end run) runs rows ≡ true

pub shape-cons : (from : ℕ) (run : Interval) (runs : List Interval) (rows : ℕ) → is_well_shaped_from from (run ∷ runs) rows ≡ true → BeginsWith from run runs rows
shape-cons from run runs rows h =
    let parts = and_parts (leb from run.start && ltb 0 run.length) _ h in
    let own = and_parts (leb from run.start) (ltb 0 run.length) parts.0 in
    record { late = leb-true _ _ own.0; some = ltb-true _ _ own.1; rest = parts.1 }

pub shape-le : (from : ℕ) (runs : List Interval) (rows : ℕ) → is_well_shaped_from from runs rows ≡ true → from ≤ rows
shape-le from [] rows h = leb-true _ _ h
shape-le from (run ∷ runs) rows h =
    let own = shape-cons from run runs rows h in
    let behind = shape-le (end run) runs rows own.rest in
    omega (arith, own.late, behind)

-- it may begin at its first run
pub shape-here : (from : ℕ) (run : Interval) (runs : List Interval) (rows : ℕ) → is_well_shaped_from from (run ∷ runs) rows ≡ true → is_well_shaped_from run.start (run ∷ runs) rows ≡ true
shape-here from run runs rows h =
    let own = shape-cons from run runs rows h in
    and_from _ _ (and_from _ _ (le-leb run.start run.start (omega arith)) (lt-ltb 0 run.length own.some)) own.rest

-- where a run does not lie between the rows, the list is not well shaped
pub shape-fails : (intervals : List Interval) (i from rows : ℕ) (d : Interval) → i < length intervals
    → (leb from (get_or intervals i d).start && ltb 0 (get_or intervals i d).length && leb (end (get_or intervals i d)) rows) ≡ false → is_well_shaped_from from (drop i intervals) rows ≡ false
shape-fails intervals i from rows d h fails = go (is_well_shaped_from from (drop i intervals) rows) refl where
  go : (b : Bool) → is_well_shaped_from from (drop i intervals) rows ≡ b → is_well_shaped_from from (drop i intervals) rows ≡ false
  go false e = e
  go true e =
      let run = get_or intervals i d in
      let own = shape-cons from run (drop (i + 1) intervals) rows (sym (ap (λ rest. is_well_shaped_from from rest rows) (drop_more intervals i d h)) ∙ e) in
      let first = le-leb from run.start own.late in
      let some = lt-ltb 0 run.length own.some in
      let last = le-leb (end run) rows (shape-le (end run) (drop (i + 1) intervals) rows own.rest) in
      absurd (differ _ (and_from _ _ (and_from _ _ first some) last) fails) where
        differ : (b : Bool) → b ≡ true → b ≡ false → ⊥
        differ b yes_ no_ = cc

-- what is well shaped from a row on is so from one before it
pub shape-weaker : (from from' : ℕ) (runs : List Interval) (rows : ℕ) → from' ≤ from → is_well_shaped_from from runs rows ≡ true → is_well_shaped_from from' runs rows ≡ true
shape-weaker from from' [] rows h shaped = le-leb _ _ (omega (arith, leb-true _ _ shaped))
shape-weaker from from' (run ∷ runs) rows h shaped =
    let own = shape-cons from run runs rows shaped in
    and_from _ _ (and_from _ _ (le-leb from' run.start (omega (arith, own.late))) (lt-ltb 0 run.length own.some)) own.rest

-- what is behind some of the runs is well shaped
pub shape-drop : (from : ℕ) (runs : List Interval) (rows i : ℕ) → is_well_shaped_from from runs rows ≡ true → is_well_shaped_from from (drop i runs) rows ≡ true
shape-drop from runs rows zero shaped = shaped
shape-drop from [] rows (suc i) shaped = shaped
shape-drop from (run ∷ runs) rows (suc i) shaped =
    let own = shape-cons from run runs rows shaped in
    shape-weaker (end run) from (drop i runs) rows (omega (arith, own.late)) (shape-drop (end run) runs rows i own.rest)

-- the run at an index ends within the rows
pub shape-end : (from : ℕ) (runs : List Interval) (rows i : ℕ) (d : Interval) → is_well_shaped_from from runs rows ≡ true → i < length runs → end (get_or runs i d) ≤ rows
shape-end from [] rows i d shaped h = absurd (omega arith)
shape-end from (run ∷ runs) rows zero d shaped h = shape-le (end run) runs rows (shape-cons from run runs rows shaped).rest
shape-end from (run ∷ runs) rows (suc i) d shaped h = shape-end (end run) runs rows i d (shape-cons from run runs rows shaped).rest (omega arith)

-- what is well shaped for some rows is so for more
pub shape-wider : (from : ℕ) (runs : List Interval) (rows more : ℕ) → rows ≤ more → is_well_shaped_from from runs rows ≡ true → is_well_shaped_from from runs more ≡ true
shape-wider from [] rows more h shaped = le-leb _ _ (omega (arith, leb-true _ _ shaped))
shape-wider from (run ∷ runs) rows more h shaped =
    let own = shape-cons from run runs rows shaped in
    and_from _ _ (and_from _ _ (le-leb from run.start own.late) (lt-ltb 0 run.length own.some)) (shape-wider (end run) runs rows more h own.rest)

-- there are no more rows selected than there are
pub shape-count : (from : ℕ) (runs : List Interval) (rows : ℕ) → is_well_shaped_from from runs rows ≡ true → from + row_count runs ≤ rows
shape-count from [] rows shaped = omega (arith, leb-true _ _ shaped)
shape-count from (run ∷ runs) rows shaped =
    let own = shape-cons from run runs rows shaped in
    let behind = shape-count (end run) runs rows own.rest in
    let sum = sum_by-cons (λ (run : Interval). run.length) run runs in
    omega (arith, own.late, behind, sum)
