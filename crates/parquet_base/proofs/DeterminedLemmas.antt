-- A list of runs that lie apart is determined by the rows that it holds.
use Rattle.std.proofs.Common.{◌≡◌, ℕ, ◌+◌, ◌<◌, ◌≤◌, Bool, true, false, List, [], ◌∷◌, refl, sym, ap, ◌∙◌, arith, inl, inr}
use Rattle.std.proofs.lemmas.Bool.{cases_lt}
use Rattle.parquet_base.specs.declared.interval.Interval.{Interval}
use Rattle.parquet_base.specs.Intervals.{interval, end, covers, AreApart}
use Rattle.parquet_base.proofs.SegmentLemmas.{covers_before, covers_after, covers_inside}

differ : (b : Bool) → b ≡ true → b ≡ false → ⊥
differ b held free = cc

-- the first run holds its first row, and no earlier row is held
first-held : (from : ℕ) (run : Interval) (runs : List Interval) (rows : ℕ) → AreApart from (run ∷ runs) rows → covers (run ∷ runs) run.start ≡ true
first-held from run runs rows apart = covers_inside run runs run.start (omega arith) (omega (arith, apart.1))

none-earlier : (from : ℕ) (run : Interval) (runs : List Interval) (rows row : ℕ) → AreApart from (run ∷ runs) rows → row < run.start → covers (run ∷ runs) row ≡ false
none-earlier from run runs rows row apart early = covers_before run.start (run ∷ runs) rows row (omega arith, apart.1, apart.2, apart.3) early

-- the row behind it is not held
end-free : (from : ℕ) (run : Interval) (runs : List Interval) (rows : ℕ) → AreApart from (run ∷ runs) rows → covers (run ∷ runs) (end run) ≡ false
end-free from run runs rows apart = covers_after run runs (end run) (omega arith) ∙ covers_before (end run + 1) runs rows (end run) apart.3 (omega arith)

-- where both hold the same rows, neither first run begins or ends before the other
not-earlier : (from : ℕ) (x y : Interval) (xs ys : List Interval) (rows : ℕ) → AreApart from (x ∷ xs) rows → AreApart from (y ∷ ys) rows
    → ((row : ℕ) → from ≤ row → row < rows → covers (x ∷ xs) row ≡ covers (y ∷ ys) row) → y.start ≤ x.start
not-earlier from x y xs ys rows a b same = elim (cases_lt x.start y.start) [
  | inr late ↦ late
  | inl early ↦ absurd (differ _ (sym (same x.start (omega (arith, a.0)) (omega (arith, a.1, a.2))) ∙ first-held from x xs rows a) (none-earlier from y ys rows x.start b early))
]

not-shorter : (from : ℕ) (x y : Interval) (xs ys : List Interval) (rows : ℕ) → AreApart from (x ∷ xs) rows → AreApart from (y ∷ ys) rows
    → ((row : ℕ) → from ≤ row → row < rows → covers (x ∷ xs) row ≡ covers (y ∷ ys) row) → x.start ≡ y.start → end y ≤ end x
not-shorter from x y xs ys rows a b same first = elim (cases_lt (end x) (end y)) [
  | inr late ↦ late
  | inl short ↦ absurd (differ _ (same (end x) (omega (arith, a.0)) (omega (arith, b.2)) ∙ covers_inside y ys (end x) (omega (arith, a.1, first)) short) (end-free from x xs rows a))
]

pub determined : (from : ℕ) (xs ys : List Interval) (rows : ℕ) → AreApart from xs rows → AreApart from ys rows
    → ((row : ℕ) → from ≤ row → row < rows → covers xs row ≡ covers ys row) → xs ≡ ys
determined from [] [] rows a b same = refl
determined from [] (y ∷ ys) rows a b same = absurd (differ _ (same y.start (omega (arith, b.0)) (omega (arith, b.1, b.2)) ∙ first-held from y ys rows b) refl)
determined from (x ∷ xs) [] rows a b same = absurd (differ _ (sym (same x.start (omega (arith, a.0)) (omega (arith, a.1, a.2))) ∙ first-held from x xs rows a) refl)
determined from (x ∷ xs) (y ∷ ys) rows a b same =
    let turned : (row : ℕ) → from ≤ row → row < rows → covers (y ∷ ys) row ≡ covers (x ∷ xs) row = λ row low high. sym (same row low high) in
    let first : x.start ≡ y.start = omega (arith, not-earlier from x y xs ys rows a b same, not-earlier from y x ys xs rows b a turned) in
    let last : end x ≡ end y = omega (arith, not-shorter from x y xs ys rows a b same first, not-shorter from y x ys xs rows b a turned (sym first)) in
    let long : x.length ≡ y.length = omega arith in
    let run : x ≡ y = ap (λ start. interval start x.length) first ∙ ap (λ length. interval y.start length) long in
    let behind = determined (end x + 1) xs ys rows a.3 (rw last b.3) (λ row low high.
    sym (covers_after x xs row (omega arith)) ∙ same row (omega (arith, a.0)) high ∙ covers_after y ys row (omega arith)) in
    ap (λ z. z ∷ xs) run ∙ ap (λ rest. y ∷ rest) behind
