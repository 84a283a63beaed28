-- Runs of the selected rows of a page.
use Rattle.std.proofs.Common.{◌≡◌, ℕ, zero, suc, ◌+◌, ◌-◌, ◌<◌, ◌≤◌, Bool, true, false, cond, List, [], ◌∷◌, ◌++◌, length, take, drop, Option, Some, None, refl, sym, ap, subst, ◌∙◌, arith, length-append, length-drop, take-append-drop, append-nil}
use Rattle.std.specs.Prelude.{◌==◌, replicate, filter, map, min, IsSome, is_some, nat_le, unwrap_or}
use Rattle.std.specs.List.{list_all, range_with_len}
use Rattle.std.proofs.lemmas.Bool.{cond-false}
use Rattle.std.proofs.lemmas.List.{length-map, length-replicate, length-take-le}
use Rattle.parquet_base.specs.Reading.{given}
use Rattle.parquet_base.specs.Intervals.{covers, interval, rows_of}
use Rattle.parquet_base.specs.declared.interval.Interval.{Interval}
use Rattle.parquet_base.proofs.RowLemmas.{rows_of-passing}
use Rattle.parquet_encoding.specs.Hybrid.{hybrid}
use Rattle.parquet_encoding.proofs.StepLemmas.{bind_some, given_some, is_something, some_is}
use Rattle.parquet_meta.specs.declared.metadata.Repetition.{Repetition}
use Rattle.parquet_meta.specs.declared.metadata.Repetition.TheVariants.{Required, Optional, Repeated}
use Rattle.parquet_page.specs.Content.{DataContent, fit_in, header_values}
use Rattle.parquet_page.specs.Levels.{Body, body_parts, presence, present_count}
use Rattle.parquet_page.specs.ValidityLeft.{levels_causes, page_places}
use Rattle.parquet_page.proofs.SpelledLemmas.{absent_same, length-hybrid, present_suc}
use Rattle.parquet_page.proofs.ValidityLemmas.{has-places, length-all, no-places, places-at, plan-all}
use Rattle.parquet_page.specs.Stretches.{BeginsOtherwise}
use Rattle.parquet_page.specs.Plan.{Pass, Step, is_selected, kept_count, plan, plan_from, steps_at}
use Rattle.page_decoding.specs.FilteredLeft.{intervals_of, stored_values}
use Rattle.parquet_page.proofs.PlanLemmas.{kept_as, plan-append, plan-kept, plan-passed}

-- ---- rows that pass a test

abbrev passing : (ℕ → Bool) → ℕ → ℕ → List ℕ
passing test row n = filter test (range_with_len row n)

-- the first row that passes
pub record Begins (test : ℕ → Bool) (row n first : ℕ) (rest : List ℕ) : Type 0 where
  pub low : row ≤ first
  pub high : first < row + n
  pub fails : (k : ℕ) → row + k < first → test (row + k) ≡ false
  pub passes : test first ≡ true
  pub behind : filter test (range_with_len (first + 1) (n - (first + 1 - row))) ≡ rest

begins-later : (test : ℕ → Bool) (row n first : ℕ) (rest : List ℕ) → test row ≡ false → Begins test (row + 1) n first rest → Begins test row (suc n) first rest
begins-later test row n first rest fails later = record {
  low = omega (arith, later.low);
  high = omega (arith, later.high);
  fails = λ k h. at k h;
  passes = later.passes;
  behind = let e : suc n - (first + 1 - row) ≡ n - (first + 1 - (row + 1)) = omega (arith, later.low) in ap (passing test (first + 1)) e ∙ later.behind;
} where
  at : (k : ℕ) → row + k < first → test (row + k) ≡ false
  at zero h = let e : row + zero ≡ row = omega arith in ap test e ∙ fails
  at (suc k) h = let e : row + suc k ≡ row + 1 + k = omega arith in ap test e ∙ later.fails k (omega arith)

begins-here : (test : ℕ → Bool) (row n first : ℕ) (rest : List ℕ) → test row ≡ true → row ∷ passing test (row + 1) n ≡ first ∷ rest → Begins test row (suc n) first rest
begins-here test row n first rest own e =
    let same : row ≡ first = cc in
    let others : passing test (row + 1) n ≡ rest = cc in
    let P : ℕ → Type 0 = λ at. Begins test row (suc n) at rest in
    let left : suc n - (row + 1 - row) ≡ n = omega arith in
    subst P same (record { low = omega arith; high = omega arith; fails = λ k h. absurd (omega arith); passes = own; behind = ap (passing test (row + 1)) left ∙ others })

begins-by : (test : ℕ → Bool) (row n first : ℕ) (rest : List ℕ) (b : Bool) → test row ≡ b → (passing test (row + 1) n ≡ first ∷ rest → Begins test (row + 1) n first rest) → cond b (row ∷ passing test (row + 1) n) (passing test (row + 1) n) ≡ first ∷ rest
    → Begins test row (suc n) first rest
begins-by test row n first rest false own further e = begins-later test row n first rest own (further e)
begins-by test row n first rest true own further e = begins-here test row n first rest own e

pub begins : (test : ℕ → Bool) (row n first : ℕ) (rest : List ℕ) → filter test (range_with_len row n) ≡ first ∷ rest → Begins test row n first rest
begins test row zero first rest e = absurd cc
begins test row (suc n) first rest e = begins-by test row n first rest (test row) refl (begins test (row + 1) n first rest) e

-- a range of rows that pass
pub record IsRange (test : ℕ → Bool) (row n count : ℕ) (rest : List ℕ) : Type 0 where
  pub passes : (k : ℕ) → k < count → test (row + k) ≡ true
  pub behind : filter test (range_with_len (row + count) (n - count)) ≡ rest

pub is_range : (test : ℕ → Bool) (row n count : ℕ) (rest : List ℕ) → filter test (range_with_len row n) ≡ range_with_len row count ++ rest → IsRange test row n count rest
is_range test row n zero rest e = record {
  passes = λ k h. absurd (omega arith);
  behind = let here : row + zero ≡ row = omega arith in let all : n - zero ≡ n = omega arith in ap (λ at. passing test at (n - zero)) here ∙ ap (passing test row) all ∙ e;
}
is_range test row n (suc count) rest e =
    let first = begins test row n row (range_with_len (row + 1) count ++ rest) e in
    let one : n - (row + 1 - row) ≡ n - 1 = omega arith in
    let others = is_range test (row + 1) (n - 1) count rest (ap (passing test (row + 1)) (sym one) ∙ first.behind) in
    record {
      passes = λ k h. at k h first.passes others.passes;
      behind = let there : row + suc count ≡ row + 1 + count = omega arith in let left : n - suc count ≡ n - 1 - count = omega arith in ap (λ from. passing test from (n - suc count)) there ∙ ap (passing test (row + 1 + count)) left ∙ others.behind;
    } where
      at : (k : ℕ) → k < suc count → test row ≡ true → ((j : ℕ) → j < count → test (row + 1 + j) ≡ true) → test (row + k) ≡ true
      at zero h first others = let e : row + zero ≡ row = omega arith in ap test e ∙ first
      at (suc k) h first others = let e : row + suc k ≡ row + 1 + k = omega arith in ap test e ∙ others k (omega arith)

-- ---- the selected rows of a page

passing-every : (row n : ℕ) → passing (λ row. true) row n ≡ range_with_len row n
passing-every row zero = refl
passing-every row (suc n) = ap (λ rest. row ∷ rest) (passing-every (row + 1) n)

all_rows : (count : ℕ) → rows_of (intervals_of count None) ≡ passing (is_selected None) 0 count
all_rows zero = refl
all_rows (suc count) = append-nil (range_with_len 0 (suc count)) ∙ sym (passing-every 0 (suc count))

pub selected_rows_are : (count : ℕ) (selected : Option (List Interval)) → fit_in count selected ≡ true → rows_of (intervals_of count selected) ≡ filter (is_selected selected) (range_with_len 0 count)
selected_rows_are count None shaped = all_rows count
selected_rows_are count (Some rows) shaped = let e : count - 0 ≡ count = omega arith in rows_of-passing 0 rows count shaped ∙ ap (passing (covers rows) 0) e

-- a page gives as many rows as are selected
pub kept-rows : (selected : Option (List Interval)) (row : ℕ) (places : List Bool) → kept_count (plan_from selected row places) ≡ length (filter (is_selected selected) (range_with_len row (length places)))
kept-rows selected row [] = refl
kept-rows selected row (place ∷ places) = one (is_selected selected row) place (plan_from selected (row + 1) places) (passing (is_selected selected) (row + 1) (length places)) (kept-rows selected (row + 1) places) where
  one : (is_wanted place : Bool) (steps : List Step) (others : List ℕ) → kept_count steps ≡ length others → kept_count (steps_at is_wanted place ++ steps) ≡ length (cond is_wanted (row ∷ others) others)
  one true true steps others e = omega (arith, e)
  one true false steps others e = omega (arith, e)
  one false true steps others e = e
  one false false steps others e = e

-- ---- rows that are passed over

pub record PassesRows (selected : Option (List Interval)) (row rows values : ℕ) (old new : List Bool) : Type 0 where
  pub steps : plan_from selected row old ≡ replicate values Pass ++ plan_from selected (row + rows) new
  pub many : row + rows + length new ≡ row + length old

pub passes-rows : (selected : Option (List Interval)) (row rows values : ℕ) (old new : List Bool) → rows ≤ length old → ((k : ℕ) → k < rows → is_selected selected (row + k) ≡ false) → values ≡ present_count (take rows old) → new ≡ drop rows old
    → PassesRows selected row rows values old new
passes-rows selected row rows values old new within none counted left =
    let size : length (take rows old) ≡ rows = length-take-le rows old within in
    let F : ℕ → Type 0 = λ n. (k : ℕ) → k < n → is_selected selected (row + k) ≡ false in
    record {
      steps =
          ap (plan_from selected row) (sym (take-append-drop rows old))
          ∙ plan-append selected row (take rows old) (drop rows old)
          ∙ ap (λ n. plan_from selected row (take rows old) ++ plan_from selected (row + n) (drop rows old)) size
          ∙ ap (λ steps. steps ++ plan_from selected (row + rows) (drop rows old)) (plan-passed selected row (take rows old) (subst F (sym size) none) ∙ ap (λ n. replicate n Pass) (sym counted))
          ∙ ap (λ rest. replicate values Pass ++ plan_from selected (row + rows) rest) (sym left);
      many = omega (arith, ap length left, length-drop rows old, within);
    }

-- behind them a selected row stands, or none
pub not-passed : (selected : Option (List Interval)) (row : ℕ) (places : List Bool) → is_selected selected row ≡ true → BeginsOtherwise Pass (plan_from selected row places)
not-passed selected row [] own = tt
not-passed selected row (place ∷ places) own =
    let P : Bool → Type 0 = λ b. BeginsOtherwise Pass (steps_at b place ++ plan_from selected (row + 1) places) in
    subst P (sym own) (kept place (plan_from selected (row + 1) places)) where
      kept : (place : Bool) (rest : List Step) → BeginsOtherwise Pass (steps_at true place ++ rest)
      kept true rest = λ e. absurd cc
      kept false rest = λ e. absurd cc

-- ---- rows that are given

pub record KeepsRows (selected : Option (List Interval)) (row count : ℕ) (places old new : List Bool) : Type 0 where
  pub steps : plan_from selected row old ≡ plan None places ++ plan_from selected (row + count) new
  pub many : row + count + length new ≡ row + length old

pub keeps-rows : (selected : Option (List Interval)) (row count : ℕ) (places old new : List Bool) → old ≡ places ++ new → length places ≡ count → ((k : ℕ) → k < count → is_selected selected (row + k) ≡ true) → KeepsRows selected row count places old new
keeps-rows selected row count places old new split long all =
    let F : ℕ → Type 0 = λ n. (k : ℕ) → k < n → is_selected selected (row + k) ≡ true in
    record {
      steps =
          ap (plan_from selected row) split
          ∙ plan-append selected row places new
          ∙ ap (λ n. plan_from selected row places ++ plan_from selected (row + n) new) long
          ∙ ap (λ steps. steps ++ plan_from selected (row + count) new) (plan-kept selected row places (subst F (sym long) all) ∙ sym (plan-all 0 places));
      many = omega (arith, ap length split, length-append places new, long);
    }

-- where another place stands behind them, so does another step
pub other-step : (selected : Option (List Interval)) (row : ℕ) (kind : Bool) (places : List Bool) → is_selected selected row ≡ true → BeginsOtherwise kind places → BeginsOtherwise (kept_as kind) (plan_from selected row places)
other-step selected row kind [] own other = tt
other-step selected row kind (place ∷ places) own other =
    let P : Bool → Type 0 = λ b. BeginsOtherwise (kept_as kind) (steps_at b place ++ plan_from selected (row + 1) places) in
    subst P (sym own) (kept kind place (plan_from selected (row + 1) places) other) where
      kept : (kind place : Bool) (rest : List Step) → (place ≡ kind → ⊥) → BeginsOtherwise (kept_as kind) (steps_at true place ++ rest)
      kept true true rest other = absurd (other refl)
      kept true false rest other = λ e. absurd cc
      kept false true rest other = λ e. absurd cc
      kept false false rest other = absurd (other refl)

-- ---- no selected row is left

none-by : (test : ℕ → Bool) (row n : ℕ) (b : Bool) → test row ≡ b → (passing test (row + 1) n ≡ [] → (k : ℕ) → k < n → test (row + 1 + k) ≡ false) → cond b (row ∷ passing test (row + 1) n) (passing test (row + 1) n) ≡ [] → (k : ℕ) → k < suc n → test (row + k) ≡ false
none-by test row n true own further e k h = absurd cc
none-by test row n false own further e zero h = let at : row + zero ≡ row = omega arith in ap test at ∙ own
none-by test row n false own further e (suc k) h = let at : row + suc k ≡ row + 1 + k = omega arith in ap test at ∙ further e k (omega arith)

pub none-selected : (test : ℕ → Bool) (row n : ℕ) → filter test (range_with_len row n) ≡ [] → (k : ℕ) → k < n → test (row + k) ≡ false
none-selected test row zero e k h = absurd (omega arith)
none-selected test row (suc n) e k h = none-by test row n (test row) refl (none-selected test (row + 1) n) e k h

-- the rest of the rows has the selected ones that are left
passing-behind : (test : ℕ → Bool) (row n m : ℕ) → m ≤ n → ((k : ℕ) → k < m → test (row + k) ≡ false) → passing test row n ≡ passing test (row + m) (n - m)
passing-behind test row n zero h fails = let here : row ≡ row + zero = omega arith in let all : n ≡ n - zero = omega arith in ap (passing test row) all ∙ ap (λ at. passing test at (n - zero)) here
passing-behind test row zero (suc m) h fails = absurd (omega arith)
passing-behind test row (suc n) (suc m) h fails =
    let here : row + 0 ≡ row = omega arith in
    let there : row + 1 + m ≡ row + suc m = omega arith in
    let left : n - m ≡ suc n - suc m = omega arith in
    cond-false (test row) _ _ (ap test (sym here) ∙ fails 0 (omega arith))
    ∙ passing-behind test (row + 1) n m (omega arith) (λ k h. let at : row + 1 + k ≡ row + suc k = omega arith in ap test at ∙ fails (suc k) (omega arith))
    ∙ ap (λ at. passing test at (n - m)) there
    ∙ ap (passing test (row + suc m)) left

pub behind-gap : (test : ℕ → Bool) (row n m : ℕ) → m ≤ n → ((k : ℕ) → k < m → test (row + k) ≡ false) → filter test (range_with_len row n) ≡ filter test (range_with_len (row + m) (n - m))
behind-gap test row n m h fails = passing-behind test row n m h fails

-- ---- the walk begins

pub whole-is : (count : ℕ) → take (min count 1) (interval 0 count ∷ []) ≡ intervals_of count None
whole-is zero = refl
whole-is (suc count) = let one : min (suc count) 1 ≡ 1 = omega arith in rw one refl

presence-length : (repetition : Repetition) (levels : List ℕ) (count : ℕ) (places : List Bool) → presence repetition levels count ≡ Some places → length places ≡ count
unfolding presence
presence-length Required levels count places e = ap length (sym (some_is (replicate count true) places e)) ∙ length-replicate count true
presence-length Optional levels count places e =
    let numbers = bind_some (hybrid 1 levels count) (λ numbers. given (list_all (λ level. nat_le level 1) numbers) (map (λ level. level == 1) numbers)) places e in
    let own = given_some (list_all (λ level. nat_le level 1) numbers.0) (map (λ level. level == 1) numbers.0) places numbers.2 in
    ap length (sym own.1) ∙ length-map numbers.0 (λ level. level == 1) ∙ length-hybrid 1 levels count numbers.0 numbers.1
presence-length Repeated levels count places e = absurd cc

-- they are as many as the header says
pub places-length : (page : DataContent) (places : List Bool) → page_places page ≡ Some places → length places ≡ header_values page.header
places-length page places e = go (body_parts page.type.repetition page.header page.body) refl where
  nothing-is : (o : Option (List Bool)) → o ≡ None → o ≡ Some places → ⊥
  nothing-is o none some = absurd cc

  go : (o : Option Body) → body_parts page.type.repetition page.header page.body ≡ o → length places ≡ header_values page.header
  go None at = absurd (nothing-is (page_places page) (no-places page at) e)
  go (Some body) at = presence-length page.type.repetition body.definition (header_values page.header) places (sym (places-at page body at) ∙ e)

-- as many rows as the header says
pub record BeginsPage (page : DataContent) (left : Option (List Bool)) (n : ℕ) : Type 0 where
  pub some : IsSome left
  pub many : n ≡ header_values page.header
  pub long : length (unwrap_or left []) ≡ header_values page.header

pub begins-page : (page : DataContent) (left : Option (List Bool)) (n : ℕ) → left ≡ page_places page → levels_causes page ≡ [] → (IsSome left → n ≡ length (plan None (unwrap_or left []))) → BeginsPage page left n
begins-page page left n same none counted =
    let places = is_something (page_places page) (has-places page none) in
    let is : left ≡ Some places.0 = same ∙ places.1 in
    let some : IsSome left = ap is_some is in
    let long : length (unwrap_or left []) ≡ header_values page.header = ap (λ (o : Option (List Bool)). length (unwrap_or o [])) is ∙ places-length page places.0 places.1 in
    record { some = some; many = counted some ∙ length-all (unwrap_or left []) ∙ long; long = long }

-- Each place that has a value takes one along its steps, or passes over it.
pub stored-plan : (selected : Option (List Interval)) (row : ℕ) (places : List Bool) → stored_values (plan_from selected row places) ≡ present_count places
stored-plan selected row [] = refl
stored-plan selected row (place ∷ places) = step (is_selected selected row) place (plan_from selected (row + 1) places) (stored-plan selected (row + 1) places) where
  step : (is_wanted place : Bool) (rest : List Step) → stored_values rest ≡ present_count places → stored_values (steps_at is_wanted place ++ rest) ≡ present_count (place ∷ places)
  step true true rest e = omega (arith, e, present_suc places)
  step true false rest e = e ∙ sym (absent_same places)
  step false true rest e = omega (arith, e, present_suc places)
  step false false rest e = e ∙ sym (absent_same places)
