-- Stored values along a page's plan.
use Rattle.std.proofs.Common.{◌≡◌, ℕ, zero, suc, ◌+◌, ◌<◌, ◌≤◌, Bool, true, false, List, [], ◌∷◌, ◌++◌, length, take, drop, map, Option, Some, None, refl, sym, ap, ◌∙◌, arith, append_assoc}
use Rattle.std.specs.Prelude.{if◌then◌else◌, replicate}
use Rattle.parquet_base.specs.Reading.{◌>>=◌}
use Rattle.parquet_base.specs.declared.interval.Interval.{Interval}
use Rattle.parquet_page.specs.Levels.{placed, present_count}
use Rattle.parquet_page.specs.Plan.{Keep, KeepNull, Pass, Step, along, is_selected, plan, plan_from, selected_from, steps_at}
use Rattle.parquet_page.specs.Selected.{covered_from, selected_of}
use Rattle.parquet_page.proofs.SpelledLemmas.{absent_same, present_suc}

-- the rest of a list that begins with this
push_some : {A : Type 0} (x : A) (rest : Option (List A)) (list : List A) → (rest >>= λ others. Some (x ∷ others)) ≡ Some list → (others : List A) × (rest ≡ Some others) × (list ≡ x ∷ others)
push_some x None list e = absurd cc
push_some x (Some others) list e = (others, refl, cc)

-- one row on
selected-step : {A : Type 0} (selected : Option (List Interval)) (row : ℕ) (x : A) (xs : List A) → selected_from selected row (x ∷ xs) ≡ (if is_selected selected row then x ∷ selected_from selected (row + 1) xs else selected_from selected (row + 1) xs)
selected-step None row x xs = refl
selected-step (Some rows) row x xs = refl

absent : {A : Type 0} (is_wanted : Bool) (rest : List Step) (values : List A) (others : List (Option A)) → along rest values ≡ others → along (steps_at is_wanted false ++ rest) values ≡ (if is_wanted then None ∷ others else others)
absent true rest values others e = ap (λ xs. None ∷ xs) e
absent false rest values others e = e

present : {A : Type 0} (is_wanted : Bool) (rest : List Step) (value : A) (values : List A) (others : List (Option A)) → along rest values ≡ others → along (steps_at is_wanted true ++ rest) (value ∷ values) ≡ (if is_wanted then Some value ∷ others else others)
present true rest value values others e = ap (λ xs. Some value ∷ xs) e
present false rest value values others e = e

along-plan_from : {A : Type 0} (selected : Option (List Interval)) (row : ℕ) (places : List Bool) (values : List A) (list : List (Option A)) → placed places values ≡ Some list → along (plan_from selected row places) values ≡ selected_from selected row list
along-plan_from None row [] [] list e = let l : list ≡ [] = cc in sym l
along-plan_from (Some rows) row [] [] list e = let l : list ≡ [] = cc in ap (covered_from rows row) (sym l)
along-plan_from selected row [] (value ∷ values) list e = absurd cc
along-plan_from selected row (false ∷ places) values list e =
    let split = push_some None (placed places values) list e in
    absent (is_selected selected row) (plan_from selected (row + 1) places) values (selected_from selected (row + 1) split.0) (along-plan_from selected (row + 1) places values split.0 split.1)
    ∙ sym (selected-step selected row None split.0)
    ∙ ap (selected_from selected row) (sym split.2)
along-plan_from selected row (true ∷ places) [] list e = absurd cc
along-plan_from selected row (true ∷ places) (value ∷ values) list e =
    let split = push_some (Some value) (placed places values) list e in
    present (is_selected selected row) (plan_from selected (row + 1) places) value values (selected_from selected (row + 1) split.0) (along-plan_from selected (row + 1) places values split.0 split.1)
    ∙ sym (selected-step selected row (Some value) split.0)
    ∙ ap (selected_from selected row) (sym split.2)

selected-first : {A : Type 0} (selected : Option (List Interval)) (list : List A) → selected_from selected 0 list ≡ selected_of selected list
selected-first None list = refl
selected-first (Some rows) list = refl

-- The stored values of a page along its plan are the selected ones of the list that it spells.
pub along-plan : {A : Type 0} (selected : Option (List Interval)) (places : List Bool) (values : List A) (list : List (Option A)) → placed places values ≡ Some list → along (plan selected places) values ≡ selected_of selected list
along-plan selected places values list e = along-plan_from selected 0 places values list e ∙ selected-first selected list

-- ---- runs

pub along-present : {A : Type 0} (n : ℕ) (rest : List Step) (values : List A) → n ≤ length values → along (replicate n Keep ++ rest) values ≡ map Some (take n values) ++ along rest (drop n values)
along-present zero rest values h = refl
along-present (suc n) rest [] h = absurd (omega arith)
along-present (suc n) rest (value ∷ values) h = ap (λ xs. Some value ∷ xs) (along-present n rest values (omega arith))

pub along-null : {A : Type 0} (n : ℕ) (rest : List Step) (values : List A) → along (replicate n KeepNull ++ rest) values ≡ replicate n None ++ along rest values
along-null zero rest values = refl
along-null (suc n) rest values = ap (λ xs. None ∷ xs) (along-null n rest values)

pub along-passed : {A : Type 0} (n : ℕ) (rest : List Step) (values : List A) → n ≤ length values → along (replicate n Pass ++ rest) values ≡ along rest (drop n values)
along-passed zero rest values h = refl
along-passed (suc n) rest [] h = absurd (omega arith)
along-passed (suc n) rest (value ∷ values) h = along-passed n rest values (omega arith)

-- ---- rows that are all selected, or none

pub plan-append : (selected : Option (List Interval)) (row : ℕ) (xs ys : List Bool) → plan_from selected row (xs ++ ys) ≡ plan_from selected row xs ++ plan_from selected (row + length xs) ys
plan-append selected row [] ys = let e : row + 0 ≡ row = omega arith in rw e refl
plan-append selected row (x ∷ xs) ys =
    let e : row + 1 + length xs ≡ row + suc (length xs) = omega arith in
    ap (λ rest. steps_at (is_selected selected row) x ++ rest) (plan-append selected (row + 1) xs ys ∙ ap (λ n. plan_from selected (row + 1) xs ++ plan_from selected n ys) e)
    ∙ sym (append_assoc (steps_at (is_selected selected row) x) (plan_from selected (row + 1) xs) (plan_from selected (row + suc (length xs)) ys))

-- what is kept of places of one kind
abbrev pub kept_as : Bool → Step
kept_as true = Keep
kept_as false = KeepNull

pub plan-kept : (selected : Option (List Interval)) (row : ℕ) (places : List Bool) → ((k : ℕ) → k < length places → is_selected selected (row + k) ≡ true) → plan_from selected row places ≡ map kept_as places
plan-kept selected row [] all = refl
plan-kept selected row (place ∷ places) all =
    let here : row + 0 ≡ row = omega arith in
    let first : is_selected selected row ≡ true = ap (is_selected selected) (sym here) ∙ all 0 (omega arith) in
    let others = plan-kept selected (row + 1) places (λ k h. let at : row + 1 + k ≡ row + suc k = omega arith in ap (is_selected selected) at ∙ all (suc k) (omega arith)) in
    ap (λ b. steps_at b place ++ plan_from selected (row + 1) places) first ∙ one place (plan_from selected (row + 1) places) ∙ ap (λ rest. kept_as place ∷ rest) others where
      one : (place : Bool) (rest : List Step) → steps_at true place ++ rest ≡ kept_as place ∷ rest
      one true rest = refl
      one false rest = refl

pub plan-passed : (selected : Option (List Interval)) (row : ℕ) (places : List Bool) → ((k : ℕ) → k < length places → is_selected selected (row + k) ≡ false) → plan_from selected row places ≡ replicate (present_count places) Pass
plan-passed selected row [] none = refl
plan-passed selected row (place ∷ places) none =
    let here : row + 0 ≡ row = omega arith in
    let first : is_selected selected row ≡ false = ap (is_selected selected) (sym here) ∙ none 0 (omega arith) in
    let others = plan-passed selected (row + 1) places (λ k h. let at : row + 1 + k ≡ row + suc k = omega arith in ap (is_selected selected) at ∙ none (suc k) (omega arith)) in
    ap (λ b. steps_at b place ++ plan_from selected (row + 1) places) first ∙ one place places (plan_from selected (row + 1) places) others where
      one : (place : Bool) (places : List Bool) (rest : List Step) → rest ≡ replicate (present_count places) Pass → steps_at false place ++ rest ≡ replicate (present_count (place ∷ places)) Pass
      one true places rest e = ap (λ xs. Pass ∷ xs) e ∙ ap (λ n. replicate n Pass) (sym (present_suc places))
      one false places rest e = e ∙ ap (λ n. replicate n Pass) (sym (absent_same places))
