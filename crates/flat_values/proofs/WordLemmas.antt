-- What steps take of stored values, and what the rows of words give.
use Rattle.std.proofs.Common.{◌≡◌, ℕ, zero, suc, ◌+◌, ◌≤◌, Bool, true, false, List, [], ◌∷◌, ◌++◌, length, take, drop, map, replicate, refl, sym, ap, ◌∙◌, subst, arith}
use Rattle.std.specs.Prelude.{◌⊎◌, Some, None}
use Rattle.columns_core.specs.Causes.{Cause, IsOneOf, IsWantOfMemory, cause_of}
use Rattle.columns_core.specs.Column.{cell_of}
use Rattle.columns_core.specs.declared.cell.Cell.{Cell, Null}
use Rattle.columns_core.specs.declared.error.Error.{Error}
use Rattle.parquet_page.specs.Levels.{present_count}
use Rattle.parquet_page.specs.Plan.{Keep, KeepNull, Pass, Step, along, kept_count, plan, plan_from}
use Rattle.parquet_page.proofs.SpelledLemmas.{absent_same, present_suc}
use Rattle.page_decoding.specs.FilteredLeft.{stored_values}
use Rattle.page_decoding.specs.Outcome.{Outcome, Given, Refused, IsCausedBy, causes_in}
use Rattle.flat_values.specs.FlatLeft.{given_along}
use Rattle.flat_values.specs.Outcomes.{placed_outcome}

-- ---- steps and the values that they take

pub stored-append : (steps rest : List Step) → stored_values (steps ++ rest) ≡ stored_values steps + stored_values rest
stored-append [] rest = omega arith
stored-append (Keep ∷ steps) rest = omega (arith, stored-append steps rest)
stored-append (KeepNull ∷ steps) rest = stored-append steps rest
stored-append (Pass ∷ steps) rest = omega (arith, stored-append steps rest)

pub along-append : {A : Type 0} (steps rest : List Step) (values : List A) → stored_values steps ≤ length values → along (steps ++ rest) values ≡ along steps values ++ along rest (drop (stored_values steps) values)
along-append [] rest values h = refl
along-append (Keep ∷ steps) rest [] h = absurd (omega arith)
along-append (Keep ∷ steps) rest (value ∷ values) h =
    let e : 1 + stored_values steps ≡ suc (stored_values steps) = omega arith in
    rw e (ap (λ xs. Some value ∷ xs) (along-append steps rest values (omega arith)))
along-append (KeepNull ∷ steps) rest values h = ap (λ xs. None ∷ xs) (along-append steps rest values h)
along-append (Pass ∷ steps) rest [] h = absurd (omega arith)
along-append (Pass ∷ steps) rest (value ∷ values) h =
    let e : 1 + stored_values steps ≡ suc (stored_values steps) = omega arith in
    rw e (along-append steps rest values (omega arith))

-- what stands behind the values that they take is not looked at
along-take : {A : Type 0} (steps : List Step) (values : List A) (n : ℕ) → stored_values steps ≤ n → along steps (take n values) ≡ along steps values
along-take [] values n h = refl
along-take (Keep ∷ steps) values zero h = absurd (omega arith)
along-take (Keep ∷ steps) [] (suc n) h = refl
along-take (Keep ∷ steps) (value ∷ values) (suc n) h = ap (λ xs. Some value ∷ xs) (along-take steps values n (omega arith))
along-take (KeepNull ∷ steps) values n h = ap (λ xs. None ∷ xs) (along-take steps values n h)
along-take (Pass ∷ steps) values zero h = absurd (omega arith)
along-take (Pass ∷ steps) [] (suc n) h = refl
along-take (Pass ∷ steps) (value ∷ values) (suc n) h = along-take steps values n (omega arith)

given_cells : {T : Type 0} (cell : T → Cell) (steps : List Step) (values : List T) → map Given (map (cell_of cell) (along steps values)) ≡ given_along steps (map (λ value. Given (cell value)) values)
given_cells cell [] values = refl
given_cells cell (Keep ∷ steps) [] = refl
given_cells cell (Keep ∷ steps) (value ∷ values) = ap (λ xs. Given (cell value) ∷ xs) (given_cells cell steps values)
given_cells cell (KeepNull ∷ steps) values = ap (λ xs. Given Null ∷ xs) (given_cells cell steps values)
given_cells cell (Pass ∷ steps) [] = refl
given_cells cell (Pass ∷ steps) (value ∷ values) = given_cells cell steps values

-- cells of the values that steps take, as outcomes
pub cells-along : {T : Type 0} (cell : T → Cell) (steps : List Step) (values : List T) (outcomes : List Outcome) (n : ℕ) → stored_values steps ≤ n → map (λ value. Given (cell value)) values ≡ take n outcomes
    → map Given (map (cell_of cell) (along steps values)) ≡ given_along steps outcomes
cells-along cell steps values outcomes n h is = given_cells cell steps values ∙ ap (given_along steps) is ∙ ap (map placed_outcome) (along-take steps outcomes n h)

-- as many rows are given as steps keep
pub length-given : (steps : List Step) (values : List Outcome) → stored_values steps ≤ length values → length (given_along steps values) ≡ kept_count steps
length-given [] values enough = refl
length-given (Keep ∷ steps) [] enough = absurd (omega (arith, enough))
length-given (Keep ∷ steps) (value ∷ values) enough = omega (arith, length-given steps values (omega (arith, enough)))
length-given (KeepNull ∷ steps) values enough = omega (arith, length-given steps values enough)
length-given (Pass ∷ steps) [] enough = absurd (omega (arith, enough))
length-given (Pass ∷ steps) (value ∷ values) enough = length-given steps values (omega (arith, enough))

-- ---- places that are all selected

pub kept-plan : (row : ℕ) (places : List Bool) → kept_count (plan_from None row places) ≡ length places
kept-plan row [] = refl
kept-plan row (true ∷ places) = omega (arith, kept-plan (row + 1) places)
kept-plan row (false ∷ places) = omega (arith, kept-plan (row + 1) places)

pub length-plan : (row : ℕ) (places : List Bool) → length (plan_from None row places) ≡ length places
length-plan row [] = refl
length-plan row (true ∷ places) = ap suc (length-plan (row + 1) places)
length-plan row (false ∷ places) = ap suc (length-plan (row + 1) places)

-- where no place has a value, all are null
pub all_null : (row : ℕ) (places : List Bool) (values : List Outcome) → present_count places ≡ 0 → given_along (plan_from None row places) values ≡ replicate (length places) (Given Null)
all_null row [] values none = refl
all_null row (true ∷ places) values none = absurd (omega (arith, none, present_suc places))
all_null row (false ∷ places) values none = ap (λ xs. Given Null ∷ xs) (all_null (row + 1) places values (sym (absent_same places) ∙ none))

-- what is wrong with the places is wrong with their values
causes-along : (row : ℕ) (places : List Bool) (values : List Outcome) → causes_in (given_along (plan_from None row places) values) ≡ causes_in (take (present_count places) values)
causes-along row [] values = refl
causes-along row (false ∷ places) values = causes-along (row + 1) places values ∙ ap (λ n. causes_in (take n values)) (sym (absent_same places))
causes-along row (true ∷ places) [] = ap (λ n. causes_in (take n [])) (sym (present_suc places))
causes-along row (true ∷ places) (Given cell ∷ values) = causes-along (row + 1) places values ∙ ap (λ n. causes_in (take n (Given cell ∷ values))) (sym (present_suc places))
causes-along row (true ∷ places) (Refused causes ∷ values) = ap (λ rest. causes ++ rest) (causes-along (row + 1) places values) ∙ ap (λ n. causes_in (take n (Refused causes ∷ values))) (sym (present_suc places))

pub word-caused : (places : List Bool) (values : List Outcome) (count : ℕ) (error : Error) → count ≡ present_count places → IsCausedBy (take count values) error → IsCausedBy (given_along (plan None places) values) error
word-caused places values count error counted told =
    let P : List Cause → Type 0 = λ causes. IsWantOfMemory error ⊎ IsOneOf causes (cause_of error) in
    subst P (ap (λ n. causes_in (take n values)) counted ∙ sym (causes-along 0 places values)) told

-- ---- runs of a word

plan-rows : (row other : ℕ) (places : List Bool) → plan_from None row places ≡ plan_from None other places
plan-rows row other [] = refl
plan-rows row other (true ∷ places) = ap (λ steps. Keep ∷ steps) (plan-rows (row + 1) (other + 1) places)
plan-rows row other (false ∷ places) = ap (λ steps. KeepNull ∷ steps) (plan-rows (row + 1) (other + 1) places)

pub plan-present : (n row : ℕ) (places : List Bool) → plan_from None row (replicate n true ++ places) ≡ replicate n Keep ++ plan None places
plan-present zero row places = plan-rows row 0 places
plan-present (suc n) row places = ap (λ steps. Keep ∷ steps) (plan-present n (row + 1) places)

pub plan-null : (n row : ℕ) (places : List Bool) → plan_from None row (replicate n false ++ places) ≡ replicate n KeepNull ++ plan None places
plan-null zero row places = plan-rows row 0 places
plan-null (suc n) row places = ap (λ steps. KeepNull ∷ steps) (plan-null n (row + 1) places)
