-- Runs of the rows of a page.
use Rattle.std.proofs.Common.{◌≡◌, ℕ, zero, suc, ◌<◌, ◌≤◌, Bool, true, false, List, [], ◌∷◌, ◌++◌, length, map, Option, Some, None, refl, sym, ap, subst, ◌∙◌, inl, inr, arith}
use Rattle.std.specs.Prelude.{◌⊎◌, if◌then◌else◌, replicate, IsSome, is_some, option_map, unwrap_or}
use Rattle.std.proofs.lemmas.List.{length-map, map-append}
use Rattle.columns_core.specs.Causes.{Cause, ExternalFormat, IsOneOf, NotYetImplemented, and_then, cause_of, unless}
use Rattle.columns_core.specs.declared.error.Error.{Error}
use Rattle.parquet_base.specs.Reading.{◌>>=◌}
use Rattle.parquet_page.specs.Content.{DataContent, header_values}
use Rattle.parquet_page.specs.Levels.{Body, body_parts, presence}
use Rattle.parquet_page.specs.LevelsLeft.{places, places_left}
use Rattle.parquet_page.specs.Plan.{plan, plan_from}
use Rattle.parquet_page.specs.Runs.{GivesRun}
use Rattle.parquet_page.specs.Spelling.{has_readable_levels, places_and_values}
use Rattle.parquet_page.specs.Stretches.{BeginsOtherwise, BeginsWith}
use Rattle.parquet_page.specs.ValidityLeft.{IsLongest, IsLongestPart, levels_causes, page_left, page_places}
use Rattle.parquet_page.specs.ValidityParts.{GivesPart, word_places, word_steps}
use Rattle.parquet_page.specs.declared.level_runs.LevelRuns.{LevelRuns}
use Rattle.parquet_page.specs.declared.run.Run.{Run}
use Rattle.parquet_page.specs.declared.run.Run.TheVariants.{Present, Null}
use Rattle.parquet_page.specs.declared.validity_part.ValidityPart.{ValidityPart}
use Rattle.parquet_page.specs.declared.validity_part.ValidityPart.TheVariants.{Word}
use Rattle.parquet_page.specs.declared.validity_part.ValidityWord.{ValidityWord}
use Rattle.parquet_page.proofs.PlanLemmas.{kept_as, plan-kept}

-- ---- the levels of a page

pub left-at : (runs : LevelRuns) (page : DataContent) (body : Body) → body_parts page.type.repetition page.header page.body ≡ Some body → page_left runs page ≡ places_left runs body.definition
left-at runs page body e = rw e refl

pub places-at : (page : DataContent) (body : Body) → body_parts page.type.repetition page.header page.body ≡ Some body → page_places page ≡ presence page.type.repetition body.definition (header_values page.header)
unfolding places_and_values
places-at page body e =
    ap (λ (o : Option Body). option_map (λ (parts : List Bool × List ℕ). parts.0) (o >>= λ body. presence page.type.repetition body.definition (header_values page.header) >>= λ places. Some (places, body.values))) e ∙ first (presence page.type.repetition body.definition (header_values page.header)) where
      first : (o : Option (List Bool)) → option_map (λ (parts : List Bool × List ℕ). parts.0) (o >>= λ places. Some (places, body.values)) ≡ o
      first None = refl
      first (Some places) = refl

pub no-places : (page : DataContent) → body_parts page.type.repetition page.header page.body ≡ None → page_places page ≡ None
unfolding places_and_values
no-places page e = rw e refl

pub levels-fine : (page : DataContent) → has_readable_levels page.type.repetition page.header ≡ true → IsSome (page_places page) → levels_causes page ≡ []
levels-fine page readable some = rw (readable, some) refl

pub levels-damaged : (page : DataContent) (error : Error) → has_readable_levels page.type.repetition page.header ≡ true → page_places page ≡ None → cause_of error ≡ Some ExternalFormat → IsOneOf (levels_causes page) (cause_of error)
levels-damaged page error readable none told =
    let causes : levels_causes page ≡ ExternalFormat ∷ [] = rw (readable, none) refl in
    let P : List Cause → Type 0 = λ found. IsOneOf found (cause_of error) in
    let Q : Option Cause → Type 0 = λ o. IsOneOf (ExternalFormat ∷ []) o in
    subst P (sym causes) (subst Q (sym told) (0, omega arith, refl))

no-cause : (readable some : Bool) → and_then (unless readable NotYetImplemented) (unless some ExternalFormat) ≡ [] → some ≡ true
no-cause true true e = refl
no-cause true false e = absurd cc
no-cause false true e = absurd cc
no-cause false false e = absurd cc

-- levels with which nothing is wrong tell of places
pub has-places : (page : DataContent) → levels_causes page ≡ [] → IsSome (page_places page)
has-places page none = no-cause (has_readable_levels page.type.repetition page.header) (is_some (page_places page)) none

-- ---- runs of all rows

pub plan-all : (row : ℕ) (places : List Bool) → plan_from None row places ≡ map kept_as places
plan-all row places = plan-kept None row places (λ k inside. refl)

pub length-all : (places : List Bool) → length (plan None places) ≡ length places
length-all places = ap length (plan-all 0 places) ∙ length-map places kept_as

pub copies-kept : (kind : Bool) (n : ℕ) → map kept_as (replicate n kind) ≡ replicate n (kept_as kind)
copies-kept kind zero = refl
copies-kept kind (suc n) = ap (λ steps. kept_as kind ∷ steps) (copies-kept kind n)

other-kept : (kind place : Bool) → (place ≡ kind → ⊥) → kept_as place ≡ kept_as kind → ⊥
other-kept true true other e = other refl
other-kept false false other e = other refl
other-kept true false other e = absurd cc
other-kept false true other e = absurd cc

other-begins : (kind : Bool) (places : List Bool) → BeginsOtherwise kind places → BeginsOtherwise (kept_as kind) (plan None places)
other-begins kind places other =
    let P : _ → Type 0 = λ steps. BeginsOtherwise (kept_as kind) steps in
    subst P (sym (plan-all 0 places)) (go places other) where
      go : (places : List Bool) → BeginsOtherwise kind places → BeginsOtherwise (kept_as kind) (map kept_as places)
      go [] other = tt
      go (place ∷ places) other = other-kept kind place other

pub record IsKept (limit : ℕ) (old new : List Bool) (run : Run) : Type 0 where
  pub gives : GivesRun limit (plan None old) (plan None new) (Some run)
  pub longest : IsLongest limit (Some run) (plan None new)

abbrev pub run_of : Bool → ℕ → Run
run_of kind count = if kind then Present count else Null count

pub kept-run : (limit count : ℕ) (kind : Bool) (old new : List Bool) → BeginsWith limit kind count old new → 0 < count → IsKept limit old new (run_of kind count)
kept-run limit count kind old new begins some =
    let split : plan None old ≡ replicate count (kept_as kind) ++ plan None new =
    plan-all 0 old ∙ ap (map kept_as) begins.split ∙ map-append kept_as (replicate count kind) new ∙ ap (λ steps. steps ++ map kept_as new) (copies-kept kind count) ∙ ap (λ steps. replicate count (kept_as kind) ++ steps) (sym (plan-all 0 new)) in
    go kind split begins.longest where
      go : (k : Bool) → plan None old ≡ replicate count (kept_as k) ++ plan None new → (count ≡ limit) ⊎ BeginsOtherwise k new → IsKept limit old new (run_of k count)
      go true split longest = record { gives = (split, some, begins.most); longest = elim longest as (λ _. (count ≡ limit) ⊎ BeginsOtherwise (kept_as true) (plan None new)) [ inl all ↦ inl all | inr other ↦ inr (other-begins true new other) ] }
      go false split longest = record { gives = (split, some, begins.most); longest = elim longest as (λ _. (count ≡ limit) ⊎ BeginsOtherwise (kept_as false) (plan None new)) [ inl all ↦ inl all | inr other ↦ inr (other-begins false new other) ] }

-- ---- parts of all rows

-- the places of a word are given
pub kept-word : (limit : ℕ) (word : ValidityWord) (old new : List Bool) → old ≡ word_places word ++ new → 0 < word.rows → word.rows ≤ limit → GivesPart limit (plan None old) (plan None new) (Some (Word word))
kept-word limit word old new split some most = (
  plan-all 0 old
      ∙ ap (map kept_as) split
      ∙ map-append kept_as (word_places word) new
      ∙ ap (λ steps. steps ++ map kept_as new) (sym (plan-all 0 (word_places word)))
      ∙ ap (λ steps. word_steps word ++ steps) (sym (plan-all 0 new)),
  some,
  most,
)

-- a part, by the levels of a page
pub part-at : (limit : ℕ) (old new : LevelRuns) (page : DataContent) (body : Body) (result : Option ValidityPart) → body_parts page.type.repetition page.header page.body ≡ Some body → GivesPart limit (plan None (places old body.definition)) (plan None (places new body.definition)) result
    → GivesPart limit (plan None (unwrap_or (page_left old page) [])) (plan None (unwrap_or (page_left new page) [])) result
part-at limit old new page body result e gives = rw e gives

pub longest-at : (limit : ℕ) (new : LevelRuns) (page : DataContent) (body : Body) (result : Option ValidityPart) → body_parts page.type.repetition page.header page.body ≡ Some body → IsLongestPart limit result (plan None (places new body.definition))
    → IsLongestPart limit result (plan None (unwrap_or (page_left new page) []))
longest-at limit new page body result e longest = rw e longest

-- how many rows are left, by the levels of a page
pub left-len : (runs : LevelRuns) (page : DataContent) (n : ℕ) → ((levels : List ℕ) → IsSome (places_left runs levels) → n ≡ length (unwrap_or (places_left runs levels) [])) → IsSome (page_left runs page) → n ≡ length (plan None (unwrap_or (page_left runs page) []))
left-len runs page n counts some = go (body_parts page.type.repetition page.header page.body) some where
  go : (o : Option Body) → IsSome (o >>= λ body. places_left runs body.definition) → n ≡ length (plan None (unwrap_or (o >>= λ body. places_left runs body.definition) []))
  go None h = absurd cc
  go (Some body) h = counts body.definition h ∙ sym (length-all (unwrap_or (places_left runs body.definition) []))
