use Rattle.std.proofs.Common.{◌≡◌, ◌∙◌, [], Bool, true, List, None, Option, Some, ap, sym, rules}
use Rattle.std.specs.Prelude.{IfOk, IsSome, is_some, Result, Ok, Err}
use Rattle.std.proofs.lemmas.Result.{IfErr-weaker, IfOk-weaker}
use Rattle.columns_core.specs.Causes.{Cause, ExternalFormat, IsOneOf, cause_of}
use Rattle.columns_core.specs.declared.error.Error.{Error}
use Rattle.parquet_page.specs.Content.{data_content}
use Rattle.parquet_page.specs.Levels.{body_of, presence}
use Rattle.parquet_page.specs.LevelsLeft.{places_left}
use Rattle.parquet_page.specs.Spelling.{has_readable_levels}
use Rattle.parquet_page.specs.ValidityLeft.{levels_causes, page_left, page_places}
use Rattle.parquet_page.specs.declared.level_runs.LevelRuns.{LevelRuns}
use Rattle.parquet_page.proofs.ValidityLemmas.{left-at, levels-damaged, levels-fine, no-places, places-at}
use Rattle.parquet_page.proofs.validity.level_runs.Goals as goal

fine : (result : Result LevelRuns Error) (left : LevelRuns → Option (List Bool)) (page spelled : Option (List Bool)) (causes : List Cause) → IfOk result (λ runs. left runs ≡ spelled) → IfOk result (λ runs. IsSome (left runs)) → spelled ≡ page → (IsSome page → causes ≡ []) → IfOk result (λ _. causes ≡ [])
fine (Ok runs) left page spelled causes places some is none = none (sym (ap is_some (places ∙ is)) ∙ some)
fine (Err error) left page spelled causes places some is none = tt

pub returns-in_err-levels-clause-refusal : goal.returns-in_err-levels-clause-refusal
returns-in_err-levels-clause-refusal c =
    let page = data_content c.args.page.now in
    let error = c.in_err-levels.field-0.0 in
    let readable : has_readable_levels page.type.repetition page.header ≡ true = sym c.has_readable_levels.ensures ∙ c.if-not-has_readable_levels.false in
    let told : IsOneOf (levels_causes page) (cause_of error) = levels-damaged page error readable (no-places page c.in_err-levels.ensures.refusal.1) c.in_err-levels.ensures.refusal.0 in
    search rules

pub returns-clause-places : goal.returns-clause-places
returns-clause-places c =
    let page = data_content c.args.page.now in
    let levels = c.in_ok-levels.levels.now in
    let body = body_of c.in_ok-levels.field-0-0.now levels c.in_ok-levels.field-0-2.now in
    let at = c.in_ok-levels.ensures.parts in
    let all = places-at page body at in
    let count = ap (presence page.type.repetition levels) c.value_count.ensures in
    IfOk-weaker c.try_new.result (λ runs. places_left runs levels ≡ presence page.type.repetition levels c.value_count.result) (λ runs. page_left runs page ≡ page_places page) (λ runs e. left-at runs page body at ∙ e ∙ count ∙ sym all) c.try_new.ensures.places

pub returns-clause-ok : goal.returns-clause-ok
returns-clause-ok c =
    let page = data_content c.args.page.now in
    let levels = c.in_ok-levels.levels.now in
    let body = body_of c.in_ok-levels.field-0-0.now levels c.in_ok-levels.field-0-2.now in
    let at = c.in_ok-levels.ensures.parts in
    let all = places-at page body at in
    let count = ap (presence page.type.repetition levels) c.value_count.ensures in
    let readable : has_readable_levels page.type.repetition page.header ≡ true = sym c.has_readable_levels.ensures ∙ c.if-not-has_readable_levels.false in
    fine c.try_new.result (λ runs. places_left runs levels) (page_places page) (presence page.type.repetition levels c.value_count.result) (levels_causes page) c.try_new.ensures.places c.try_new.ensures.spelled (count ∙ sym all) (levels-fine page readable)

pub returns-clause-refusal : goal.returns-clause-refusal
returns-clause-refusal c =
    let page = data_content c.args.page.now in
    let levels = c.in_ok-levels.levels.now in
    let body = body_of c.in_ok-levels.field-0-0.now levels c.in_ok-levels.field-0-2.now in
    let all = places-at page body c.in_ok-levels.ensures.parts in
    let count = ap (presence page.type.repetition levels) c.value_count.ensures in
    let readable : has_readable_levels page.type.repetition page.header ≡ true = sym c.has_readable_levels.ensures ∙ c.if-not-has_readable_levels.false in
    IfErr-weaker c.try_new.result (λ error. (cause_of error ≡ Some ExternalFormat) × (presence page.type.repetition levels c.value_count.result ≡ None)) (λ error. IsOneOf (levels_causes page) (cause_of error))
    (λ error told. levels-damaged page error readable (all ∙ sym count ∙ told.1) told.0) c.try_new.ensures.refusal
