-- What a closure is asked on, why a call refuses, and what it gives.
use Rattle.std.proofs.Common.{◌≡◌, sym, ◌∙◌, ap, subst, ℕ, ◌≤◌, true, false, List, [], ◌++◌, Option, Some, None, Ok, Err, Vec, Global, inl, inr, arith}
use Rattle.std.specs.Fn.{Shared}
use Rattle.std.specs.Prelude.{IfSome, is_some}
use Rattle.columns_core.specs.Causes.{Cause, ExternalFormat, IsOneOf, is_invalid_argument, unless}
use Rattle.columns_core.specs.Refusals.{IsDamaged}
use Rattle.columns_core.specs.declared.data_type.Field.{Field}
use Rattle.columns_core.specs.declared.error.Error.{Error}
use Rattle.columns_core.specs.declared.error.Error.TheVariants as error
use Rattle.parquet_base.specs.Intervals.{is_well_shaped}
use Rattle.parquet_base.specs.Reading.{◌>>=◌}
use Rattle.parquet_base.specs.declared.interval.Interval.{Interval}
use Rattle.parquet_meta.specs.Source.{Finds, IsReadFailure}
use Rattle.parquet_meta.specs.declared.metadata.PageLocation.{PageLocation}
use Rattle.parquet_meta.specs.declared.metadata.RowGroupMetaData.{RowGroupMetaData}
use Rattle.parquet_page.specs.declared.page.FilteredPage.{FilteredPage}
use Rattle.page_decoding.proofs.RowLemmas.{one_of-left, one_of-right}
use Rattle.parquet_indexes.specs.Answered.{AnswersAt, AreChosen, AreShown, ChosenRows, IsAnswer, Question, RefusesToChoose, RowsOfPages, causes_of_question}
use Rattle.parquet_indexes.specs.FieldStatistics.{AreOfFields, causes_of_fields}
use Rattle.parquet_indexes.specs.PageMaps.{InFields, field_maps, in_fields, locations_of_fields, pages_at_places, rows_at_places, rows_of_fields}
use Rattle.parquet_indexes.specs.declared.page_statistics.FieldPageStatistics.{FieldPageStatistics}
use Rattle.parquet_indexes.proofs.ErrorLemmas.{first_of}
use Rattle.parquet_indexes.proofs.MadeLemmas.{some_next}
use Rattle.parquet_meta.proofs.FailureLemmas.{fails_more}

module _ (group : RowGroupMetaData) (fields : List Field) where
  abbrev Found : List ℕ → Option (InFields PageLocation)
  Found = locations_of_fields group.columns fields

  abbrev of_rows : List ℕ → List Cause
  of_rows file = unless (is_some (rows_of_fields group fields file)) ExternalFormat

  -- ---- why a question is not made

  pub statistics_fail : (told : Option (List ℕ)) (before now : ℕ) (e : Error) → IsReadFailure told before now (causes_of_fields group.columns fields) e → IsReadFailure told before now (causes_of_question group fields) e
  statistics_fail told before now e fails = fails_more told before before now (causes_of_fields group.columns fields) (causes_of_question group fields) e (omega arith) (within told) fails where
    within : (told : Option (List ℕ)) → IfSome told (λ file. (o : Option Cause) → IsOneOf (causes_of_fields group.columns fields file) o → IsOneOf (causes_of_question group fields file) o)
    within None = tt
    within (Some file) = λ o one. one_of-left (causes_of_fields group.columns fields file) (of_rows file) o one

  -- Where there are no rows, an index is damaged.
  no_rows : (file : List ℕ) → rows_of_fields group fields file ≡ None → IsOneOf (causes_of_question group fields file) (Some ExternalFormat)
  no_rows file none =
      one_of-right (causes_of_fields group.columns fields file) (of_rows file) (Some ExternalFormat)
      (subst (λ causes. IsOneOf causes (Some ExternalFormat)) (sym (ap (λ o. unless (is_some o) ExternalFormat) none)) (first_of ExternalFormat []))

  lost : {X : Type 0} (view : X → InFields PageLocation) (told : Option (List ℕ)) (mid now : ℕ) (e : Error) → Finds view Found told mid now (Err e) → IsReadFailure told mid now (causes_of_question group fields) e
  lost view None mid now (error.ExternalFormat p) finds = tt
  lost view (Some file) mid now (error.ExternalFormat p) finds = no_rows file (ap (λ found. found >>= rows_at_places group.num_rows) finds)
  lost view told mid now error.Io finds = finds
  lost view told mid now error.OutOfMemory finds = tt
  lost view told mid now (error.InvalidArgumentError p) finds = absurd finds
  lost view told mid now (error.NotYetImplemented p) finds = absurd finds
  lost view told mid now (error.OutOfSpec p) finds = absurd finds
  lost view told mid now error.Overflow finds = absurd finds

  same_within : (told : Option (List ℕ)) (causes : List ℕ → List Cause) → IfSome told (λ file. (o : Option Cause) → IsOneOf (causes file) o → IsOneOf (causes file) o)
  same_within None causes = tt
  same_within (Some file) causes = λ o one. one

  pub locations_fail : {X : Type 0} (view : X → InFields PageLocation) (told here : Option (List ℕ)) (before mid now : ℕ) (e : Error) → before ≤ mid → here ≡ told → Finds view Found here mid now (Err e)
      → IsReadFailure told before now (causes_of_question group fields) e
  locations_fail view told here before mid now e le same finds =
      fails_more told before mid now (causes_of_question group fields) (causes_of_question group fields) e le (same_within told (causes_of_question group fields))
      (lost view told mid now e (subst (λ (o : Option (List ℕ)). Finds view Found o mid now (Err e)) same finds))

  pub rows_fail : (told : Option (List ℕ)) (before now : ℕ) (places : InFields PageLocation) (e : Error) → IfSome told (λ file. Found file ≡ Some places) → IsDamaged (rows_at_places group.num_rows places) e
      → IsReadFailure told before now (causes_of_question group fields) e
  rows_fail told before now places error.OutOfMemory is d = tt
  rows_fail None before now places (error.ExternalFormat p) is d = tt
  rows_fail (Some file) before now places (error.ExternalFormat p) is (inl memory) = absurd cc
  rows_fail (Some file) before now places (error.ExternalFormat p) is (inr d) = no_rows file (some_next Found (rows_at_places group.num_rows) file places is ∙ d.1)
  rows_fail told before now places error.Io is (inl memory) = absurd cc
  rows_fail told before now places error.Io is (inr d) = absurd cc
  rows_fail told before now places (error.InvalidArgumentError p) is (inl memory) = absurd cc
  rows_fail told before now places (error.InvalidArgumentError p) is (inr d) = absurd cc
  rows_fail told before now places (error.NotYetImplemented p) is (inl memory) = absurd cc
  rows_fail told before now places (error.NotYetImplemented p) is (inr d) = absurd cc
  rows_fail told before now places (error.OutOfSpec p) is (inl memory) = absurd cc
  rows_fail told before now places (error.OutOfSpec p) is (inr d) = absurd cc
  rows_fail told before now places error.Overflow is (inl memory) = absurd cc
  rows_fail told before now places error.Overflow is (inr d) = absurd cc

  -- ---- the question, and its answer

  rows_are : (file : List ℕ) (places : InFields PageLocation) (rows : InFields Interval) → Found file ≡ Some places → rows_at_places group.num_rows places ≡ Some rows → rows_of_fields group fields file ≡ Some rows
  rows_are file places rows is are = some_next Found (rows_at_places group.num_rows) file places is ∙ are

  -- Nothing is wrong with it.
  pub none_wrong : (told : Option (List ℕ)) (places : InFields PageLocation) (rows : InFields Interval) → IfSome told (λ file. causes_of_fields group.columns fields file ≡ []) → IfSome told (λ file. Found file ≡ Some places)
      → rows_at_places group.num_rows places ≡ Some rows → IfSome told (λ file. causes_of_question group fields file ≡ [])
  none_wrong None places rows none is are = tt
  none_wrong (Some file) places rows none is are = λ i. none i ++ unless (is_some (rows_are file places rows is are i)) ExternalFormat

  module _ {F : Type 0} (g : Shared F Question ChosenRows) (f : F) (told : Option (List ℕ)) (statistics : List FieldPageStatistics) (places : InFields PageLocation) (told_of : IfSome told (λ file. AreOfFields file group.columns fields statistics))
      (none : IfSome told (λ file. causes_of_fields group.columns fields file ≡ [])) (is : IfSome told (λ file. Found file ≡ Some places)) where
    asked : (told : Option (List ℕ)) (rows : RowsOfPages) → IfSome told (λ file. AreOfFields file group.columns fields statistics)
        → IfSome told (λ file. causes_of_fields group.columns fields file ≡ []) → IfSome told (λ file. Found file ≡ Some places)
        → rows_at_places group.num_rows places ≡ Some (in_fields rows) → IfSome told (λ file. AreShown group fields file statistics rows)
    asked None rows of none is are = tt
    asked (Some file) rows of none is are =
        record { statistics_told = of; rows_told = rows_are file places (in_fields rows) is are; clean = none_wrong (Some file) places (in_fields rows) none is are }

    module _ (rows : RowsOfPages) (are : rows_at_places group.num_rows places ≡ Some (in_fields rows)) where
      pub answered : (answer : ChosenRows) → AnswersAt g f statistics rows answer → IsAnswer g f group fields told answer
      answered answer at = record {
        statistics = statistics;
        rows = rows;
        asked = asked told rows told_of none is are;
        says = at;
      }

      -- The closure's own error is passed on,
      pub passed_on : (before now : ℕ) (e : Error) → AnswersAt g f statistics rows (Err e) → RefusesToChoose g f group fields told before now e
      passed_on before now e at = inr (inl (answered (Err e) at))

      module _ (answer : Vec Interval Global) (at : AnswersAt g f statistics rows (Ok answer)) where
        -- an answer may be ill-shaped,
        pub ill_shaped : (before now : ℕ) (e : Error) → is_well_shaped answer.items group.num_rows ≡ false → is_invalid_argument e ≡ true → RefusesToChoose g f group fields told before now e
        ill_shaped before now e ill argument = inr (inr (answer, answered (Ok answer) at, inl (ill, argument)))

        maps_are : (told : Option (List ℕ)) (maps : Option (InFields FilteredPage)) → IfSome told (λ file. Found file ≡ Some places) → pages_at_places answer.items group.num_rows places ≡ maps
            → IfSome told (λ file. field_maps group answer.items fields file ≡ maps)
        maps_are None maps is are = tt
        maps_are (Some file) maps is are = some_next Found (pages_at_places answer.items group.num_rows) file places is ∙ are

        -- or select nothing,
        pub not_selected : (before now : ℕ) (e : Error) → is_well_shaped answer.items group.num_rows ≡ true → IsDamaged (pages_at_places answer.items group.num_rows places) e
            → RefusesToChoose g f group fields told before now e
        not_selected before now e shaped (inl memory) = inl (subst (IsReadFailure told before now (causes_of_question group fields)) (sym memory) tt)
        not_selected before now e shaped (inr d) = inr (inr (answer, answered (Ok answer) at, inr (shaped, d.0, maps_are told None is d.1)))

        -- or select pages.
        pub chosen : (maps : InFields FilteredPage) → is_well_shaped answer.items group.num_rows ≡ true → pages_at_places answer.items group.num_rows places ≡ Some maps → AreChosen g f group fields told maps
        chosen maps shaped selected = record {
          answer = answer;
          answered = answered (Ok answer) at;
          shaped = shaped;
          selected = maps_are told (Some maps) is selected;
        }
