-- A closure that chooses the rows of a group by what its indexes tell of the pages of fields.
use Rattle.std.specs.Prelude.{◌≡◌, ◌⊎◌, ℕ, true, false, List, [], ◌++◌, is_some, Option, Some, None, IfSome, Result, Ok, Err, Vec}
use Rattle.std.specs.Borrow.{Bor}
use Rattle.std.specs.Fn.{Shared, FnReturns}
use Rattle.std.specs.declared.alloc.Global.{Global}
use Rattle.columns_core.specs.Causes.{Cause, ExternalFormat, cause_of, is_invalid_argument, unless}
use Rattle.columns_core.specs.declared.data_type.Field.{Field}
use Rattle.columns_core.specs.declared.error.Error.{Error}
use Rattle.parquet_base.specs.Intervals.{is_well_shaped}
use Rattle.parquet_base.specs.declared.interval.Interval.{Interval}
use Rattle.parquet_meta.specs.declared.metadata.RowGroupMetaData.{RowGroupMetaData}
use Rattle.parquet_meta.specs.Source.{IsReadFailure}
use Rattle.parquet_page.specs.declared.page.FilteredPage.{FilteredPage}
use Rattle.parquet_indexes.specs.FieldStatistics.{AreOfFields, causes_of_fields}
use Rattle.parquet_indexes.specs.PageMaps.{InFields, field_maps, in_fields, rows_of_fields}
use Rattle.parquet_indexes.specs.declared.page_statistics.FieldPageStatistics.{FieldPageStatistics}

-- A call at references to these two may give this answer.
pub record AnswersAt {F A B R : Type 0} (g : Shared F (Bor A × (Bor B × Unit {0})) R) (f : F) (x : A) (y : B) (answer : R) : Type 0 where
  pub first : Bor A
  pub second : Bor B
  pub shows_first : first.now ≡ x
  pub shows_second : second.now ≡ y
  pub says : FnReturns g f (first, (second, tt)) answer

-- rows of the pages of each column of each field
abbrev pub RowsOfPages : Type 0
RowsOfPages = List (Vec (Vec Interval Global) Global)

-- what a closure is asked on: statistics of fields, and such rows
abbrev pub Question : Type 0
Question = Bor (List FieldPageStatistics) × (Bor RowsOfPages × Unit {0})

-- intervals of a group's rows, or an error
abbrev pub ChosenRows : Type 0
ChosenRows = Result (Vec Interval Global) Error

-- What is wrong with the indexes that tell what the closure is asked on: the column indexes, and the rows of the offset indexes.
abbrev pub causes_of_question : RowGroupMetaData → List Field → List ℕ → List Cause
causes_of_question group fields file = causes_of_fields group.columns fields file ++ unless (is_some (rows_of_fields group fields file)) ExternalFormat

-- The closure is shown the statistics of each field, and the rows of the pages of each column of each field, of indexes with which nothing is wrong.
pub record AreShown (group : RowGroupMetaData) (fields : List Field) (file : List ℕ) (statistics : List FieldPageStatistics) (rows : RowsOfPages) : Type 0 where
  pub statistics_told : AreOfFields file group.columns fields statistics
  pub rows_told : rows_of_fields group fields file ≡ Some (in_fields rows)
  pub clean : causes_of_question group fields file ≡ []

module _ {F : Type 0} (g : Shared F Question ChosenRows) (f : F) (group : RowGroupMetaData) (fields : List Field) (told : Option (List ℕ)) where
  -- The closure may answer this, asked on what the file tells.
  pub record IsAnswer (answer : ChosenRows) : Type 0 where
    pub statistics : List FieldPageStatistics
    pub rows : RowsOfPages
    pub asked : IfSome told (λ file. AreShown group fields file statistics rows)
    pub says : AnswersAt g f statistics rows answer

  -- The maps are what the intervals of an answer select in each column of each field.
  pub record AreChosen (maps : InFields FilteredPage) : Type 0 where
    pub answer : Vec Interval Global
    pub answered : IsAnswer (Ok answer)
    pub shaped : is_well_shaped answer.items group.num_rows ≡ true
    pub selected : IfSome told (λ file. field_maps group answer.items fields file ≡ Some maps)

  -- The intervals of an answer are not sorted, disjoint, filled and within the group, or an index names no pages that they select.
  abbrev pub SelectNothing : List Interval → Error → Type 0
  SelectNothing intervals e =
      ((is_well_shaped intervals group.num_rows ≡ false) × (is_invalid_argument e ≡ true))
      ⊎ ((is_well_shaped intervals group.num_rows ≡ true) × (cause_of e ≡ Some ExternalFormat) × IfSome told (λ file. field_maps group intervals fields file ≡ None))

  -- An error of the source, of an index, of the closure itself, or of what it answers.
  abbrev pub RefusesToChoose : ℕ → ℕ → Error → Type 0
  RefusesToChoose before now e =
      IsReadFailure told before now (causes_of_question group fields) e
      ⊎ (IsAnswer (Err e) ⊎ ((answer : Vec Interval Global) × IsAnswer (Ok answer) × SelectNothing answer.items e))
