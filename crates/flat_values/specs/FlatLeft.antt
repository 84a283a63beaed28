-- What a decoder of flat pages has still to give of a page.
use Rattle.std.specs.Prelude.{◌≡◌, ℕ, zero, suc, ◌&&◌, Bool, false, List, [], drop, length, map, replicate, take, Option, IfSome}
use Rattle.std.specs.Option.{option_map_or}
use Rattle.columns_core.specs.Causes.{Cause}
use Rattle.columns_core.specs.declared.cell.Cell.{Null}
use Rattle.parquet_base.specs.Reading.{◌>>=◌, given}
use Rattle.parquet_page.specs.Content.{DataContent}
use Rattle.parquet_page.specs.Levels.{body_parts, present_count}
use Rattle.parquet_page.specs.Opened.{goes_on_dictionary}
use Rattle.parquet_page.specs.Plan.{Step, along}
use Rattle.parquet_page.specs.Spelling.{header_encoding}
use Rattle.parquet_page.specs.ValidityParts.{word_places, word_steps}
use Rattle.parquet_page.specs.Values.{Encoding, encoding_of, goes_with}
use Rattle.parquet_page.specs.declared.run.Run.{Run}
use Rattle.parquet_page.specs.declared.run.Run.TheVariants.{Present, Null as NullRun, Passed}
use Rattle.parquet_page.specs.declared.validity_part.ValidityPart.{ValidityPart}
use Rattle.parquet_page.specs.declared.validity_part.ValidityPart.TheVariants.{Run as OfRun, Word as OfWord}
use Rattle.parquet_page.specs.declared.validity_part.ValidityWord.{ValidityWord}
use Rattle.page_decoding.specs.FilteredLeft.{IsPageOf, filtered_steps, stored_values}
use Rattle.page_decoding.specs.Outcome.{Outcome, Given}
use Rattle.page_decoding.specs.declared.filtered_validity.FilteredOptionalPageValidity.{FilteredOptionalPageValidity}
use Rattle.flat_values.specs.Outcomes.{placed_outcome}

-- the bytes in which the values of a page stand
abbrev pub value_bytes : DataContent → List ℕ
value_bytes page = option_map_or (λ body. body.values) (body_parts page.type.repetition page.header page.body) []

-- what values give that are left; where none is stored, nothing
abbrev pub values_left : {Values : Type 0} → (Values → List Outcome) → Option Values → List Outcome
values_left left values = option_map_or left values []

-- what the rows of these steps give
abbrev pub given_along : List Step → List Outcome → List Outcome
given_along steps values = map placed_outcome (along steps values)

-- what the rows of a run give
abbrev pub run_outcomes : Run → List Outcome → List Outcome
run_outcomes (Present rows) values = take rows values
run_outcomes (NullRun rows) values = replicate rows (Given Null)
run_outcomes (Passed count) values = []

-- the values behind a run
abbrev pub behind_run : Run → List Outcome → List Outcome
behind_run (Present rows) values = drop rows values
behind_run (NullRun rows) values = values
behind_run (Passed count) values = drop count values

-- what the rows of a word give
abbrev pub word_outcomes : ValidityWord → List Outcome → List Outcome
word_outcomes word values = given_along (word_steps word) values

-- the values behind a word
abbrev pub behind_word : ValidityWord → List Outcome → List Outcome
behind_word word values = drop (present_count (word_places word)) values

-- what the rows of a part give
abbrev pub part_outcomes : ValidityPart → List Outcome → List Outcome
part_outcomes (OfRun run) values = run_outcomes run values
part_outcomes (OfWord word) values = word_outcomes word values

-- the values behind a part
abbrev pub behind_part : ValidityPart → List Outcome → List Outcome
behind_part (OfRun run) values = behind_run run values
behind_part (OfWord word) values = behind_word word values

-- The walk is one over this page, and there are as many values left in these bytes as it takes or passes over.
pub record IsStateOf {Values : Type 0} (is_over : List ℕ → Values → Type 0) (left : List ℕ → Values → List Outcome) (bytes : List ℕ) (walk : FilteredOptionalPageValidity) (values : Option Values) (page : DataContent) : Type 0 where
  pub page_is : IsPageOf walk page
  pub over : IfSome values (is_over bytes)
  pub enough : length (values_left (left bytes) values) ≡ stored_values (filtered_steps walk page)

-- the encoding of a page, if it is read over a dictionary or without one
abbrev pub read_encoding : Bool → DataContent → Option Encoding
read_encoding has_dictionary page = do
  encoding ← encoding_of (header_encoding page.header)
  given (goes_with encoding page.type.physical_type && goes_on_dictionary false has_dictionary encoding) encoding

-- Where no value is stored, nothing is wrong with the values.
abbrev pub causes_unless_none : ℕ → List Cause → List Cause
causes_unless_none zero causes = []
causes_unless_none (suc count) causes = causes
