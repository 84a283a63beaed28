-- Which places of a page have a value, and where its values stand.
use Rattle.std.specs.Prelude.{ℕ, ◌+◌, ◌==◌, nat_le, Bool, true, false, List, [], ◌∷◌, length, take, drop, map, replicate, count_by, Option, Some, None}
use Rattle.std.specs.List.{list_all}
use Rattle.parquet_base.specs.Reading.{◌>>=◌, given}
use Rattle.parquet_encoding.specs.Hybrid.{hybrid}
use Rattle.parquet_encoding.specs.Plain.{first_string}
use Rattle.parquet_meta.specs.declared.metadata.Repetition.{Repetition}
use Rattle.parquet_meta.specs.declared.metadata.Repetition.TheVariants.{Required, Optional, Repeated}
use Rattle.parquet_meta.specs.declared.page_header.DataPageHeader.{DataPageHeader}
use Rattle.parquet_meta.specs.declared.page_header.DataPageHeader.TheVariants.{V1, V2}

-- the parts of a page's body
pub record Body : Type 0 where
  pub repetition : List ℕ
  pub definition : List ℕ
  pub values : List ℕ

-- in the first form of pages, levels that a column has stand behind their length in four bytes
unfoldable pub prefixed_parts : Repetition → List ℕ → Option Body
prefixed_parts Required body = Some (record { repetition = []; definition = []; values = body })
prefixed_parts Optional body = do
  definition ← first_string body
  Some (record { repetition = []; definition = definition.0; values = definition.1 })
prefixed_parts Repeated body = do
  repetition ← first_string body
  definition ← first_string repetition.1
  Some (record { repetition = repetition.0; definition = definition.0; values = definition.1 })

-- in the second form the header has their lengths
unfoldable pub parts_of_lengths : ℕ → ℕ → List ℕ → Option Body
parts_of_lengths repetition definition body =
    given (nat_le (repetition + definition) (length body))
    (record { repetition = take repetition body; definition = take definition (drop repetition body); values = drop (repetition + definition) body })

abbrev pub body_parts : Repetition → DataPageHeader → List ℕ → Option Body
body_parts repetition (V1 count encoding levels) body = prefixed_parts repetition body
body_parts repetition_kind (V2 count encoding definition repetition) body = parts_of_lengths repetition definition body

-- Which of `count` places have a value: in a required column all, in an optional one those of level 1. There is no other level.
unfoldable pub presence : Repetition → List ℕ → ℕ → Option (List Bool)
presence Required levels count = Some (replicate count true)
presence Optional levels count = do
  numbers ← hybrid 1 levels count
  given (list_all (λ level. nat_le level 1) numbers) (map (λ level. level == 1) numbers)
presence Repeated levels count = None

-- the level of a place that has a value
abbrev pub top_level : Repetition → Option ℕ
top_level Required = Some 0
top_level Optional = Some 1
top_level Repeated = None

-- how many places have a value
abbrev pub present_count : List Bool → ℕ
present_count = count_by (λ present. present)

-- The k-th present place takes value k.
abbrev pub placed : {A : Type 0} → List Bool → List A → Option (List (Option A))
placed [] [] = Some []
placed [] (value ∷ values) = None
placed (false ∷ places) values = do
  others ← placed places values
  Some (None ∷ others)
placed (true ∷ places) [] = None
placed (true ∷ places) (value ∷ values) = do
  others ← placed places values
  Some (Some value ∷ others)

abbrev pub body_of : List ℕ → List ℕ → List ℕ → Body
body_of repetition definition values = record { repetition = repetition; definition = definition; values = values }
