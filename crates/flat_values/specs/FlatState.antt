-- What a state of a decoder of flat pages means.
use Rattle.std.specs.Prelude.{ℕ, List}
use Rattle.parquet_page.specs.Content.{DataContent}
use Rattle.page_decoding.specs.FilteredLeft.{filtered_steps}
use Rattle.page_decoding.specs.Outcome.{Outcome}
use Rattle.flat_values.specs.FlatLeft.{IsStateOf, given_along, value_bytes, values_left}
use Rattle.flat_values.specs.declared.flat_decoder.FlatState.{FlatState}

-- it is one of this page
abbrev pub IsFlatState : {Values : Type 0} → (List ℕ → Values → Type 0) → (List ℕ → Values → List Outcome) → DataContent → FlatState Values → Type 0
IsFlatState is_over left page state = IsStateOf is_over left (value_bytes page) state.walk state.values page

-- what the rows give that are left
abbrev pub state_outcomes : {Values : Type 0} → (List ℕ → Values → List Outcome) → DataContent → FlatState Values → List Outcome
state_outcomes left page state = given_along (filtered_steps state.walk page) (values_left (left (value_bytes page)) state.values)
