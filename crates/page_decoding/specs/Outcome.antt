-- What the selected places of a column give.
use Rattle.std.specs.Prelude.{◌⊎◌, List, [], ◌∷◌, ◌++◌, if◌then◌else◌, Option, Result, Ok, Err}
use Rattle.columns_core.specs.Causes.{Cause, IsOneOf, IsWantOfMemory, cause_of, is_empty}
use Rattle.columns_core.specs.declared.cell.Cell.{Cell}
use Rattle.columns_core.specs.declared.error.Error.{Error}
use Rattle.parquet_base.specs.declared.interval.Interval.{Interval}
use Rattle.parquet_page.specs.Selected.{selected_of}

-- A place gives a cell, or something is wrong with it. What is wrong with a page as a whole stands at its first place.
pub data Outcome : Type 0 where
  Given : Cell → Outcome
  Refused : List Cause → Outcome

-- all that is wrong with these
abbrev pub causes_in : List Outcome → List Cause
causes_in [] = []
causes_in (Given cell ∷ outcomes) = causes_in outcomes
causes_in (Refused causes ∷ outcomes) = causes ++ causes_in outcomes

-- an error is want of memory, or tells of something that is wrong with these
abbrev pub IsCausedBy : List Outcome → Error → Type 0
IsCausedBy outcomes error = IsWantOfMemory error ⊎ IsOneOf (causes_in outcomes) (cause_of error)

-- one place for all causes, if there is one
abbrev pub refused : List Cause → List Outcome
refused [] = []
refused (cause ∷ causes) = Refused (cause ∷ causes) ∷ []

-- what is wrong with a dictionary page
abbrev pub refusal_of : Result (List Cell) (List Cause) → List Outcome
refusal_of (Ok cells) = []
refusal_of (Err causes) = refused causes

-- What the selected places of a page give, where so much is wrong with the page as a whole and all its places give this.
abbrev pub page_outcomes : List Cause → Option (List Interval) → List Outcome → List Outcome
page_outcomes [] selected places = selected_of selected places
page_outcomes (cause ∷ causes) selected places = refused (cause ∷ causes)

-- the cells that are given
abbrev pub cells_in : List Outcome → List Cell
cells_in [] = []
cells_in (Given cell ∷ outcomes) = cell ∷ cells_in outcomes
cells_in (Refused causes ∷ outcomes) = cells_in outcomes

-- all cells, or all that is wrong
abbrev pub all_given : List Outcome → Result (List Cell) (List Cause)
all_given outcomes = if is_empty (causes_in outcomes) then Ok (cells_in outcomes) else Err (causes_in outcomes)
