-- What the call for the next chunk answers, and what it leaves.
use Rattle.std.specs.Prelude.{◌≡◌, ℕ, ◌+◌, ◌<◌, true, List, [], ◌∷◌, length, map, Option, Result, Ok, Err}
use Rattle.std.specs.List.{list_all}
use Rattle.columns_core.specs.Causes.{Cause}
use Rattle.columns_core.specs.declared.cell.Cell.{Cell}
use Rattle.columns_core.specs.declared.error.Error.{Error}
use Rattle.parquet_meta.specs.Source.{raised}
use Rattle.parquet_page.specs.Content.{Content, is_data}
use Rattle.parquet_page.specs.Lending.{HasEnded}
use Rattle.page_decoding.specs.declared.queue.MaybeNext.{MaybeNext}
use Rattle.page_decoding.specs.declared.queue.MaybeNext.TheVariants.{Some, None, More}
use Rattle.page_decoding.specs.Outcome.{Outcome, Given}
use Rattle.page_decoding.specs.Queue.{IsFull, first_chunk, later_chunks}

-- an item is the first chunk of some rows, and the others are left
pub record IsFirstChunk {X : Type 0} (shown : X → List Cell) (size : Option ℕ) (old new : List Outcome) (item : X) : Type 0 where
  pub some : 0 < length (shown item)
  pub cells : map Given (shown item) ≡ first_chunk size old
  pub others : new ≡ later_chunks size old

-- The first chunk of all rows that are wanted, and the others are left; or more pages are to be read first, and all are left; or
-- no row is wanted.
abbrev pub GivesChunk : {X : Type 0} → (X → List Cell) → Option ℕ → List Outcome → List Outcome → MaybeNext (Result X Error) → Type 0
GivesChunk shown size old new (Some (Ok item)) = IsFirstChunk shown size old new item
GivesChunk shown size old new (Some (Err error)) = Unit {0}
GivesChunk shown size old new None = (old ≡ []) × (new ≡ [])
GivesChunk shown size old new More = new ≡ old

-- likewise, where no more pages are needed
abbrev pub GivesFront : {X : Type 0} → (X → List Cell) → Option ℕ → List Outcome → List Outcome → MaybeNext (Result X Error) → Type 0
GivesFront shown size old new (Some (Ok item)) = IsFirstChunk shown size old new item
GivesFront shown size old new (Some (Err error)) = ⊥
GivesFront shown size old new None = (old ≡ []) × (new ≡ [])
GivesFront shown size old new More = ⊥

-- P, unless there is an error
abbrev pub OnNoError : {X : Type 0} → MaybeNext (Result X Error) → Type 0 → Type 0
OnNoError (Some (Err error)) P = Unit {0}
OnNoError (Some (Ok item)) P = P
OnNoError None P = P
OnNoError More P = P

-- P of a chunk
abbrev pub IfChunk : {X : Type 0} → MaybeNext (Result X Error) → (X → Type 0) → Type 0
IfChunk (Some (Ok item)) P = P item
IfChunk (Some (Err error)) P = Unit {0}
IfChunk None P = Unit {0}
IfChunk More P = Unit {0}

-- P of an error
abbrev pub IfFault : {X : Type 0} → MaybeNext (Result X Error) → (Error → Type 0) → Type 0
IfFault (Some (Ok item)) P = Unit {0}
IfFault (Some (Err error)) P = P error
IfFault None P = Unit {0}
IfFault More P = Unit {0}

-- P, if more pages are to be read
abbrev pub OnMore : {X : Type 0} → MaybeNext (Result X Error) → Type 0 → Type 0
OnMore (Some chunk) P = Unit {0}
OnMore None P = Unit {0}
OnMore More P = P

-- P, if no row is wanted any more
abbrev pub OnNone : {X : Type 0} → MaybeNext (Result X Error) → Type 0 → Type 0
OnNone (Some chunk) P = Unit {0}
OnNone None P = P
OnNone More P = Unit {0}

-- the first item is a whole chunk
abbrev pub BeginsFull : {A : Type 0} → Option ℕ → List (List A) → Type 0
BeginsFull size [] = ⊥
BeginsFull size (item ∷ items) = IsFull size (length item)

-- a page is the next one; behind it there are data pages alone
pub record IsLent (page : Content) (old new : List Content) (causes causes_now : List Cause) (lent lent_now : ℕ) : Type 0 where
  pub first : old ≡ page ∷ new
  pub same : causes_now ≡ causes
  pub data_alone : list_all is_data new ≡ true
  pub one_more : lent_now ≡ raised lent 1

-- No page is asked for, or the next page is lent, or there is none. A page is asked for only where one is needed. Each page that is
-- lent is one step.
pub data Moves (needs : Type 0) (old new : List Content) (causes causes_now : List Cause) (steps steps_now lent lent_now : ℕ) : Type 0 where
  Stays : new ≡ old → causes_now ≡ causes → steps_now ≡ steps → lent_now ≡ lent → Moves needs old new causes causes_now steps steps_now lent lent_now
  Opens : needs → (page : Content) → IsLent page old new causes causes_now lent lent_now → steps_now ≡ steps + 1 → Moves needs old new causes causes_now steps steps_now lent lent_now
  Ends : needs → old ≡ [] → HasEnded new causes_now → steps_now ≡ steps → lent_now ≡ lent → Moves needs old new causes causes_now steps steps_now lent lent_now

-- the item that was given
abbrev pub front_of : {X : Type 0} → MaybeNext (Result X Error) → List X
front_of (Some (Ok item)) = item ∷ []
front_of (Some (Err error)) = []
front_of None = []
front_of More = []
