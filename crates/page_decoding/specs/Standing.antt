-- How far the reading of a column has come.
use Rattle.std.specs.Prelude.{◌≡◌, ◌⊎◌, ℕ, ◌-◌, ◌<◌, List, [], ◌∷◌, ◌++◌, if◌then◌else◌, length, take, map, Option, Some, None, Result, option_map}
use Rattle.columns_core.specs.Causes.{Cause, is_empty}
use Rattle.columns_core.specs.declared.cell.Cell.{Cell}
use Rattle.columns_core.specs.declared.error.Error.{Error}
use Rattle.parquet_page.specs.Content.{Content, DataContent, DictContent}
use Rattle.parquet_page.specs.Lending.{HasEnded}
use Rattle.page_decoding.specs.Column.{entries_behind, page_rows, rows}
use Rattle.page_decoding.specs.Bytes.{IsCausedByChunks}
use Rattle.page_decoding.specs.Outcome.{Outcome, Given, causes_in}
use Rattle.page_decoding.specs.Queue.{joined}

-- the rows that wait, how many more are wanted, and the entries of the dictionary
pub record Standing : Type 0 where
  pub waiting : List Outcome
  pub remaining : ℕ
  pub dictionary : Option (List Cell)

abbrev pub standing : {Item Dict : Type 0} → (Item → List Cell) → (Dict → List Cell) → List Item → ℕ → Option Dict → Standing
standing shown dict_shown items remaining dict = record { waiting = map Given (joined (map shown items)); remaining = remaining; dictionary = option_map dict_shown dict }

-- fewer rows than a chunk has
abbrev pub IsShort : Option ℕ → ℕ → Type 0
IsShort None rows = Unit {0}
IsShort (Some size) rows = rows < size

-- a page is needed: a row is wanted of it, and no whole chunk waits
abbrev pub IsNeeded : Option ℕ → Standing → Type 0
IsNeeded size s = (0 < s.remaining) × IsShort size (length s.waiting)

-- no row waits, and none is wanted any more
abbrev pub IsFinished : Standing → Type 0
IsFinished s = (s.waiting ≡ []) × (s.remaining ≡ 0)

-- no more rows come: none is wanted, or the pages have ended
abbrev pub NoneComes : ℕ → List Content → List Cause → Type 0
NoneComes remaining pages causes = (remaining ≡ 0) ⊎ HasEnded pages causes

-- A page is needed, and something is to come: a page, or what is wrong behind the last.
abbrev pub Awaits : Option ℕ → Standing → List Content → List Cause → Type 0
Awaits size s pages causes = IsNeeded size s × (HasEnded pages causes → ⊥)

-- what is wrong behind the last page, where no page is left
abbrev pub causes_behind : List Content → List Cause → List Cause
causes_behind [] causes = causes
causes_behind (page ∷ pages) causes = []

module _ (entries : DictContent → Result (List Cell) (List Cause)) (outcomes : Option (List Cell) → DataContent → List Outcome) where
  -- the rows that are still wanted: those that wait, and behind them those of the pages that are still to come
  abbrev pub still_wanted : Standing → List Content → List Cause → List Outcome
  still_wanted s pages causes = s.waiting ++ take s.remaining (rows entries outcomes s.dictionary pages causes)

  -- Behind a page its rows wait, as many as are wanted. Where something is wrong with the page no more rows are wanted.
  abbrev pub after_page : Standing → Content → Standing
  after_page s page =
      let own = page_rows entries outcomes s.dictionary page in
      record {
        waiting = s.waiting ++ take s.remaining own;
        remaining = if is_empty (causes_in own) then s.remaining - length own else 0;
        dictionary = entries_behind entries outcomes s.dictionary page;
      }

  abbrev pub after_pages : Standing → List Content → Standing
  after_pages s [] = s
  after_pages s (page ∷ pages) = after_pages (after_page s page) pages

  -- each of these pages is lent where one is needed
  abbrev pub AreNeeded : Option ℕ → Standing → List Content → Type 0
  AreNeeded size s [] = Unit {0}
  AreNeeded size s (page ∷ pages) = IsNeeded size s × AreNeeded size (after_page s page) pages

  -- no page was read, or one that changes how far the reading has come
  pub data Advances (old new : List Content) (before after : Standing) : Type 0 where
    Rests : new ≡ old → after ≡ before → Advances old new before after
    Passes : (page : Content) → old ≡ page ∷ new → after ≡ after_page before page → Advances old new before after

  -- An error is want of memory, or tells of what is wrong with the rows that are wanted of the pages that were lent or, where none is left,
  -- behind them; or of a chunk of these rows whose bytes do not fit.
  abbrev pub IsCausedByPages : Option ℕ → Option ℕ → Standing → List Content → List Content → List Cause → Error → Type 0
  IsCausedByPages most size before lent_pages left causes error = IsCausedByChunks most size (still_wanted before lent_pages (causes_behind left causes)) error

  -- An error comes only where a page is needed and something is to come, and is caused by the pages that were lent.
  pub record FailsBy (most size : Option ℕ) (old new : List Content) (causes : List Cause) (before : Standing) (error : Error) : Type 0 where
    pub awaited : Awaits size before old causes
    pub lent_pages : List Content
    pub split : old ≡ lent_pages ++ new
    pub tells : IsCausedByPages most size before lent_pages new causes error
