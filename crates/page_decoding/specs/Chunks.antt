-- The chunks of a column, one after another.
use Rattle.std.specs.Prelude.{◌≡◌, ◌⊎◌, ℕ, zero, suc, ◌+◌, true, List, [], ◌++◌, length, map, Option, Some, None, Result, Ok, Err, refl}
use Rattle.std.specs.List.{list_all}
use Rattle.std.specs.Coded.{Coded, code_by, coded×, coded_list, coded_option, coded_ℕ}
use Rattle.columns_core.specs.Causes.{Cause}
use Rattle.columns_core.specs.declared.cell.Cell.{Cell}
use Rattle.columns_core.specs.declared.error.Error.{Error}
use Rattle.parquet_meta.specs.Source.{raised}
use Rattle.parquet_page.specs.Content.{Content, DataContent, DictContent, is_data}
use Rattle.page_decoding.specs.Bytes.{IsCausedByChunks}
use Rattle.page_decoding.specs.Outcome.{Outcome, Given}
use Rattle.page_decoding.specs.NextChunk.{IsFirstChunk}
use Rattle.page_decoding.specs.Standing.{AreNeeded, IsCausedByPages, IsFinished, Standing, after_pages}

-- What is left of a column that is read by a decoder, in chunks of so many rows: its pages, the cells that wait, how many more rows
-- are wanted, and the entries of the dictionary.
pub record ChunksLeft (I D : Type 0) : Type 0 where
  pub pages : I
  pub decoder : D
  pub size : Option ℕ
  pub waiting : List Cell
  pub remaining : ℕ
  pub dictionary : Option (List Cell)

abbrev pub chunks_code : {I D : Type 0} → Coded I → Coded D → Coded Cell → Coded (ChunksLeft I D)
chunks_code {I} {D} pages decoder cell =
    code_by (I × (D × (Option ℕ × (List Cell × (ℕ × Option (List Cell)))))) (coded× pages (coded× decoder (coded× (coded_option coded_ℕ) (coded× (coded_list cell) (coded× coded_ℕ (coded_option (coded_list cell)))))))
    (λ c. (c.pages, (c.decoder, (c.size, (c.waiting, (c.remaining, c.dictionary)))))) (λ p. record { pages = p.0; decoder = p.1.0; size = p.1.1.0; waiting = p.1.1.1.0; remaining = p.1.1.1.1.0; dictionary = p.1.1.1.1.1 }) (λ _. refl)

-- how far the reading has come
abbrev pub standing_of : {I D : Type 0} → ChunksLeft I D → Standing
standing_of chunks = record { waiting = map Given chunks.waiting; remaining = chunks.remaining; dictionary = chunks.dictionary }

-- no row waits, and none is wanted any more
abbrev pub ended : {I D : Type 0} → ChunksLeft I D → ChunksLeft I D
ended chunks = record chunks { waiting = []; remaining = 0; dictionary = None }

-- The first chunk of all rows that are wanted, and the others are left; or an error, want of memory or one that tells of what is wrong with
-- them or of a chunk of them whose bytes do not fit, and none is wanted any more; or none is wanted.
abbrev pub GivesFirstChunk : {X : Type 0} → (X → List Cell) → Option ℕ → Option ℕ → List Outcome → List Outcome → Option (Result X Error) → Type 0
GivesFirstChunk shown most size old new (Some (Ok chunk)) = IsFirstChunk shown size old new chunk
GivesFirstChunk shown most size old new (Some (Err error)) = IsCausedByChunks most size old error × (new ≡ [])
GivesFirstChunk shown most size old new None = (old ≡ []) × (new ≡ [])

-- P of a chunk
abbrev pub IfGiven : {X : Type 0} → Option (Result X Error) → (X → Type 0) → Type 0
IfGiven (Some (Ok chunk)) P = P chunk
IfGiven (Some (Err error)) P = Unit {0}
IfGiven None P = Unit {0}

-- P of an error
abbrev pub IfFailed : {X : Type 0} → Option (Result X Error) → (Error → Type 0) → Type 0
IfFailed (Some (Ok chunk)) P = Unit {0}
IfFailed (Some (Err error)) P = P error
IfFailed None P = Unit {0}

-- the count of pages that were lent, where so many more are lent
abbrev pub lent_more : ℕ → ℕ → ℕ
lent_more lent zero = lent
lent_more lent (suc more) = raised lent (suc more)

-- The reading has come so far, and the rows of the chunk wait no more. After an error no row waits and none is wanted.
abbrev pub Reaches : {X : Type 0} → (X → List Cell) → Option (Result X Error) → Standing → Standing → Type 0
Reaches shown (Some (Ok chunk)) reached now = reached ≡ record { waiting = map Given (shown chunk) ++ now.waiting; remaining = now.remaining; dictionary = now.dictionary }
Reaches shown (Some (Err error)) reached now = IsFinished now
Reaches shown None reached now = reached ≡ now

-- These pages were lent, each where one was needed and each in one step. Behind them there are data pages alone. An error is want of
-- memory, or tells of the rows that are wanted of them or, where no page is left, of what is wrong behind them; or of a chunk of these
-- rows whose bytes do not fit.
pub record ReadsChunks {X : Type 0} (shown : X → List Cell) (entries : DictContent → Result (List Cell) (List Cause)) (outcomes : Option (List Cell) → DataContent → List Outcome) (most size : Option ℕ)
    (result : Option (Result X Error)) (old new : List Content) (causes : List Cause) (before after : Standing) (steps steps_now lent lent_now : ℕ) : Type 0 where
  pub lent_pages : List Content
  pub split : old ≡ lent_pages ++ new
  pub data_alone : (lent_pages ≡ []) ⊎ (list_all is_data new ≡ true)
  pub needed : AreNeeded entries outcomes size before lent_pages
  pub reached : Reaches shown result (after_pages entries outcomes before lent_pages) after
  pub tells : IfFailed result (IsCausedByPages entries outcomes most size before lent_pages new causes)
  pub ticked : steps_now ≡ steps + length lent_pages
  pub counted : lent_now ≡ lent_more lent (length lent_pages)
