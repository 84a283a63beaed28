-- What is left of a column that is read in arrays, whatever decodes it, and what a call for the next array gives.
use Rattle.std.specs.Prelude.{◌≡◌, ℕ, ◌+◌, true, min, sum_by, List, [], length, Option, None, Result, IfNone}
use Rattle.std.specs.Iterator.{Count, at_most}
use Rattle.columns_core.specs.Causes.{Cause}
use Rattle.columns_core.specs.declared.cell.Cell.{Cell}
use Rattle.columns_core.specs.declared.data_type.DataType.{DataType}
use Rattle.columns_core.specs.declared.error.Error.{Error}
use Rattle.parquet_page.specs.Content.{Content, DataContent, DictContent}
use Rattle.page_decoding.specs.Bytes.{cell_bytes, fits_most}
use Rattle.page_decoding.specs.Chunks.{GivesFirstChunk, IfGiven, ReadsChunks}
use Rattle.page_decoding.specs.Outcome.{Outcome}
use Rattle.page_decoding.specs.Standing.{NoneComes, Standing, still_wanted}

-- how a column is decoded: what its dictionary pages and its data pages give, and how many bytes the texts of an array have at most
pub record Decoding : Type 0 where
  pub entries : DictContent → Result (List Cell) (List Cause)
  pub outcomes : Option (List Cell) → DataContent → List Outcome
  pub most_bytes : Option ℕ

-- the type of the arrays, how the column is decoded, the chunk size, how far the reading has come, and the pages that are to come
pub record ColumnLeft : Type 0 where
  pub data_type : DataType
  pub decoding : Decoding
  pub size : Option ℕ
  pub standing : Standing
  pub pages : List Content
  pub causes : List Cause
  pub row_count : ℕ
  pub lent : ℕ

-- the rows that are still wanted
abbrev pub wanted : ColumnLeft → List Outcome
wanted left = still_wanted left.decoding.entries left.decoding.outcomes left.standing left.pages left.causes

-- no more arrays than this come: each has rows, and an error may come where none are left
abbrev pub arrays_at_most : ColumnLeft → Count
arrays_at_most left = at_most (length (wanted left) + min 1 left.standing.remaining)

module _ {X : Type 0} (type_of : X → DataType) (shown : X → List Cell) where
  -- An array of the first chunk of the rows that are wanted, whose bytes fit, and the others are left; or an error, want of memory or one
  -- that tells of these rows; or none is wanted. The pages that were lent for it are steps.
  pub record GivesColumn (old : ColumnLeft) (result : Option (Result X Error)) (new : ColumnLeft) (steps steps_now : ℕ) : Type 0 where
    pub chunk : GivesFirstChunk shown old.decoding.most_bytes old.size (wanted old) (wanted new) result
    pub typed : IfGiven result (λ array. type_of array ≡ old.data_type)
    pub fits : IfGiven result (λ array. fits_most old.decoding.most_bytes (sum_by cell_bytes (shown array)) ≡ true)
    pub pages :
        ReadsChunks shown old.decoding.entries old.decoding.outcomes old.decoding.most_bytes old.size result
        old.pages new.pages old.causes old.standing new.standing steps steps_now old.lent new.lent
    pub end : IfNone result (NoneComes new.standing.remaining new.pages new.causes)
    pub ended : wanted old ≡ [] → NoneComes old.standing.remaining old.pages old.causes → result ≡ None
    pub decoding : new.decoding ≡ old.decoding
    pub size : new.size ≡ old.size
    pub data_type : new.data_type ≡ old.data_type
    pub row_count : new.row_count ≡ old.row_count

  -- likewise over steps of its own
  abbrev pub GivesArray : ColumnLeft → Option (Result X Error) → ColumnLeft → Type 0
  GivesArray old result new = (steps : ℕ) × GivesColumn old result new 0 steps
