-- What all arrays of a column are, and which pages are lent for them.
use Rattle.std.specs.Prelude.{◌≡◌, ℕ, ◌+◌, ◌-◌, ◌^◌, ◌≤◌, true, All, List, Some, length, map, min, sum_by, Result, IfErr, IfOk, OnOk}
use Rattle.std.specs.Result.{IsErrAnd}
use Rattle.columns_core.specs.Array.{cells, data_type_of}
use Rattle.columns_core.specs.Causes.{NotYetImplemented, cause_of}
use Rattle.columns_core.specs.declared.array.Array.{Array}
use Rattle.columns_core.specs.declared.error.Error.{Error}
use Rattle.parquet_base.specs.Pieces.{cut}
use Rattle.page_decoding.specs.Bytes.{IsCausedByChunks, cell_bytes, fits_most}
use Rattle.page_decoding.specs.Outcome.{Given}
use Rattle.flat_values.specs.ColumnLeft.{ColumnLeft, wanted}
use Rattle.flat_binary.specs.PagesWanted.{pages_wanted}

-- the rows that are wanted, in arrays of the type and of the chunk size
pub record AreCollected (left : ColumnLeft) (arrays : List Array) : Type 0 where
  pub typed : All (λ array. data_type_of array ≡ left.data_type) arrays
  pub chunks : map (λ array. map Given (cells array)) arrays ≡ cut left.size (wanted left)
  pub fits : All (λ array. fits_most left.decoding.most_bytes (sum_by cell_bytes (cells array)) ≡ true) arrays

-- how many pages are lent
abbrev pub pages_of : ColumnLeft → ℕ
pages_of left = length (pages_wanted left.decoding.entries left.decoding.outcomes left.standing.dictionary left.standing.remaining left.pages)

-- All arrays of a column and the count of the pages, each of which is a step; or an error, want of memory or one that tells of the rows.
pub record Collects {X : Type 0} (arrays : X → List Array) (count : X → ℕ) (left : ColumnLeft) (result : Result X Error) (steps steps_now : ℕ) : Type 0 where
  pub collected : IfOk result (λ found. AreCollected left (arrays found))
  pub cause : IfErr result (IsCausedByChunks left.decoding.most_bytes left.size (wanted left))
  pub later : steps ≤ steps_now
  pub counted : IfOk result (λ found. count found ≡ min (steps_now - steps) (2 ^ 64 - 1))
  pub lent : OnOk result (steps_now ≡ steps + pages_of left)

-- No page is lent for a pair that is not carried.
abbrev pub IsNotCarried : {X : Type 0} → Result X Error → ℕ → ℕ → Type 0
IsNotCarried result steps steps_now = IsErrAnd result (λ error. cause_of error ≡ Some NotYetImplemented) × (steps_now ≡ steps)
