-- How many bytes the texts and byte strings of rows have together.
use Rattle.std.specs.Prelude.{◌≡◌, ◌⊎◌, ℕ, ◌*◌, nat_le, Bool, true, false, List, length, take, drop, sum_by, Option, Some, None}
use Rattle.columns_core.specs.Causes.{Overflow, cause_of}
use Rattle.columns_core.specs.declared.cell.Cell.{Cell, Text, Bytes}
use Rattle.columns_core.specs.declared.error.Error.{Error}
use Rattle.page_decoding.specs.Outcome.{Outcome, Given, Refused, IsCausedBy}

-- The other kinds of cells (nulls, truth values, numbers, lists of cells) have no bytes of their own.
abbrev pub cell_bytes : Cell → ℕ
cell_bytes (Text text) = length text
cell_bytes (Bytes bytes) = length bytes
cell_bytes _ = 0

-- A place that gives no cell has no bytes.
abbrev pub row_bytes : Outcome → ℕ
row_bytes (Given cell) = cell_bytes cell
row_bytes (Refused causes) = 0

-- so many bytes fit, where there is a most
abbrev pub fits_most : Option ℕ → ℕ → Bool
fits_most None count = true
fits_most (Some most) count = nat_le count most

-- the rows of one chunk
abbrev pub chunk_at : {A : Type 0} → Option ℕ → ℕ → List A → List A
chunk_at None k rows = rows
chunk_at (Some size) k rows = take size (drop (k * size) rows)

-- the bytes of some chunk of these rows are more than fit
abbrev pub SomePasses : Option ℕ → Option ℕ → List Outcome → Type 0
SomePasses most size rows = (k : ℕ) × (fits_most most (sum_by row_bytes (chunk_at size k rows)) ≡ false)

-- An error is want of memory, or tells of something that is wrong with these rows, or of a chunk of them whose bytes do not fit.
abbrev pub IsCausedByChunks : Option ℕ → Option ℕ → List Outcome → Error → Type 0
IsCausedByChunks most size rows error = IsCausedBy rows error ⊎ ((cause_of error ≡ Some Overflow) × SomePasses most size rows)
