-- Rows that are cut into chunks of nulls.
use Rattle.std.specs.Prelude.{◌≡◌, ℕ, zero, suc, ◌-◌, ◌/◌, ◌%◌, ◌<◌, List, [], ◌∷◌, ◌++◌, map, min, replicate, Option, Some, None, Result, Ok, refl}
use Rattle.std.specs.Coded.{Coded, code_by, coded×, coded_option, coded_ℕ}
use Rattle.columns_core.specs.declared.cell.Cell.{Null}
use Rattle.columns_core.specs.declared.data_type.DataType as type
use Rattle.columns_core.specs.declared.error.Error.{Error}
use Rattle.page_decoding.specs.Outcome.{Given}
use Rattle.flat_values.specs.ColumnLeft.{ColumnLeft, Decoding}

-- a chunk that is not empty, if there is one
abbrev pub rest_chunk : ℕ → List ℕ
rest_chunk zero = []
rest_chunk (suc rows) = suc rows ∷ []

-- full chunks, and one of the rows behind them; without a chunk size one chunk of all rows
abbrev pub cut_rows : Option ℕ → ℕ → List ℕ
cut_rows None rows = rest_chunk rows
cut_rows (Some size) rows = replicate (rows / size) size ++ rest_chunk (rows % size)

-- so many rows that are not given yet, and how they are cut
pub record NullsLeft : Type 0 where
  pub size : Option ℕ
  pub rows : ℕ

abbrev pub nulls_code : Coded NullsLeft
nulls_code = code_by (Option ℕ × ℕ) (coded× (coded_option coded_ℕ) coded_ℕ) (λ n. (n.size, n.rows)) (λ p. record { size = p.0; rows = p.1 }) (λ _. refl)

-- the arrays of so many nulls each
abbrev pub null_arrays : NullsLeft → List (Result ℕ Error)
null_arrays left = map Ok (cut_rows left.size left.rows)

-- how many rows the first chunk has
abbrev pub first_nulls : Option ℕ → ℕ → ℕ
first_nulls None rows = rows
first_nulls (Some size) rows = min size rows

-- The rows of the first chunk are taken, if there are any.
pub record TakesFirst (old : NullsLeft) (rows : ℕ) (new : NullsLeft) : Type 0 where
  pub first : rows ≡ first_nulls old.size old.rows
  pub some : 0 < rows
  pub cut : cut_rows old.size old.rows ≡ rows ∷ cut_rows new.size new.rows
  pub left : new.rows ≡ old.rows - rows
  pub size : new.size ≡ old.size

abbrev pub TakesRows : NullsLeft → Option ℕ → NullsLeft → Type 0
TakesRows old (Some rows) new = TakesFirst old rows new
TakesRows old None new = (old.rows ≡ 0) × (new ≡ old)

-- no page is opened
abbrev pub no_pages : Decoding
no_pages = record { entries = λ page. Ok []; outcomes = λ entries page. []; most_bytes = None }

-- As a column: all nulls wait, and no page is to come.
abbrev pub nulls_left : NullsLeft → ColumnLeft
nulls_left left = record {
  data_type = type.Null;
  decoding = no_pages;
  size = left.size;
  standing = record { waiting = replicate left.rows (Given Null); remaining = 0; dictionary = None };
  pages = [];
  causes = [];
  row_count = 0;
  lent = 0;
}
