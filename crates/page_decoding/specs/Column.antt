-- The rows of a column, page by page.
use Rattle.std.specs.Prelude.{List, [], ◌∷◌, ◌++◌, if◌then◌else◌, Option, Result}
use Rattle.std.specs.Result.{result_ok}
use Rattle.columns_core.specs.Causes.{Cause, is_empty}
use Rattle.columns_core.specs.declared.cell.Cell.{Cell}
use Rattle.parquet_page.specs.Content.{Content, DataContent, DictContent, DataOf, DictOf}
pub use Rattle.parquet_page.specs.Lending.{DataPagesAre}
use Rattle.page_decoding.specs.Outcome.{Outcome, causes_in, refusal_of, refused}

-- rows, and those behind them where nothing is wrong with the first
abbrev pub followed_by : List Outcome → List Outcome → List Outcome
followed_by first later = if is_empty (causes_in first) then first ++ later else first

module _ (entries : DictContent → Result (List Cell) (List Cause)) (outcomes : Option (List Cell) → DataContent → List Outcome) where
  -- what the selected places of a page give; of a dictionary page, what is wrong with it
  abbrev pub page_rows : Option (List Cell) → Content → List Outcome
  page_rows dictionary (DataOf page) = outcomes dictionary page
  page_rows dictionary (DictOf page) = refusal_of (entries page)

  -- A dictionary page changes what the data pages behind it mean.
  abbrev pub entries_behind : Option (List Cell) → Content → Option (List Cell)
  entries_behind dictionary (DataOf page) = dictionary
  entries_behind dictionary (DictOf page) = result_ok (entries page)

  -- What the selected places of pages give. Behind a page with which something is wrong nothing comes. Behind the last page stands
  -- what is wrong there, if anything.
  abbrev pub rows : Option (List Cell) → List Content → List Cause → List Outcome
  rows dictionary [] causes = refused causes
  rows dictionary (page ∷ pages) causes = followed_by (page_rows dictionary page) (rows (entries_behind dictionary page) pages causes)
