-- Which pages are lent for so many rows.
use Rattle.std.specs.Prelude.{ℕ, zero, suc, ◌-◌, List, [], ◌∷◌, length, Option, Result}
use Rattle.columns_core.specs.Causes.{Cause}
use Rattle.columns_core.specs.declared.cell.Cell.{Cell}
use Rattle.parquet_page.specs.Content.{Content, DataContent, DictContent}
use Rattle.page_decoding.specs.Column.{entries_behind, page_rows}
use Rattle.page_decoding.specs.Outcome.{Outcome}

-- One after another, while rows are wanted. A page gives as many as it has selected places.
module _ (entries : DictContent → Result (List Cell) (List Cause)) (outcomes : Option (List Cell) → DataContent → List Outcome) where
  abbrev pub pages_wanted : Option (List Cell) → ℕ → List Content → List Content
  pages_wanted dictionary zero pages = []
  pages_wanted dictionary (suc more) [] = []
  pages_wanted dictionary (suc more) (page ∷ pages) =
      page ∷ pages_wanted (entries_behind entries outcomes dictionary page) (suc more - length (page_rows entries outcomes dictionary page)) pages
