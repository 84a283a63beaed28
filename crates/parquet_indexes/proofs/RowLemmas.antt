-- Pages that begin with the first row.
use Rattle.std.proofs.Common.{◌≡◌, ◌∙◌, sym, subst, ℕ, true, List, [], ◌∷◌, Some}
use Rattle.std.proofs.lemmas.Bool.{eqb-true, false≢true}
use Rattle.parquet_base.specs.Intervals.{AreAdjacent}
use Rattle.parquet_base.specs.declared.interval.Interval.{Interval}
use Rattle.parquet_meta.specs.declared.metadata.PageLocation.{PageLocation}
use Rattle.parquet_page.specs.Locations.{begin_with_row_0, page_intervals}
use Rattle.parquet_page.proofs.SelectionLemmas.{Covers, pages-cover, some}

pub all_rows : (locations : List PageLocation) (rows : ℕ) (pages : List Interval) → page_intervals locations rows ≡ Some pages → begin_with_row_0 (Some pages) ≡ true → AreAdjacent 0 pages rows
all_rows locations rows pages e first = by locations pages (pages-cover locations rows pages e) first where
  by : (locations : List PageLocation) (pages : List Interval) → Covers rows locations pages → begin_with_row_0 (Some pages) ≡ true → AreAdjacent 0 pages rows
  by locations [] covered first = absurd (false≢true first)
  by [] (page ∷ pages) covered first = elim covered [ ]
  by (location ∷ locations) (page ∷ pages) (some start same adjacent) first =
      subst (λ (from : ℕ). AreAdjacent from (page ∷ pages) rows) (sym adjacent.0 ∙ eqb-true page.start 0 first) adjacent
