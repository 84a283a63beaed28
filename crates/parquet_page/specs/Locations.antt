-- What an offset index says: which rows its pages hold, and which of them are selected.
use Rattle.std.specs.Prelude.{ℕ, ℤ, pos, ◌-◌, ◌==◌, ◌&&◌, is_some, nat_le, Bool, true, false, List, [], ◌∷◌, Option, Some, None}
use Rattle.std.specs.List.{list_all}
use Rattle.parquet_base.specs.Reading.{◌>>=◌, given}
use Rattle.parquet_base.specs.Intervals.{interval, overlaps}
use Rattle.parquet_base.specs.declared.interval.Interval.{Interval}
use Rattle.parquet_meta.specs.Code.{not_negative}
use Rattle.parquet_meta.specs.declared.metadata.PageLocation.{PageLocation}
use Rattle.parquet_meta.specs.declared.metadata.Place.{Place}
use Rattle.parquet_page.specs.Chunk.{ChunkPage}
use Rattle.parquet_page.specs.Located.{located_page}
use Rattle.parquet_page.specs.declared.page.FilteredPage.{FilteredPage}

-- the rows from a first one up to another; neither is negative
abbrev pub rows_between : ℤ → ℤ → Option Interval
rows_between (pos start) (pos stop) = given (nat_le start stop) (interval start (stop - start))
rows_between _ _ = None

-- the first row behind a page: that of the next page, and behind the last page the number of rows
abbrev pub next_row : List PageLocation → ℕ → ℤ
next_row [] rows = pos rows
next_row (next ∷ pages) rows = next.first_row_index

-- The rows of each page. No first row is negative, and none is above the next one or the number of rows.
unfoldable pub page_intervals : List PageLocation → ℕ → Option (List Interval)
page_intervals [] rows = Some []
page_intervals (page ∷ pages) rows = do
  own ← rows_between page.first_row_index (next_row pages rows)
  others ← page_intervals pages rows
  Some (own ∷ others)

-- the part of a file that a location names, header and body
abbrev pub part_of : PageLocation → Option Place
part_of location = do
  start ← not_negative location.offset
  size ← not_negative location.compressed_page_size
  Some (record { offset = start; length = size })

abbrev pub begin_with_row_0 : Option (List Interval) → Bool
begin_with_row_0 (Some (page ∷ pages)) = page.start == 0
begin_with_row_0 _ = false

-- The list is not empty, its first row is 0, its first rows never fall nor pass the number of rows, and no number is negative.
abbrev pub has_shape : List PageLocation → ℕ → Bool
has_shape locations rows = begin_with_row_0 (page_intervals locations rows) && list_all (λ location. is_some (part_of location)) locations

-- the page that a location names in a chunk which begins at a place of the file
unfoldable pub located : ℕ → List ℕ → PageLocation → ℕ → Option ChunkPage
located chunk_start chunk location rows = do
  part ← part_of location
  own ← given (nat_le chunk_start part.offset) part
  located_page chunk (own.offset - chunk_start) own.length rows

-- ---- pages with their selected rows

-- a page's part of the file, and its selected rows
abbrev pub filtered_page : List Interval → PageLocation → Interval → Option FilteredPage
filtered_page intervals location rows = do
  part ← part_of location
  Some (record { start = part.offset; length = part.length; selected_rows = overlaps rows intervals; num_rows = rows.length })

-- those of pages with these rows
unfoldable pub filtered_pages : List Interval → List PageLocation → List Interval → Option (List FilteredPage)
filtered_pages intervals (location ∷ locations) (rows ∷ others) = do
  page ← filtered_page intervals location rows
  pages ← filtered_pages intervals locations others
  Some (page ∷ pages)
filtered_pages intervals _ _ = Some []

-- The first page begins at or before the first interval.
abbrev pub begin_in_time : List Interval → List Interval → Bool
begin_in_time pages [] = true
begin_in_time [] (first ∷ intervals) = false
begin_in_time (page ∷ pages) (first ∷ intervals) = nat_le page.start first.start

-- one entry for each location
unfoldable pub selected_pages : List Interval → List PageLocation → ℕ → Option (List FilteredPage)
selected_pages intervals locations num_rows = do
  pages ← page_intervals locations num_rows
  reached ← given (begin_in_time pages intervals) pages
  filtered_pages intervals locations reached
