-- What is said of plain files: the readers' own definitions find in one what it was written from.
use Rattle.std.specs.Prelude.{◌≡◌, ◌<◌, ◌++◌, ◌^◌, ℕ, ℤ, Bool, true, List, ◌∷◌, Option, Some, All, FitsSigned, length, map, pos, sum_by}
use Rattle.std.specs.Int.{w32, w64, cast_unsigned}
use Rattle.std.specs.List.{flat_map}
use Rattle.parquet_base.specs.Pieces.{cut}
use Rattle.parquet_meta.specs.ColumnIndex.{column_index_in, index_with}
use Rattle.parquet_meta.specs.File.{footer}
use Rattle.parquet_meta.specs.OffsetIndex.{locations_in}
use Rattle.parquet_meta.specs.PageHeader.{page_header}
use Rattle.parquet_meta.specs.StoredEnds.{int32_end, int64_end}
use Rattle.parquet_meta.specs.declared.metadata.PageLocation.{PageLocation}
use Rattle.parquet_meta.specs.declared.metadata.PrimitiveType.{PrimitiveType}
use Rattle.parquet_page.specs.Chunk.{NoDictionary, chunk_dictionary, chunk_pages, location_of_page, pages_of_chunk}
use Rattle.parquet_page.specs.Content.{header_values}
use Rattle.parquet_page.specs.Locations.{has_shape, page_intervals}
use Rattle.parquet_page.specs.Spelling.{spelled}
use Rattle.parquet_page.specs.Stored.{Number, Stored}
use Rattle.parquet_plain.specs.Bodies.{number_octets}
use Rattle.parquet_plain.specs.Columns.{greatest, least}
use Rattle.parquet_plain.specs.Description.{PlainFile, PlainPage, locations_from, page_bytes, rows_of_pages}
use Rattle.parquet_plain.specs.File.{chunks_of, first_starts, meta_data_of_plain, plain_file}
use Rattle.parquet_plain.specs.Fits.{FitsFile, FitsIndex, FitsItems, FitsLocation, FitsPage, HasPlaces}
use Rattle.parquet_plain.specs.Found.{AllLocated, GroupsStand, intervals_from, plain_content, plain_header, whole_walk}
use Rattle.parquet_plain.specs.Structs.{column_index_bytes, offset_index_bytes, page_header_bytes}

-- ---- structs

abbrev pub HeadersAreRead : Type 0
HeadersAreRead =
    (rows size : ℕ) (rest : List ℕ) → rows < 2 ^ 31 → size < 2 ^ 31 → page_header (page_header_bytes rows size ++ rest) ≡ Some (plain_header rows size, rest)

abbrev pub LocationsAreRead : Type 0
LocationsAreRead =
    (pages : List PageLocation) (rest : List ℕ) → length pages < 2 ^ 64 → All FitsLocation pages → locations_in (offset_index_bytes pages ++ rest) ≡ Some pages

abbrev pub IndexesAreRead : Type 0
IndexesAreRead =
    (nulls : List Bool) (lows highs : List (List ℕ)) (counts : List ℕ) (rest : List ℕ) → FitsIndex nulls lows highs counts →
    let index = index_with nulls lows highs (Some (map pos counts)) in column_index_in (column_index_bytes index ++ rest) ≡ Some index

-- ---- files

-- the footer says what the file was written from
abbrev pub FootersAreRead : Type 0
FootersAreRead = (file : PlainFile) → FitsFile file → footer (plain_file file) ≡ Some (meta_data_of_plain file)

-- each chunk and each of its indexes stands where the footer says
abbrev pub PartsStand : Type 0
PartsStand = (file : PlainFile) → GroupsStand (plain_file file) (first_starts (chunks_of file.groups)) file.groups

-- ---- pages

-- a chunk is read as its pages
abbrev pub PagesAreRead : Type 0
PagesAreRead = (pages : List PlainPage) → All FitsPage pages → chunk_pages (rows_of_pages pages) (flat_map page_bytes pages) ≡ whole_walk pages

-- a chunk has no dictionary
abbrev pub HaveNoDictionary : Type 0
HaveNoDictionary = (pages : List PlainPage) → All FitsPage pages → chunk_dictionary (flat_map page_bytes pages) ≡ NoDictionary

-- the locations that are written are where the pages stand, also in a chunk that begins at a place
abbrev pub LocationsAreTrue : Type 0
LocationsAreTrue =
    (start : ℕ) (pages : List PlainPage) → All FitsPage pages →
    map (location_of_page start) (pages_of_chunk (rows_of_pages pages) (flat_map page_bytes pages)) ≡ locations_from start 0 pages

-- the headers count as many values as the chunk has rows
abbrev pub CountsAreTrue : Type 0
CountsAreTrue =
    (pages : List PlainPage) → All FitsPage pages →
    sum_by (λ placed. header_values placed.page.header) (pages_of_chunk (rows_of_pages pages) (flat_map page_bytes pages)) ≡ rows_of_pages pages

-- locations have their shape where there is a page, and divide the rows as the pages do
abbrev pub LocationsHaveShape : Type 0
LocationsHaveShape =
    (start : ℕ) (page : PlainPage) (pages : List PlainPage) → has_shape (locations_from start 0 (page ∷ pages)) (rows_of_pages (page ∷ pages)) ≡ true

abbrev pub RowsAreDivided : Type 0
RowsAreDivided =
    (start : ℕ) (pages : List PlainPage) → page_intervals (locations_from start 0 pages) (rows_of_pages pages) ≡ Some (intervals_from 0 pages)

-- each location finds its page
abbrev pub PagesAreLocated : Type 0
PagesAreLocated = (start : ℕ) (pages : List PlainPage) → All FitsPage pages → AllLocated start (flat_map page_bytes pages) start 0 pages

-- a page spells the items that it was written from
abbrev pub BodiesSpell : Type 0
BodiesSpell =
    (type : PrimitiveType) (items : List (Option Stored)) (dictionary : Option (List Stored)) → FitsItems type items → HasPlaces type.repetition items →
    spelled (plain_content type items) dictionary ≡ Some items

-- items in pages of a size: all of them, in order
abbrev pub PiecesAreWhole : Type 0
PiecesAreWhole = (size : ℕ) (items : List (Option Stored)) → 0 < size → flat_map (λ piece. piece) (cut (Some size) items) ≡ items

abbrev pub PiecesCountAll : Type 0
PiecesCountAll = (size : ℕ) (items : List (Option Stored)) → 0 < size → sum_by length (cut (Some size) items) ≡ length items

-- ---- ends

-- the least and the greatest of items of a kind bound all of them
abbrev pub EndsBound : (Stored → Type 0) → (Stored → Stored → Bool) → Type 0
EndsBound P at_most =
    (item : Stored) (items : List Stored) → P item → All P items →
    All (λ v. at_most (least at_most item items) v ≡ true) (item ∷ items) × All (λ v. at_most v (greatest at_most item items) ≡ true) (item ∷ items)

-- numbers are read from their ends
abbrev pub EndsAreRead : Type 0
EndsAreRead =
    ((n : ℤ) → FitsSigned w32 n → int32_end (number_octets 4 (cast_unsigned w32) (Number n)) ≡ Some n)
    × ((n : ℤ) → FitsSigned w64 n → int64_end (number_octets 8 (cast_unsigned w64) (Number n)) ≡ Some n)
