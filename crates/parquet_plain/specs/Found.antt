-- What is found in a plain file: parts in their places, pages of chunks, pages by their locations.
use Rattle.std.specs.Prelude.{◌≡◌, ◌+◌, ℕ, pos, true, List, [], ◌∷◌, length, map, Some, None, Option}
use Rattle.parquet_base.specs.Intervals.{interval}
use Rattle.parquet_base.specs.declared.interval.Interval.{Interval}
use Rattle.parquet_meta.specs.Places.{part_at}
use Rattle.parquet_meta.specs.declared.metadata.PageLocation.{PageLocation}
use Rattle.parquet_meta.specs.declared.metadata.Place.{Place}
use Rattle.parquet_meta.specs.declared.metadata.PrimitiveType.{PrimitiveType}
use Rattle.parquet_meta.specs.declared.page_header.DataPageHeader.{DataPageHeader}
use Rattle.parquet_meta.specs.declared.page_header.DataPageHeader.TheVariants.{V1}
use Rattle.parquet_meta.specs.declared.page_header.PageHeader.{PageHeader}
use Rattle.parquet_meta.specs.declared.page_header.PageKind.TheVariants.{Data}
use Rattle.parquet_page.specs.Chunk.{ChunkPage, PageWalk}
use Rattle.parquet_page.specs.Content.{DataContent}
use Rattle.parquet_page.specs.Locations.{located}
use Rattle.parquet_page.specs.Stored.{Stored}
use Rattle.parquet_plain.specs.Bodies.{body_bytes}
use Rattle.parquet_plain.specs.Description.{PlainPage, PlainChunk, PlainGroup, chunk_bytes, page_bytes}
use Rattle.parquet_plain.specs.File.{Starts, behind, behind_all, chunk_index_bytes, chunk_locations_bytes}

-- ---- parts in their places

-- bytes from a place on
abbrev pub place_at : ℕ → List ℕ → Place
place_at place own = record { offset = place; length = length own }

pub record ChunkStands (file : List ℕ) (at : Starts) (chunk : PlainChunk) : Type 0 where
  pub chunk_stands : part_at file (place_at at.chunk (chunk_bytes chunk)) ≡ Some (chunk_bytes chunk)
  pub index_stands : part_at file (place_at at.index (chunk_index_bytes chunk)) ≡ Some (chunk_index_bytes chunk)
  pub locations_stand : part_at file (place_at at.locations (chunk_locations_bytes at.chunk chunk)) ≡ Some (chunk_locations_bytes at.chunk chunk)

-- each chunk of a list stands at its own place
abbrev pub ChunksStand : List ℕ → Starts → List PlainChunk → Type 0
ChunksStand file at [] = Unit {0}
ChunksStand file at (chunk ∷ chunks) = ChunkStands file at chunk × ChunksStand file (behind at chunk) chunks

abbrev pub GroupsStand : List ℕ → Starts → List PlainGroup → Type 0
GroupsStand file at [] = Unit {0}
GroupsStand file at (group ∷ groups) = ChunksStand file at group.chunks × GroupsStand file (behind_all at group.chunks) groups

-- ---- pages of a chunk

-- a plain page of so many rows, whose levels are hybrid
abbrev pub plain_page_header : ℕ → DataPageHeader
plain_page_header rows = V1 rows (pos 0) (pos 3)

abbrev pub plain_header : ℕ → ℕ → PageHeader
plain_header rows size = record { kind = Data (plain_page_header rows); size = size }

abbrev pub chunk_page : PlainPage → ChunkPage
chunk_page page = record { size = length (page_bytes page); header = plain_page_header page.rows; body = page.body }

-- all pages of a chunk, and nothing else
abbrev pub whole_walk : List PlainPage → PageWalk
whole_walk pages = record { pages = map chunk_page pages; is_whole = true }

-- a page of items, whole
abbrev pub plain_content : PrimitiveType → List (Option Stored) → DataContent
plain_content type items =
    record { header = plain_page_header (length items); body = body_bytes type.physical_type type.repetition items; type = type; selected = None }

-- ---- pages by their locations

abbrev pub location_at : ℕ → ℕ → PlainPage → PageLocation
location_at place row page = record { offset = pos place; compressed_page_size = pos (length (page_bytes page)); first_row_index = pos row }

-- the rows of pages
abbrev pub intervals_from : ℕ → List PlainPage → List Interval
intervals_from row [] = []
intervals_from row (page ∷ pages) = interval row page.rows ∷ intervals_from (row + page.rows) pages

-- each location names the page that stands there
abbrev pub AllLocated : ℕ → List ℕ → ℕ → ℕ → List PlainPage → Type 0
AllLocated start chunk place row [] = Unit {0}
AllLocated start chunk place row (page ∷ pages) =
    (located start chunk (location_at place row page) page.rows ≡ Some (chunk_page page)) × AllLocated start chunk (place + length (page_bytes page)) (row + page.rows) pages
