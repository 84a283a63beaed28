-- A column chunk: headers and bodies in turn, a dictionary page at most as the first of them.
use Rattle.std.specs.Prelude.{ℕ, ℤ, pos, zero, suc, ◌+◌, ◌-◌, nat_le, Bool, true, false, List, [], ◌∷◌, length, take, drop, Option, Some, None}
use Rattle.std.specs.Option.{option_map_or}
use Rattle.parquet_base.specs.Reading.{Read, ◌>>=◌, given}
use Rattle.parquet_meta.specs.PageHeader.{page_header}
use Rattle.parquet_meta.specs.declared.page_header.PageKind.{PageKind}
use Rattle.parquet_meta.specs.declared.page_header.PageKind.TheVariants as kind
use Rattle.parquet_page.specs.Content.{header_values}
use Rattle.parquet_meta.specs.declared.page_header.DataPageHeader.{DataPageHeader}
use Rattle.parquet_meta.specs.declared.metadata.PageLocation.{PageLocation}

-- a page of any kind
pub record AnyPage : Type 0 where
  pub kind : PageKind
  pub body : List ℕ

-- a data page, with the length of its header and body
pub record ChunkPage : Type 0 where
  pub size : ℕ
  pub header : DataPageHeader
  pub body : List ℕ

-- a dictionary page, likewise
pub record DictionaryPage : Type 0 where
  pub size : ℕ
  pub num_values : ℕ
  pub encoding : ℤ
  pub body : List ℕ

-- The dictionary of a chunk: there is none, or none is defined where one has to stand, or there is one.
pub data Dictionary : Type 0 where
  NoDictionary : Dictionary
  Undefined : Dictionary
  Defined : DictionaryPage → Dictionary

-- data pages one behind the other, as far as they are defined, and whether that is all the way
pub record PageWalk : Type 0 where
  pub pages : List ChunkPage
  pub is_whole : Bool

-- a data page, where it begins in the chunk, and its first row
pub record PlacedPage : Type 0 where
  pub start : ℕ
  pub first_row : ℕ
  pub page : ChunkPage

-- what an offset index that is right says of it: its place in the file, its length with the header, and its first row
abbrev pub location_of_page : ℕ → PlacedPage → PageLocation
location_of_page chunk_start placed = record { offset = pos (chunk_start + placed.start); compressed_page_size = pos placed.page.size; first_row_index = pos placed.first_row }

-- ---- pages at the front of bytes

-- the page at the front, and the bytes after it
unfoldable pub page_at : Read AnyPage
page_at bytes = do
  header ← page_header bytes
  given (nat_le header.0.size (length header.1)) (record { kind = header.0.kind; body = take header.0.size header.1 }, drop header.0.size header.1)

abbrev pub as_data_header : PageKind → Option DataPageHeader
as_data_header (kind.Data header) = Some header
as_data_header (kind.Dictionary values encoding) = None

-- the data page at the front, if it holds at most `left` values, and the bytes after it
unfoldable pub data_page_at : ℕ → Read ChunkPage
data_page_at left bytes = do
  page ← page_at bytes
  header ← as_data_header page.0.kind
  given (nat_le (header_values header) left) (record { size = length bytes - length page.1; header = header; body = page.0.body }, page.1)

abbrev pub dictionary_page : ℕ → PageKind → List ℕ → Option DictionaryPage
dictionary_page size (kind.Dictionary values encoding) body = Some (record { size = size; num_values = values; encoding = encoding; body = body })
dictionary_page size (kind.Data header) body = None

-- the dictionary page at the front, if one stands there, and the bytes after it
unfoldable pub dictionary_at : Read DictionaryPage
dictionary_at bytes = do
  page ← page_at bytes
  dictionary ← dictionary_page (length bytes - length page.1) page.0.kind page.0.body
  Some (dictionary, page.1)

-- ---- the pages of a chunk

-- a walk that goes on behind a page, if one is defined
abbrev pub walk_on : Option (ChunkPage × List ℕ) → (ChunkPage → List ℕ → PageWalk) → PageWalk
walk_on None further = record { pages = []; is_whole = false }
walk_on (Some read) further = let rest = further read.0 read.1 in record { pages = read.0 ∷ rest.pages; is_whole = rest.is_whole }

-- Data pages until they hold `left` values. There are no more pages than bytes.
unfoldable pub pages_from : ℕ → ℕ → List ℕ → PageWalk
pages_from limit zero bytes = record { pages = []; is_whole = true }
pages_from zero (suc left) bytes = record { pages = []; is_whole = false }
pages_from (suc limit) (suc left) bytes = walk_on (data_page_at (suc left) bytes) (λ page rest. pages_from limit (suc left - header_values page.header) rest)

abbrev pub if_defined : Option (DictionaryPage × List ℕ) → Dictionary → Dictionary
if_defined None other = other
if_defined (Some read) other = Defined read.0

-- the dictionary page that a chunk begins with
abbrev pub chunk_dictionary : List ℕ → Dictionary
chunk_dictionary chunk = if_defined (dictionary_at chunk) NoDictionary

-- how many bytes it takes
abbrev pub dictionary_size : List ℕ → ℕ
dictionary_size chunk = option_map_or (λ (read : DictionaryPage × List ℕ). read.0.size) (dictionary_at chunk) 0

-- the data pages of a chunk of so many values
unfoldable pub chunk_pages : ℕ → List ℕ → PageWalk
chunk_pages num_values chunk = pages_from (length chunk) num_values (drop (dictionary_size chunk) chunk)

-- pages one behind the other, from a place and a row on
abbrev pub placed_pages : ℕ → ℕ → List ChunkPage → List PlacedPage
placed_pages start row [] = []
placed_pages start row (page ∷ pages) = record { start = start; first_row = row; page = page } ∷ placed_pages (start + page.size) (row + header_values page.header) pages

-- the data pages of a chunk of so many values, in their places
abbrev pub pages_of_chunk : ℕ → List ℕ → List PlacedPage
pages_of_chunk num_values chunk = placed_pages (dictionary_size chunk) 0 (chunk_pages num_values chunk).pages
