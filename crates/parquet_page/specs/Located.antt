-- Pages that are found by their place and size alone.
use Rattle.std.specs.Prelude.{ℕ, ◌+◌, ◌==◌, ◌&&◌, nat_le, if◌then◌else◌, List, length, take, slice_range, Option}
use Rattle.parquet_base.specs.Reading.{◌>>=◌, given}
use Rattle.parquet_page.specs.Content.{header_values}
use Rattle.parquet_page.specs.Chunk.{ChunkPage, Dictionary, NoDictionary, Undefined, data_page_at, dictionary_at, if_defined}

-- the data page whose header and body fill a part, and that has so many values
unfoldable pub page_in : List ℕ → ℕ → Option ChunkPage
page_in part rows = do
  page ← data_page_at rows part
  given ((length page.1 == 0) && (header_values page.0.header == rows)) page.0

-- the one that fills a part of a chunk; what stands before it does not matter
unfoldable pub located_page : List ℕ → ℕ → ℕ → ℕ → Option ChunkPage
located_page chunk start size rows = do
  part ← given (nat_le (start + size) (length chunk)) (slice_range chunk start (start + size))
  page_in part rows

-- the dictionary page that begins a part; an empty part has none
abbrev pub dictionary_in : List ℕ → Dictionary
dictionary_in part = if length part == 0 then NoDictionary else if_defined (dictionary_at part) Undefined

-- the dictionary of a chunk of which the first located page begins at a place: it stands before that place, in the chunk
abbrev pub located_dictionary : List ℕ → ℕ → Dictionary
located_dictionary chunk first = if nat_le first (length chunk) then dictionary_in (take first chunk) else Undefined
