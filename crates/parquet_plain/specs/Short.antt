-- Which pages, chunks and footers have counts and lengths that readers take.
use Rattle.std.specs.Prelude.{ℕ, ◌+◌, ◌^◌, ◌&&◌, nat_lt, Bool, true, List, [], ◌∷◌, length}
use Rattle.std.specs.List.{list_all}
use Rattle.parquet_meta.specs.declared.metadata.FileMetaData.{FileMetaData}
use Rattle.parquet_plain.specs.Description.{PlainChunk, PlainPage, chunk_bytes, page_bytes}
use Rattle.parquet_plain.specs.File.{chunk_index_bytes, chunk_locations_bytes}
use Rattle.parquet_plain.specs.Structs.{footer_bytes}

-- a number that a signed field of 32 bits tells
abbrev pub is_short : ℕ → Bool
is_short n = nat_lt n (2 ^ 31)

-- its rows, and its bytes with the header
abbrev pub is_short_page : PlainPage → Bool
is_short_page page = is_short page.rows && is_short (length (page_bytes page))

abbrev pub are_short_indexes : ℕ → PlainChunk → Bool
are_short_indexes start chunk =
    is_short (length (chunk_index_bytes chunk)) && is_short (length (chunk_locations_bytes start chunk))

-- the pages and the indexes of a chunk that begins at a place of the file
abbrev pub is_short_chunk : ℕ → PlainChunk → Bool
is_short_chunk start chunk = list_all is_short_page chunk.pages && are_short_indexes start chunk

-- chunks of which the first begins at a place
abbrev pub are_short_chunks : ℕ → List PlainChunk → Bool
are_short_chunks start [] = true
are_short_chunks start (chunk ∷ chunks) =
    is_short_chunk start chunk && are_short_chunks (start + length (chunk_bytes chunk)) chunks

-- all rows, and the bytes that the footer's length counts
abbrev pub is_short_footer : FileMetaData → Bool
is_short_footer told = nat_lt told.num_rows (2 ^ 63) && nat_lt (length (footer_bytes told)) (2 ^ 32)
