-- Pages that are read from their own bytes.
use Rattle.std.specs.Prelude.{◌≡◌, ℕ, ◌≤◌, All, List, length, Some}
use Rattle.parquet_page.specs.Chunk.{DictionaryPage, Defined, PlacedPage, pages_of_chunk}
use Rattle.parquet_page.specs.Content.{header_values}
use Rattle.parquet_page.specs.Located.{located_dictionary, located_page}

-- the part in which a page stands spells the same page
abbrev pub IsReadAlone : List ℕ → PlacedPage → Type 0
IsReadAlone chunk placed = located_page chunk placed.start placed.page.size (header_values placed.page.header) ≡ Some placed.page

-- so does the part of a dictionary page, alone or with more behind it
abbrev pub IsDictionaryReadAlone : List ℕ → DictionaryPage → Type 0
IsDictionaryReadAlone chunk page = (first : ℕ) → page.size ≤ first → first ≤ length chunk → located_dictionary chunk first ≡ Defined page

abbrev pub ArePagesReadAlone : List ℕ → Type 0
ArePagesReadAlone chunk = (count : ℕ) → All (IsReadAlone chunk) (pages_of_chunk count chunk)
