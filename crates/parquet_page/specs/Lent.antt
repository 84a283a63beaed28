-- What readers of pages lend, and what is refused behind it.
use Rattle.std.specs.Prelude.{ℕ, zero, suc, ◌+◌, ◌^◌, ◌==◌, ◌&&◌, not, nat_le, nat_lt, Bool, if◌then◌else◌, List, [], ◌∷◌, length, map, filter, sum_by, slice_range, unwrap_or, zip, Option, Some, None}
use Rattle.std.specs.List.{list_all}
use Rattle.columns_core.specs.Causes.{Cause, NotYetImplemented, ExternalFormat, unless}
use Rattle.parquet_base.specs.Reading.{◌>>=◌, given}
use Rattle.parquet_base.specs.Intervals.{is_well_shaped, row_count}
use Rattle.parquet_base.specs.declared.interval.Interval.{Interval}
use Rattle.parquet_meta.specs.declared.metadata.PrimitiveType.{PrimitiveType}
use Rattle.parquet_page.specs.Content.{Content, DataOf, DictContent, DictOf}
use Rattle.parquet_page.specs.Chunk.{ChunkPage, DictionaryPage, Dictionary, NoDictionary, Undefined, Defined, PageWalk, chunk_dictionary, chunk_pages}
use Rattle.parquet_page.specs.Located.{dictionary_in, located_dictionary, page_in}
use Rattle.parquet_page.specs.Spelling.{has_plain_entries}
use Rattle.parquet_page.specs.declared.page.FilteredPage.{FilteredPage}

-- Pages, and what an error behind them may tell of. Where there is no cause they end without an error.
pub record Lent : Type 0 where
  pub pages : List Content
  pub causes : List Cause

abbrev pub nothing : Lent
nothing = record { pages = []; causes = [] }

-- no page, since one is damaged
abbrev pub damaged : Lent
damaged = record { pages = []; causes = ExternalFormat ∷ [] }

abbrev pub in_front : Content → Lent → Lent
in_front page others = record { pages = page ∷ others.pages; causes = others.causes }

abbrev pub lent_data_of : PrimitiveType → Option (List Interval) → ChunkPage → Content
lent_data_of type selected page = DataOf (record { header = page.header; body = page.body; type = type; selected = selected })

abbrev pub dictionary_content_of : DictionaryPage → DictContent
dictionary_content_of page = record { body = page.body; num_values = page.num_values }

abbrev pub lent_dictionary_of : DictionaryPage → Content
lent_dictionary_of page = DictOf (dictionary_content_of page)

-- a dictionary, if there is one, in front of other pages
abbrev pub behind_dictionary : Dictionary → Lent → Lent
behind_dictionary NoDictionary others = others
behind_dictionary Undefined others = damaged
behind_dictionary (Defined page) others = if has_plain_entries page.encoding then in_front (lent_dictionary_of page) others else record { pages = []; causes = NotYetImplemented ∷ [] }

-- ---- whole chunks

-- data pages, and what stands behind them
abbrev pub lent_data : PrimitiveType → PageWalk → Lent
lent_data type walk = record { pages = map (lent_data_of type None) walk.pages; causes = unless walk.is_whole ExternalFormat }

-- What is lent of a chunk: its dictionary page, if it begins with one, and its data pages. Of a chunk of no values nothing is lent.
unfoldable pub chunk_lent : PrimitiveType → ℕ → List ℕ → Lent
chunk_lent type zero chunk = nothing
chunk_lent type (suc more) chunk = behind_dictionary (chunk_dictionary chunk) (lent_data type (chunk_pages (suc more) chunk))

-- ---- located pages

-- some row of the page is selected
abbrev pub is_wanted : FilteredPage → Bool
is_wanted entry = not (length entry.selected_rows == 0)

-- a page in its part of the file, which has the length that the entry names
abbrev pub wanted_page : FilteredPage → List ℕ → Option ChunkPage
wanted_page entry part = do
  own ← given (length part == entry.length) part
  page_in own entry.num_rows

abbrev pub if_there : PrimitiveType → FilteredPage → Option ChunkPage → Lent → Lent
if_there type entry None others = damaged
if_there type entry (Some page) others = in_front (lent_data_of type (Some entry.selected_rows) page) others

-- pages in their parts, in order, each with its selected rows
unfoldable pub lent_parts : PrimitiveType → List (FilteredPage × List ℕ) → Lent
lent_parts type [] = nothing
lent_parts type (wanted ∷ others) = if_there type wanted.0 (wanted_page wanted.0 wanted.1) (lent_parts type others)

-- Where a page is wanted, the dictionary is lent before it.
unfoldable pub located_lent : PrimitiveType → Dictionary → List (FilteredPage × List ℕ) → Lent
located_lent type before [] = nothing
located_lent type before (wanted ∷ others) = behind_dictionary before (lent_parts type (wanted ∷ others))

-- how many rows are selected in all
abbrev pub selected_count : List FilteredPage → ℕ
selected_count entries = sum_by (λ entry. row_count entry.selected_rows) entries

-- The selected rows of each page are well shaped for it, and their number in all has 64 bits.
abbrev pub are_well_shaped : List FilteredPage → Bool
are_well_shaped entries = list_all (λ entry. is_well_shaped entry.selected_rows entry.num_rows) entries && nat_lt (selected_count entries) (2 ^ 64)

-- ---- by their places in a chunk, which count from its start

-- the wanted pages and their parts
abbrev pub parts_of : List ℕ → List FilteredPage → List (FilteredPage × List ℕ)
parts_of chunk entries = map (λ entry. (entry, slice_range chunk entry.start (entry.start + entry.length))) (filter is_wanted entries)

-- the start of the first page, wanted or not
abbrev pub first_start : List FilteredPage → ℕ
first_start [] = 0
first_start (first ∷ entries) = first.start

-- Where a page is wanted, the part before the first page and those of all wanted pages lie in a chunk of so many bytes.
abbrev pub lie_within : ℕ → List FilteredPage → Bool
lie_within size entries =
    list_all (λ entry. nat_le (entry.start + entry.length) size && nat_le (first_start entries) size) (filter is_wanted entries)

-- what is lent of a chunk by locations
abbrev pub located_chunk : PrimitiveType → List ℕ → List FilteredPage → Lent
located_chunk type chunk entries = located_lent type (located_dictionary chunk (first_start entries)) (parts_of chunk entries)

-- ---- by their bytes

-- one part for each wanted page
abbrev pub has_parts : List FilteredPage → List (List ℕ) → Bool
has_parts entries parts = length parts == length (filter is_wanted entries)

-- what is lent of parts: of the one before the first page, if it is there, and of those of wanted pages
abbrev pub located_parts : PrimitiveType → Option (List ℕ) → List FilteredPage → List (List ℕ) → Lent
located_parts type before entries parts = located_lent type (dictionary_in (unwrap_or before [])) (zip (filter is_wanted entries) parts)
