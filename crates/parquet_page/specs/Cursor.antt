-- What a place in a chunk stands for: the pages that are still to come.
use Rattle.std.specs.Prelude.{ℕ, ◌-◌, zero, suc, Bool, true, false, List, length, drop, Option, Some, None}
use Rattle.parquet_meta.specs.declared.metadata.PrimitiveType.{PrimitiveType}
use Rattle.parquet_meta.specs.declared.page_header.PageKind.{PageKind}
use Rattle.parquet_meta.specs.declared.page_header.PageKind.TheVariants as kind
use Rattle.parquet_page.specs.Chunk.{DictionaryPage, Defined, PageWalk, dictionary_at, pages_from}
use Rattle.parquet_page.specs.Lent.{Lent, nothing, lent_data, behind_dictionary}
use Rattle.parquet_page.specs.Spelling.{has_plain_entries}
use Rattle.parquet_page.specs.declared.cursor.Cursor.{Cursor}

-- a dictionary page, if one is there, and then data pages
abbrev pub lent_behind : PrimitiveType → Option (DictionaryPage × List ℕ) → (List ℕ → PageWalk) → List ℕ → Lent
lent_behind type None walk bytes = lent_data type (walk bytes)
lent_behind type (Some read) walk bytes = behind_dictionary (Defined read.0) (lent_data type (walk read.1))

-- What is lent of bytes until the pages hold `left` values. Only the first page of a chunk may be a dictionary page.
unfoldable pub lent_from : ℕ → PrimitiveType → Bool → ℕ → List ℕ → Lent
lent_from limit type is_first zero bytes = nothing
lent_from limit type true (suc left) bytes = lent_behind type (dictionary_at bytes) (pages_from limit (suc left)) bytes
lent_from limit type false (suc left) bytes = lent_data type (pages_from limit (suc left) bytes)

abbrev pub cursor_lent : PrimitiveType → Cursor → Lent
cursor_lent type cursor = lent_from (length cursor.chunk.items) type cursor.is_first cursor.left (drop cursor.place cursor.chunk.items)

-- a dictionary page whose entries can be read
abbrev pub is_plain_dictionary : PageKind → Bool
is_plain_dictionary (kind.Dictionary num_values encoding) = has_plain_entries encoding
is_plain_dictionary (kind.Data header) = false

-- the values that are not to come any more
abbrev pub cursor_given : Cursor → ℕ
cursor_given cursor = cursor.count - cursor.left
