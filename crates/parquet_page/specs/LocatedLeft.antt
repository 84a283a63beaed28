-- What a place among located pages stands for: the pages that are still to come.
use Rattle.std.specs.Prelude.{◌≡◌, ℕ, ◌-◌, ◌<◌, List, length, drop, false, Option, Some, None, Result, Ok, Err, MatchOption}
use Rattle.columns_core.specs.declared.error.Error.{Error}
use Rattle.parquet_meta.specs.declared.metadata.PrimitiveType.{PrimitiveType}
use Rattle.parquet_page.specs.Content.{Content}
use Rattle.parquet_page.specs.Found.{IsInside, found_body, kind_content}
use Rattle.parquet_page.specs.Lent.{Lent, behind_dictionary, selected_count, wanted_page}
use Rattle.parquet_page.specs.Located.{dictionary_in}
use Rattle.parquet_page.specs.Parts.{Begins, Fills, bytes_for, entry_at, lent_left, wanted_part, part_before}
use Rattle.parquet_page.specs.Taking.{IsRefused}
use Rattle.parquet_page.specs.declared.found.FoundPage.{FoundPage}
use Rattle.parquet_page.specs.declared.located.Located.{Located}
use Rattle.parquet_page.specs.declared.located.LocatedPage.{LocatedPage}
use Rattle.parquet_page.specs.declared.page.FilteredPage.{FilteredPage}
use Rattle.parquet_page.specs.declared.parts.Parts.{Parts}

-- what is left to lend
abbrev pub located_left : PrimitiveType → Located → Lent
located_left type located = lent_left type located.parts located.is_first located.next (drop located.next located.entries.items)

-- without the dictionary
abbrev pub data_left : PrimitiveType → Located → Lent
data_left type located = lent_left type located.parts false located.next (drop located.next located.entries.items)

-- the dictionary page, if it is still to come, with what is left behind it
abbrev pub FindsFirst : PrimitiveType → Located → Result (Option FoundPage) Error → Type 0
FindsFirst type located (Ok None) = located_left type located ≡ data_left type located
FindsFirst type located (Ok (Some found)) =
    (located_left type located ≡ behind_dictionary (dictionary_in (part_before located.parts)) (data_left type located)) × Begins (part_before located.parts) found (data_left type located)
FindsFirst type located (Err error) = IsRefused (located_left type located) error

-- the page that fills the part of an entry
abbrev pub FindsData : Located → ℕ → Option FoundPage → Type 0
FindsData located k found =
    let entry = entry_at located.entries.items k in let part = wanted_part located.parts k entry in
    MatchOption found (wanted_page entry part ≡ None) (Fills entry part)

-- the rows that are not to come any more
abbrev pub located_given : Located → ℕ
located_given located = located.count - selected_count (drop located.next located.entries.items)

-- where a page was found: a dictionary page in the part before the first page, a data page in the part of its entry
abbrev pub located_page_bytes : Parts → List FilteredPage → LocatedPage → List ℕ
located_page_bytes parts entries page = bytes_for parts entries page.entry page.found.kind

-- what is lent of it
abbrev pub located_content : PrimitiveType → Parts → List FilteredPage → LocatedPage → Content
located_content type parts entries page = kind_content type (Some (entry_at entries page.entry).selected_rows) page.found.kind (found_body (located_page_bytes parts entries page) page.found)

pub record IsLocated (parts : Parts) (entries : List FilteredPage) (page : LocatedPage) : Type 0 where
  pub entry : page.entry < length entries
  pub inside : IsInside (located_page_bytes parts entries page) page.found
