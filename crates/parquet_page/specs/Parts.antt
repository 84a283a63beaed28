-- What the parts of located pages stand for: the pages that are still to come.
use Rattle.std.specs.Prelude.{◌≡◌, ℕ, ◌+◌, Bool, true, false, ◌==◌, ◌&&◌, nat_le, List, [], ◌∷◌, length, take, get_or, map, slice_range, Option, Some, None, Result, Ok, Err}
use Rattle.std.specs.List.{list_all}
use Rattle.columns_core.specs.declared.error.Error.{Error}
use Rattle.parquet_base.specs.Intervals.{is_well_shaped}
use Rattle.parquet_meta.specs.declared.metadata.PrimitiveType.{PrimitiveType}
use Rattle.parquet_meta.specs.declared.page_header.PageKind.{PageKind}
use Rattle.parquet_meta.specs.declared.page_header.PageKind.TheVariants as kind
use Rattle.parquet_page.specs.Found.{IsInside, found_body, found_content}
use Rattle.parquet_page.specs.Lent.{Lent, behind_dictionary, lent_parts, located_lent, wanted_page}
use Rattle.parquet_page.specs.Located.{dictionary_in}
use Rattle.parquet_page.specs.Taking.{IsRefused}
use Rattle.parquet_page.specs.declared.found.FoundPage.{FoundPage}
use Rattle.parquet_page.specs.declared.page.FilteredPage.{FilteredPage}
use Rattle.parquet_page.specs.declared.parts.Parts.{Parts}
use Rattle.parquet_page.specs.declared.parts.Parts.TheVariants.{Chunk, Bodies}

abbrev pub no_entry : FilteredPage
no_entry = record { start = 0; length = 0; selected_rows = []; num_rows = 0 }

abbrev pub entry_at : List FilteredPage → ℕ → FilteredPage
entry_at entries k = get_or entries k no_entry

-- the part before the first page
abbrev pub part_before : Parts → List ℕ
part_before (Chunk bytes first) = take first bytes.items
part_before (Bodies before bodies) = before.items

-- the part of wanted page k
abbrev pub wanted_part : Parts → ℕ → FilteredPage → List ℕ
wanted_part (Chunk bytes first) k entry = slice_range bytes.items entry.start (entry.start + entry.length)
wanted_part (Bodies before bodies) k entry = get_or (map (λ body. body.items) bodies.items) k []

-- there is a part for each wanted page, and one before the first of them
abbrev pub hold : Parts → List FilteredPage → Bool
hold (Chunk bytes first) entries = list_all (λ entry. nat_le (entry.start + entry.length) (length bytes.items) && nat_le first (length bytes.items)) entries
hold (Bodies before bodies) entries = length bodies.items == length entries

abbrev pub are_shaped : List FilteredPage → Bool
are_shaped entries = list_all (λ entry. is_well_shaped entry.selected_rows entry.num_rows) entries

-- wanted pages from number k on, each with its part
abbrev pub parts_from : Parts → ℕ → List FilteredPage → List (FilteredPage × List ℕ)
parts_from parts k [] = []
parts_from parts k (entry ∷ entries) = (entry, wanted_part parts k entry) ∷ parts_from parts (k + 1) entries

abbrev pub lent_left : PrimitiveType → Parts → Bool → ℕ → List FilteredPage → Lent
lent_left type parts true k entries = located_lent type (dictionary_in (part_before parts)) (parts_from parts k entries)
lent_left type parts false k entries = lent_parts type (parts_from parts k entries)

abbrev pub bytes_for : Parts → List FilteredPage → ℕ → PageKind → List ℕ
bytes_for parts entries entry (kind.Data header) = wanted_part parts entry (entry_at entries entry)
bytes_for parts entries entry (kind.Dictionary values encoding) = part_before parts

abbrev pub IsFilled : FilteredPage → List ℕ → FoundPage → PageKind → Type 0
IsFilled entry part found (kind.Data header) = wanted_page entry part ≡ Some (record { size = length part; header = header; body = found_body part found })
IsFilled entry part found (kind.Dictionary values encoding) = ⊥

-- the page of an entry, which fills its part
pub record Fills (entry : FilteredPage) (part : List ℕ) (found : FoundPage) : Type 0 where
  pub is : IsFilled entry part found found.kind
  pub inside : IsInside part found

abbrev pub HasEntries : FoundPage → PageKind → Type 0
HasEntries found (kind.Data header) = ⊥
HasEntries found (kind.Dictionary values encoding) = Unit {0}

-- a dictionary page in front of other pages
pub record Begins (part : List ℕ) (found : FoundPage) (others : Lent) : Type 0 where
  pub is : HasEntries found found.kind
  pub inside : IsInside part found
  pub pages : (type : PrimitiveType) → (behind_dictionary (dictionary_in part) others).pages ≡ found_content type None part found ∷ others.pages
  pub causes : (behind_dictionary (dictionary_in part) others).causes ≡ others.causes

-- the dictionary page of a part, no page where the part is empty, or what is refused
abbrev pub FindsDictionary : List ℕ → Lent → Result (Option FoundPage) Error → Type 0
FindsDictionary part others (Ok None) = behind_dictionary (dictionary_in part) others ≡ others
FindsDictionary part others (Ok (Some found)) = Begins part found others
FindsDictionary part others (Err error) = IsRefused (behind_dictionary (dictionary_in part) others) error
