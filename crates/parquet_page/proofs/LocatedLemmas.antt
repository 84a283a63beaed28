-- Located pages one after another.
use Rattle.std.proofs.Common.{◌≡◌, ℕ, zero, suc, ◌+◌, ◌-◌, ◌<◌, ◌≤◌, Bool, true, false, cond, List, [], ◌∷◌, length, drop, Option, Some, None, refl, sym, ap, ◌∙◌, arith}
use Rattle.std.specs.Prelude.{◌==◌, ◌&&◌, sum_by}
use Rattle.std.specs.List.{list_all}
use Rattle.std.proofs.lemmas.Bool.{and_parts, eqb-true}
use Rattle.std.proofs.lemmas.List.{drop_more}
use Rattle.std.proofs.lemmas.List.Sums.{sum_by-cons}
use Rattle.columns_core.specs.declared.error.Part.{Part}
use Rattle.columns_core.specs.declared.error.Error.TheVariants as error
use Rattle.parquet_base.specs.Intervals.{is_well_shaped, row_count}
use Rattle.parquet_base.specs.Reading.{given}
use Rattle.parquet_meta.specs.declared.metadata.PrimitiveType.{PrimitiveType}
use Rattle.parquet_meta.specs.declared.page_header.PageKind.{PageKind}
use Rattle.parquet_meta.specs.declared.page_header.PageKind.TheVariants as kind
use Rattle.parquet_page.specs.Chunk.{ChunkPage, Dictionary, NoDictionary, Undefined, Defined, data_page_at}
use Rattle.parquet_page.specs.Content.{Content, content_rows, header_values, is_data, is_shaped}
use Rattle.parquet_page.specs.Found.{IsInside, found_body, kind_content}
use Rattle.parquet_page.specs.Lent.{Lent, behind_dictionary, lent_data_of, lent_dictionary_of, if_there, in_front, lent_parts, located_lent, selected_count, wanted_page}
use Rattle.parquet_page.specs.Located.{dictionary_in, page_in}
use Rattle.parquet_page.specs.Parts.{Begins, Fills, HasEntries, IsFilled, are_shaped, bytes_for, entry_at, lent_left, no_entry, wanted_part, part_before, parts_from}
use Rattle.parquet_page.specs.Spelling.{has_plain_entries}
use Rattle.parquet_page.specs.Taking.{IsOver, IsRefused, TakesPage}
use Rattle.parquet_page.specs.declared.found.FoundPage.{FoundPage}
use Rattle.parquet_page.specs.declared.page.FilteredPage.{FilteredPage}
use Rattle.parquet_page.specs.declared.parts.Parts.{Parts}
use Rattle.parquet_page.proofs.CursorLemmas.{is_damaged, not_carried}
use Rattle.parquet_encoding.proofs.StepLemmas.{bind_some, given_some}
use Rattle.parquet_page.proofs.ListLemmas.{drop_all}

-- ---- sums and shapes of entries

pub rows_step : (entries : List FilteredPage) (k : ℕ) → k < length entries → selected_count (drop k entries) ≡ row_count (entry_at entries k).selected_rows + selected_count (drop (k + 1) entries)
rows_step entries k h = ap selected_count (drop_more entries k no_entry h) ∙ sum_by-cons (λ entry. row_count entry.selected_rows) (entry_at entries k) (drop (k + 1) entries)

pub fewer_rows : (entries : List FilteredPage) (k : ℕ) → selected_count (drop k entries) ≤ selected_count entries
fewer_rows [] zero = omega arith
fewer_rows [] (suc k) = omega arith
fewer_rows (entry ∷ entries) zero = omega arith
fewer_rows (entry ∷ entries) (suc k) = omega (arith, fewer_rows entries k, sum_by-cons (λ e. row_count e.selected_rows) entry entries)

pub shaped_at : (entries : List FilteredPage) (k : ℕ) → k < length entries → are_shaped entries ≡ true → is_well_shaped (entry_at entries k).selected_rows (entry_at entries k).num_rows ≡ true
shaped_at [] k h e = absurd (omega arith)
shaped_at (entry ∷ entries) zero h e = (and_parts _ _ e).0
shaped_at (entry ∷ entries) (suc k) h e = shaped_at entries k (omega arith) (and_parts _ _ e).1

-- ---- what is left

-- while the dictionary is still to come
first_left : (type : PrimitiveType) (parts : Parts) (k : ℕ) (entries : List FilteredPage) → 0 < length entries → lent_left type parts true k entries ≡ behind_dictionary (dictionary_in (part_before parts)) (lent_left type parts false k entries)
unfolding located_lent
first_left type parts k [] h = absurd (omega arith)
first_left type parts k (entry ∷ entries) h = refl

some_left : (entries : List FilteredPage) (k : ℕ) → k < length entries → 0 < length (drop k entries)
some_left entries k h = rw (drop_more entries k no_entry h) (omega arith)

pub left_behind : (type : PrimitiveType) (parts : Parts) (is_first : Bool) (k : ℕ) (entries : List FilteredPage) → is_first ≡ true → k < length entries
    → lent_left type parts is_first k (drop k entries) ≡ behind_dictionary (dictionary_in (part_before parts)) (lent_left type parts false k (drop k entries))
left_behind type parts true k entries e h = first_left type parts k (drop k entries) (some_left entries k h)
left_behind type parts false k entries e h = absurd cc

-- the first of the pages that are left
next_left : (type : PrimitiveType) (parts : Parts) (k : ℕ) (entries : List FilteredPage) → k < length entries
    → lent_left type parts false k (drop k entries) ≡ if_there type (entry_at entries k) (wanted_page (entry_at entries k) (wanted_part parts k (entry_at entries k))) (lent_left type parts false (k + 1) (drop (k + 1) entries))
unfolding lent_parts
next_left type parts k entries h = ap (λ left. lent_parts type (parts_from parts k left)) (drop_more entries k no_entry h)

pub refused_page : (type : PrimitiveType) (parts : Parts) (k : ℕ) (entries : List FilteredPage) (part : Part) → k < length entries → wanted_page (entry_at entries k) (wanted_part parts k (entry_at entries k)) ≡ None
    → IsRefused (lent_left type parts false k (drop k entries)) (error.ExternalFormat part)
refused_page type parts k entries part h none =
    is_damaged _ part (next_left type parts k entries h ∙ ap (λ o. if_there type (entry_at entries k) o (lent_left type parts false (k + 1) (drop (k + 1) entries))) none)

pub all_lent : (type : PrimitiveType) (parts : Parts) (is_first : Bool) (k : ℕ) (entries : List FilteredPage) → k ≡ length entries → IsOver (lent_left type parts is_first k (drop k entries))
unfolding located_lent lent_parts
all_lent type parts is_first k entries e = go is_first (drop k entries) (drop_all k entries (omega (arith, e))) where
  go : (b : Bool) (left : List FilteredPage) → left ≡ [] → IsOver (lent_left type parts b k left)
  go true [] e = record { none = refl; ends = refl }
  go false [] e = record { none = refl; ends = refl }
  go b (entry ∷ left) e = absurd cc

pub data_alone : (type : PrimitiveType) (wanted : List (FilteredPage × List ℕ)) → list_all is_data (lent_parts type wanted).pages ≡ true
unfolding lent_parts
data_alone type [] = refl
data_alone type (first ∷ others) = go (wanted_page first.0 first.1) (data_alone type others) where
  go : (o : Option ChunkPage) → list_all is_data (lent_parts type others).pages ≡ true → list_all is_data (if_there type first.0 o (lent_parts type others)).pages ≡ true
  go None rest = refl
  go (Some page) rest = rest

-- ---- a data page

pub wanted_rows : (entry : FilteredPage) (part : List ℕ) (page : ChunkPage) → wanted_page entry part ≡ Some page → header_values page.header ≡ entry.num_rows
unfolding page_in
wanted_rows entry part page e =
    let own = bind_some (given (length part == entry.length) part) (λ own. page_in own entry.num_rows) page e in
    let read = bind_some (data_page_at entry.num_rows own.0) (λ read. given ((length read.1 == 0) && (header_values read.0.header == entry.num_rows)) read.0) page own.2 in
    let same = given_some _ _ page read.2 in
    ap (λ (p : ChunkPage). header_values p.header) (sym same.1) ∙ eqb-true _ _ (and_parts _ _ same.0).1

-- the page that fills a part, and what is lent of it
record HasPage (type : PrimitiveType) (parts : Parts) (entries : List FilteredPage) (k : ℕ) (found : FoundPage) (page_kind : PageKind) : Type 0 where
  page : ChunkPage
  there : wanted_page (entry_at entries k) (wanted_part parts k (entry_at entries k)) ≡ Some page
  same : kind_content type (Some (entry_at entries k).selected_rows) page_kind (found_body (bytes_for parts entries k page_kind) found) ≡ lent_data_of type (Some (entry_at entries k).selected_rows) page

has_page : (type : PrimitiveType) (parts : Parts) (entries : List FilteredPage) (k : ℕ) (found : FoundPage) (page_kind : PageKind) → IsFilled (entry_at entries k) (wanted_part parts k (entry_at entries k)) found page_kind
    → HasPage type parts entries k found page_kind
has_page type parts entries k found (kind.Data header) is =
    record { page = record { size = length (wanted_part parts k (entry_at entries k)); header = header; body = found_body (wanted_part parts k (entry_at entries k)) found }; there = is; same = refl }
has_page type parts entries k found (kind.Dictionary num_values encoding) is = absurd is

page_is_shaped : (type : PrimitiveType) (entry : FilteredPage) (page : ChunkPage) → header_values page.header ≡ entry.num_rows → is_well_shaped entry.selected_rows entry.num_rows ≡ true
    → is_shaped (lent_data_of type (Some entry.selected_rows) page) ≡ true
page_is_shaped type entry page rows shaped = ap (is_well_shaped entry.selected_rows) rows ∙ shaped

pub takes_page : (type : PrimitiveType) (parts : Parts) (entries : List FilteredPage) (k count : ℕ) (found : FoundPage) → k < length entries → are_shaped entries ≡ true → count ≡ selected_count entries
    → Fills (entry_at entries k) (wanted_part parts k (entry_at entries k)) found
    → TakesPage (kind_content type (Some (entry_at entries k).selected_rows) found.kind (found_body (bytes_for parts entries k found.kind) found)) (lent_left type parts false k (drop k entries)) (lent_left type parts false (k + 1) (drop (k + 1) entries))
    (count - selected_count (drop k entries)) (count - selected_count (drop (k + 1) entries))
takes_page type parts entries k count found h shaped total fills =
    let has = has_page type parts entries k found found.kind fills.is in
    let entry = entry_at entries k in
    let others = lent_left type parts false (k + 1) (drop (k + 1) entries) in
    let step = next_left type parts k entries h ∙ ap (λ o. if_there type entry o others) has.there in
    record {
      first = ap (λ (lent : Lent). lent.pages) step ∙ ap (λ (c : Content). c ∷ others.pages) (sym has.same);
      same = ap (λ (lent : Lent). lent.causes) step;
      data_alone = data_alone type (parts_from parts (k + 1) (drop (k + 1) entries));
      shaped = ap is_shaped has.same ∙ page_is_shaped type entry has.page (wanted_rows entry (wanted_part parts k entry) has.page has.there) (shaped_at entries k h shaped);
      more = omega (arith, rows_step entries k h, fewer_rows entries k, total, ap content_rows has.same);
    }

pub fills_inside : (parts : Parts) (entries : List FilteredPage) (k : ℕ) (found : FoundPage) → Fills (entry_at entries k) (wanted_part parts k (entry_at entries k)) found → IsInside (bytes_for parts entries k found.kind) found
fills_inside parts entries k found fills = go found.kind fills.is where
  go : (page_kind : PageKind) → IsFilled (entry_at entries k) (wanted_part parts k (entry_at entries k)) found page_kind → IsInside (bytes_for parts entries k page_kind) found
  go (kind.Data header) is = fills.inside
  go (kind.Dictionary num_values encoding) is = absurd is

-- ---- the dictionary page

-- what is lent of a dictionary page does not depend on an entry
same_dictionary : (type : PrimitiveType) (parts : Parts) (entries : List FilteredPage) (k : ℕ) (found : FoundPage) (page_kind : PageKind) → HasEntries found page_kind
    → (kind_content type None page_kind (found_body (part_before parts) found) ≡ kind_content type (Some (entry_at entries k).selected_rows) page_kind (found_body (bytes_for parts entries k page_kind) found))
    × (is_shaped (kind_content type None page_kind (found_body (part_before parts) found)) ≡ true) × (content_rows (kind_content type None page_kind (found_body (part_before parts) found)) ≡ 0)
same_dictionary type parts entries k found (kind.Data header) is = absurd is
same_dictionary type parts entries k found (kind.Dictionary num_values encoding) is = (refl, refl, refl)

pub takes_dictionary : (type : PrimitiveType) (parts : Parts) (entries : List FilteredPage) (k count : ℕ) (found : FoundPage) (old : Lent)
    → (old ≡ behind_dictionary (dictionary_in (part_before parts)) (lent_left type parts false k (drop k entries))) × Begins (part_before parts) found (lent_left type parts false k (drop k entries))
    → TakesPage (kind_content type (Some (entry_at entries k).selected_rows) found.kind (found_body (bytes_for parts entries k found.kind) found)) old (lent_left type parts false k (drop k entries))
    (count - selected_count (drop k entries)) (count - selected_count (drop k entries))
takes_dictionary type parts entries k count found old begins =
    let others = lent_left type parts false k (drop k entries) in
    let same = same_dictionary type parts entries k found found.kind begins.1.is in
    record {
      first = ap (λ (lent : Lent). lent.pages) begins.0 ∙ begins.1.pages type ∙ ap (λ (c : Content). c ∷ others.pages) same.0;
      same = ap (λ (lent : Lent). lent.causes) begins.0 ∙ begins.1.causes;
      data_alone = data_alone type (parts_from parts k (drop k entries));
      shaped = ap is_shaped (sym same.0) ∙ same.1;
      more = omega (arith, ap content_rows (sym same.0), same.2);
    }

pub begins_inside : (parts : Parts) (entries : List FilteredPage) (k : ℕ) (found : FoundPage) (others : Lent) → Begins (part_before parts) found others → IsInside (bytes_for parts entries k found.kind) found
begins_inside parts entries k found others begins = go found.kind begins.is where
  go : (page_kind : PageKind) → HasEntries found page_kind → IsInside (bytes_for parts entries k page_kind) found
  go (kind.Data header) is = absurd is
  go (kind.Dictionary num_values encoding) is = begins.inside

-- ---- the rows of all pages

sum_left : (type : PrimitiveType) (parts : Parts) (k : ℕ) (entries : List FilteredPage) → (lent_parts type (parts_from parts k entries)).causes ≡ [] → sum_by content_rows (lent_parts type (parts_from parts k entries)).pages ≡ selected_count entries
unfolding lent_parts
sum_left type parts k [] e = refl
sum_left type parts k (entry ∷ entries) e = go (wanted_page entry (wanted_part parts k entry)) (sum_left type parts (k + 1) entries) e where
  go : (o : Option ChunkPage) → ((lent_parts type (parts_from parts (k + 1) entries)).causes ≡ [] → sum_by content_rows (lent_parts type (parts_from parts (k + 1) entries)).pages ≡ selected_count entries)
      → (if_there type entry o (lent_parts type (parts_from parts (k + 1) entries))).causes ≡ []
      → sum_by content_rows (if_there type entry o (lent_parts type (parts_from parts (k + 1) entries))).pages ≡ selected_count (entry ∷ entries)
  go None rest e = absurd cc
  go (Some page) rest e =
      omega (arith, rest e, sum_by-cons content_rows (lent_data_of type (Some entry.selected_rows) page) (lent_parts type (parts_from parts (k + 1) entries)).pages, sum_by-cons (λ other. row_count other.selected_rows) entry entries)

sum_behind : (dictionary : Dictionary) (others : Lent) → (behind_dictionary dictionary others).causes ≡ [] → (others.causes ≡ []) × (sum_by content_rows (behind_dictionary dictionary others).pages ≡ sum_by content_rows others.pages)
sum_behind NoDictionary others e = (e, refl)
sum_behind Undefined others e = absurd cc
sum_behind (Defined page) others e = go (has_plain_entries page.encoding) e where
  go : (b : Bool) → (cond b (in_front (lent_dictionary_of page) others) not_carried).causes ≡ [] → (others.causes ≡ []) × (sum_by content_rows (cond b (in_front (lent_dictionary_of page) others) not_carried).pages ≡ sum_by content_rows others.pages)
  go true e = (e, omega (arith, sum_by-cons content_rows (lent_dictionary_of page) others.pages))
  go false e = absurd cc

pub rows_left : (type : PrimitiveType) (parts : Parts) (is_first : Bool) (k : ℕ) (entries : List FilteredPage) → (lent_left type parts is_first k entries).causes ≡ [] → sum_by content_rows (lent_left type parts is_first k entries).pages ≡ selected_count entries
unfolding located_lent
rows_left type parts false k entries e = sum_left type parts k entries e
rows_left type parts true k [] e = refl
rows_left type parts true k (entry ∷ entries) e =
    let behind = sum_behind (dictionary_in (part_before parts)) (lent_parts type (parts_from parts k (entry ∷ entries))) e in
    behind.1 ∙ sum_left type parts k (entry ∷ entries) behind.0
