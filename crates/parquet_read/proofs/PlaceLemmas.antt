-- Located pages: those within a limit, and where they lie.
use Rattle.std.proofs.Common.{◌≡◌, ◌∙◌, ℕ, ◌+◌, ◌-◌, ◌≤◌, Bool, true, false, cond, List, [], ◌∷◌, map, refl, ap, arith, Option, Some, None}
use Rattle.std.specs.Prelude.{◌&&◌, ◌==◌, nat_le, filter, sum_by, if◌then◌else◌, option_map}
use Rattle.std.specs.List.{list_all}
use Rattle.std.specs.Option.{option_map_or}
use Rattle.std.proofs.lemmas.Bool.{and_parts, and_from, le-leb, leb-true}
use Rattle.std.proofs.lemmas.List.Folds.{list_all-map}
use Rattle.std.proofs.lemmas.List.Sums.{sum_by-cons}
use Rattle.columns_core.specs.declared.data_type.Field.{Field}
use Rattle.parquet_base.specs.Intervals.{is_well_shaped, row_count}
use Rattle.parquet_page.specs.Lent.{are_well_shaped, first_start, is_wanted, lie_within, selected_count}
use Rattle.parquet_page.specs.declared.page.FilteredPage.{FilteredPage}
use Rattle.parquet_read.specs.Asked.{AskedField, PageLists, are_shaped_pages, asked_fields, is_shaped_field, page_length, pages_up_to, pages_within}
use Rattle.parquet_read.specs.Opening.{AreShaped, counted_from, lone}

-- ---- pages within a limit

abbrev is_page_shaped : FilteredPage → Bool
is_page_shaped entry = is_well_shaped entry.selected_rows entry.num_rows

abbrev cut_if : Bool → FilteredPage → FilteredPage
cut_if b entry = if b then record entry { selected_rows = [] } else entry

cut_shaped : (b : Bool) (entry : FilteredPage) → is_page_shaped entry ≡ true → is_page_shaped (cut_if b entry) ≡ true
cut_shaped true entry e = le-leb 0 entry.num_rows (omega arith)
cut_shaped false entry e = e

cut_fewer : (b : Bool) (entry : FilteredPage) → row_count (cut_if b entry).selected_rows ≤ row_count entry.selected_rows
cut_fewer true entry = omega arith
cut_fewer false entry = omega arith

shapes_up_to : (rows : ℕ) (entries : List FilteredPage) → list_all is_page_shaped entries ≡ true → list_all is_page_shaped (pages_up_to rows entries) ≡ true
shapes_up_to rows [] e = refl
shapes_up_to rows (entry ∷ entries) e =
    let own = and_parts (is_page_shaped entry) (list_all is_page_shaped entries) e in
    and_from _ _ (cut_shaped (rows == 0) entry own.0) (shapes_up_to (rows - row_count entry.selected_rows) entries own.1)

abbrev rows_in : FilteredPage → ℕ
rows_in entry = row_count entry.selected_rows

count_up_to : (rows : ℕ) (entries : List FilteredPage) → selected_count (pages_up_to rows entries) ≤ selected_count entries
count_up_to rows [] = omega arith
count_up_to rows (entry ∷ entries) =
    let left = rows - row_count entry.selected_rows in
    let own = cut_if (rows == 0) entry in
    omega (arith, count_up_to left entries, cut_fewer (rows == 0) entry, sum_by-cons rows_in entry entries, sum_by-cons rows_in own (pages_up_to left entries))

pub shaped_within : (limit : Option ℕ) (entries : List FilteredPage) → are_well_shaped entries ≡ true → are_well_shaped (pages_within limit entries) ≡ true
shaped_within None entries e = e
shaped_within (Some limit) entries e =
    let own = and_parts _ _ e in
    and_from _ _ (shapes_up_to limit entries own.0) (le-leb _ _ (omega (arith, leb-true _ _ own.1, count_up_to limit entries)))

own_shaped : (limit : Option ℕ) (own : List (List FilteredPage)) → list_all are_well_shaped own ≡ true → option_map_or are_well_shaped (option_map (pages_within limit) (lone own)) true ≡ true
own_shaped limit [] e = refl
own_shaped limit (entries ∷ []) e = shaped_within limit entries (and_parts _ _ e).0
own_shaped limit (first ∷ second ∷ others) e = refl

whole_shaped : (fields : List Field) → list_all is_shaped_field (map (λ (field : Field). let own : AskedField = (field, None) in own) fields) ≡ true
whole_shaped [] = refl
whole_shaped (field ∷ fields) = whole_shaped fields

lists_shaped : (limit : Option ℕ) (fields : List Field) (lists : PageLists) → list_all (list_all are_well_shaped) lists ≡ true → list_all is_shaped_field (asked_fields limit fields (Some lists)) ≡ true
lists_shaped limit [] lists e = refl
lists_shaped limit (field ∷ fields) [] e = refl
lists_shaped limit (field ∷ fields) (own ∷ lists) e =
    let both = and_parts _ _ e in
    and_from _ _ (own_shaped limit own both.0) (lists_shaped limit fields lists both.1)

pub asked_shaped : (limit : Option ℕ) (fields : List Field) (lists : Option PageLists) → are_shaped_pages lists ≡ true → list_all is_shaped_field (asked_fields limit fields lists) ≡ true
asked_shaped limit fields None e = whole_shaped fields
asked_shaped limit fields (Some lists) e = lists_shaped limit fields lists e

-- ---- places from a start on

wanted_if : (start : ℕ) (b : Bool) (entry : FilteredPage) (others : List FilteredPage) (placed : List FilteredPage) → placed ≡ map (counted_from start) others
    → cond b (counted_from start entry ∷ placed) placed ≡ map (counted_from start) (cond b (entry ∷ others) others)
wanted_if start true entry others placed e = ap (λ (l : List FilteredPage). counted_from start entry ∷ l) e
wanted_if start false entry others placed e = e

pub wanted_placed : (start : ℕ) (entries : List FilteredPage) → filter is_wanted (map (counted_from start) entries) ≡ map (counted_from start) (filter is_wanted entries)
wanted_placed start [] = refl
wanted_placed start (entry ∷ entries) = wanted_if start (is_wanted entry) entry (filter is_wanted entries) _ (wanted_placed start entries)

pub lie_placed : (start size : ℕ) (entries : List FilteredPage) → lie_within size (map (counted_from start) entries)
    ≡ list_all (λ (entry : FilteredPage). nat_le (entry.start - start + entry.length) size && nat_le (first_start (map (counted_from start) entries)) size) (filter is_wanted entries)
lie_placed start size entries =
    let test = λ (entry : FilteredPage). nat_le (entry.start + entry.length) size && nat_le (first_start (map (counted_from start) entries)) size in
    ap (list_all test) (wanted_placed start entries) ∙ list_all-map test (counted_from start) (filter is_wanted entries)

pub lengths_placed : (start : ℕ) (entries : List FilteredPage) → sum_by page_length (map (counted_from start) entries) ≡ sum_by page_length entries
lengths_placed start [] = refl
lengths_placed start (entry ∷ entries) =
    omega (arith, lengths_placed start entries, sum_by-cons page_length entry entries, sum_by-cons page_length (counted_from start entry) (map (counted_from start) entries))

-- a wanted page, and those behind it
pub wanted_next : (entry : FilteredPage) (entries others : List FilteredPage) → entries ≡ entry ∷ others → is_wanted entry ≡ true → filter is_wanted entries ≡ entry ∷ filter is_wanted others
wanted_next entry entries others is wanted =
    ap (filter is_wanted) is ∙ ap (λ (b : Bool). cond b (entry ∷ filter is_wanted others) (filter is_wanted others)) wanted

pub shaped_pages : (entries : Option (List FilteredPage)) → option_map_or are_well_shaped entries true ≡ true → AreShaped entries
shaped_pages None e = tt
shaped_pages (Some own) e = e
