-- Rows of pages, one page after the other.
use Rattle.std.proofs.Common.{◌≡◌, ℕ, zero, suc, ◌+◌, ◌-◌, ◌<◌, ◌≤◌, Bool, true, false, List, [], ◌∷◌, length, take, drop, Option, Some, None, refl, sym, ap, subst, add-one, ◌∙◌, arith}
use Rattle.std.specs.Prelude.{ℤ, pos, negsuc, nat_le, ◌==◌, ◌&&◌, is_some, option_and_then, option_map, slice_get}
use Rattle.std.specs.Option.{option_map_or, option_to_list}
use Rattle.std.proofs.Common.{get_or}
use Rattle.std.proofs.lemmas.Bool.{le-leb, leb-true, and_parts, and_from}
use Rattle.parquet_base.specs.Reading.{◌>>=◌, given}
use Rattle.parquet_base.specs.Intervals.{AreAdjacent, end, interval, is_well_shaped, is_well_shaped_from, rows_in_page, rows_of}
use Rattle.parquet_base.proofs.SegmentLemmas.{adjacent-le}
use Rattle.parquet_base.proofs.RowLemmas.{pages-share}
use Rattle.std.specs.List.{flat_map}
use Rattle.parquet_base.specs.declared.interval.Interval.{Interval}
use Rattle.parquet_meta.specs.Code.{not_negative}
use Rattle.parquet_meta.specs.declared.metadata.PageLocation.{PageLocation}
use Rattle.parquet_page.specs.Locations.{begin_in_time, begin_with_row_0, filtered_page, filtered_pages, next_row, page_intervals, rows_between, selected_pages}
use Rattle.parquet_page.specs.declared.page.FilteredPage.{FilteredPage}
use Rattle.parquet_encoding.proofs.StepLemmas.{bind_some, given_some}
use Rattle.parquet_page.proofs.HeaderLemmas.{from_place}
use Rattle.parquet_page.proofs.ListLemmas.{drop_all, one_and}

-- the rows of the first of these pages
abbrev pub first_rows : List PageLocation → ℕ → Option Interval
first_rows [] rows = None
first_rows (page ∷ pages) rows = rows_between page.first_row_index (next_row pages rows)

-- the page at a place, with those behind it
pub rows_at : (pages : List PageLocation) (i rows : ℕ) (d : PageLocation) → i < length pages → first_rows (drop i pages) rows ≡ rows_between (get_or pages i d).first_row_index (next_row (drop (suc i) pages) rows)
rows_at [] i rows d h = absurd (omega arith)
rows_at (page ∷ pages) zero rows d h = refl
rows_at (page ∷ pages) (suc i) rows d h = rows_at pages i rows d (omega arith)

pub rows_here : (pages : List PageLocation) (i rows : ℕ) (d : PageLocation) → i < length pages
    → rows_between (get_or pages i d).first_row_index (next_row (take (length pages - (i + 1)) (drop (i + 1) pages)) rows) ≡ first_rows (drop i pages) rows
rows_here pages i rows d h =
    ap (λ others. rows_between (get_or pages i d).first_row_index (next_row others rows)) (from_place (i + 1) pages ∙ ap (λ k. drop k pages) (add-one i)) ∙ sym (rows_at pages i rows d h)

-- the first of the pages from a place on, and the others
pub page_intervals-drop : (pages : List PageLocation) (i rows : ℕ) → i < length pages → page_intervals (drop i pages) rows ≡ one_and (first_rows (drop i pages) rows) (page_intervals (drop (suc i) pages) rows)
unfolding page_intervals
page_intervals-drop [] i rows h = absurd (omega arith)
page_intervals-drop (page ∷ pages) zero rows h = refl
page_intervals-drop (page ∷ pages) (suc i) rows h = page_intervals-drop pages i rows (omega arith)

pub no_pages : (pages : List PageLocation) (i rows : ℕ) → length pages ≤ i → page_intervals (drop i pages) rows ≡ Some []
unfolding page_intervals
no_pages pages i rows h = ap (λ left. page_intervals left rows) (drop_all i pages h)

-- what stands past the end of a list of locations
abbrev pub nowhere : PageLocation
nowhere = record { offset = pos 0; compressed_page_size = pos 0; first_row_index = pos 0 }

-- the entries of pages that have their rows
abbrev pub pages_found : List Interval → List PageLocation → ℕ → Option (List FilteredPage)
pages_found intervals locations rows = page_intervals locations rows >>= filtered_pages intervals locations

nothing_behind : {A : Type 0} (own : Option A) → one_and own None ≡ None
nothing_behind None = refl
nothing_behind (Some x) = refl

-- the entry of the first of the pages from a place on, and the others
pub pages_found-drop : (intervals : List Interval) (locations : List PageLocation) (i rows : ℕ) (d : PageLocation) → i < length locations
    → pages_found intervals (drop i locations) rows ≡ one_and (first_rows (drop i locations) rows >>= filtered_page intervals (get_or locations i d)) (pages_found intervals (drop (suc i) locations) rows)
unfolding page_intervals filtered_pages
pages_found-drop intervals [] i rows d h = absurd (omega arith)
pages_found-drop intervals (page ∷ pages) zero rows d h = go (rows_between page.first_row_index (next_row pages rows)) (page_intervals pages rows) where
  go : (own : Option Interval) (others : Option (List Interval)) → (one_and own others >>= filtered_pages intervals (page ∷ pages)) ≡ one_and (own >>= filtered_page intervals page) (others >>= filtered_pages intervals pages)
  go None others = refl
  go (Some rows) None = sym (nothing_behind (filtered_page intervals page rows))
  go (Some rows) (Some others) = refl
pages_found-drop intervals (page ∷ pages) (suc i) rows d h = pages_found-drop intervals pages i rows d (omega arith)

pub entry_lost : (intervals : List Interval) (location : PageLocation) (own : Option Interval) → own ≡ None → (own >>= filtered_page intervals location) ≡ None
entry_lost intervals location own e = ap (λ (rows : Option Interval). rows >>= filtered_page intervals location) e

pub entry_is : (intervals : List Interval) (location : PageLocation) (own : Option Interval) (rows : Interval) → own ≡ Some rows → (own >>= filtered_page intervals location) ≡ filtered_page intervals location rows
entry_is intervals location own rows e = ap (λ (rows : Option Interval). rows >>= filtered_page intervals location) e

pub no_entries : (intervals : List Interval) (locations : List PageLocation) (i rows : ℕ) → length locations ≤ i → pages_found intervals (drop i locations) rows ≡ Some []
unfolding page_intervals filtered_pages
no_entries intervals locations i rows h = ap (λ left. pages_found intervals left rows) (drop_all i locations h)

-- ---- pages lie one behind the other

-- the pages go from the first row of the first of them up to the number of rows
pub data Covers (rows : ℕ) : List PageLocation → List Interval → Type 0 where
  none : Covers rows [] []
  some : {page : PageLocation} {pages : List PageLocation} {runs : List Interval} (start : ℕ) → page.first_row_index ≡ pos start → AreAdjacent start runs rows → Covers rows (page ∷ pages) runs

rows_between-some : (first next : ℤ) (run : Interval) → rows_between first next ≡ Some run → (start : ℕ) × (stop : ℕ) × (first ≡ pos start) × (next ≡ pos stop) × (run.start ≡ start) × (end run ≡ stop)
rows_between-some (pos start) (pos stop) run e =
    let same = given_some (nat_le start stop) (interval start (stop - start)) run e in
    (start, stop, refl, refl, sym (ap (λ (r : Interval). r.start) same.1), sym (ap end same.1) ∙ omega (arith, leb-true start stop same.0))
rows_between-some (pos start) (negsuc stop) run e = absurd cc
rows_between-some (negsuc start) next run e = absurd cc

pos_is : (a b : ℕ) → pos a ≡ pos b → a ≡ b
pos_is a b e = cc

covers_more : (page : PageLocation) (pages : List PageLocation) (rows : ℕ) (own : Interval) (others : List Interval) → rows_between page.first_row_index (next_row pages rows) ≡ Some own → Covers rows pages others → Covers rows (page ∷ pages) (own ∷ others)
covers_more page [] rows own [] e none =
    let found = rows_between-some page.first_row_index (pos rows) own e in
    some found.0 found.2 (found.4, found.5 ∙ sym (pos_is rows found.1 found.3))
covers_more page [] rows own (other ∷ others) e covered = elim covered [ ]
covers_more page (next ∷ pages) rows own others e (some start first adjacent) =
    let found = rows_between-some page.first_row_index next.first_row_index own e in
    let stop = pos_is start found.1 (sym first ∙ found.3) in
    some found.0 found.2 (found.4, subst (λ (from : ℕ). AreAdjacent from others rows) (stop ∙ sym found.5) adjacent)

-- the pages of locations lie one behind the other, from the first row of the first up to the number of rows
pub pages-cover : (locations : List PageLocation) (rows : ℕ) (pages : List Interval) → page_intervals locations rows ≡ Some pages → Covers rows locations pages
unfolding page_intervals
pages-cover [] rows pages e = subst (λ (runs : List Interval). Covers rows [] runs) (some_is [] pages e) none where
  some_is : (xs ys : List Interval) → Some xs ≡ Some ys → xs ≡ ys
  some_is xs ys e = cc
pages-cover (location ∷ locations) rows pages e =
    let own = bind_some (rows_between location.first_row_index (next_row locations rows)) (λ own. page_intervals locations rows >>= λ others. Some (own ∷ others)) pages e in
    let others = bind_some (page_intervals locations rows) (λ others. Some (own.0 ∷ others)) pages own.2 in
    subst (λ (runs : List Interval). Covers rows (location ∷ locations) runs) (given_some true (own.0 ∷ others.0) pages others.2).1
    (covers_more location locations rows own.0 others.0 own.1 (pages-cover locations rows others.0 others.1))

pub pages-length : (locations : List PageLocation) (rows : ℕ) (pages : List Interval) → page_intervals locations rows ≡ Some pages → length pages ≡ length locations
unfolding page_intervals
pages-length [] rows pages e = ap length (sym (given_some true [] pages e).1)
pages-length (location ∷ locations) rows pages e =
    let own = bind_some (rows_between location.first_row_index (next_row locations rows)) (λ own. page_intervals locations rows >>= λ others. Some (own ∷ others)) pages e in
    let others = bind_some (page_intervals locations rows) (λ others. Some (own.0 ∷ others)) pages own.2 in
    let same = ap length (given_some true (own.0 ∷ others.0) pages others.2).1 in
    omega (arith, same, pages-length locations rows others.0 others.1)

-- ---- the selection

-- where the first of these pages begins
abbrev pub first_row : List PageLocation → Option ℕ
first_row locations = option_and_then (λ (page : PageLocation). not_negative page.first_row_index) (slice_get locations 0)

abbrev pub begins_in_time : List PageLocation → List Interval → Bool
begins_in_time locations intervals = begin_in_time (option_to_list (option_map (λ row. interval row 0) (first_row locations))) intervals

-- the first of the rows of all pages is that of the first page
begins_alike : (intervals : List Interval) (locations : List PageLocation) (rows : ℕ) (pages : List Interval) → page_intervals locations rows ≡ Some pages → begins_in_time locations intervals ≡ begin_in_time pages intervals
unfolding page_intervals
begins_alike intervals [] rows pages e = ap (λ (found : List Interval). begin_in_time found intervals) (given_some true [] pages e).1
begins_alike intervals (location ∷ locations) rows pages e =
    let own = bind_some (rows_between location.first_row_index (next_row locations rows)) (λ own. page_intervals locations rows >>= λ others. Some (own ∷ others)) pages e in
    let others = bind_some (page_intervals locations rows) (λ others. Some (own.0 ∷ others)) pages own.2 in
    let found = rows_between-some location.first_row_index (next_row locations rows) own.0 own.1 in
    ap (λ (first : ℤ). begin_in_time (option_to_list (option_map (λ row. interval row 0) (not_negative first))) intervals) found.2
    ∙ at_row found.0 own.0 others.0 intervals found.4
    ∙ ap (λ (found : List Interval). begin_in_time found intervals) (given_some true (own.0 ∷ others.0) pages others.2).1
  where
    at_row : (start : ℕ) (own : Interval) (others intervals : List Interval) → own.start ≡ start → begin_in_time (interval start 0 ∷ []) intervals ≡ begin_in_time (own ∷ others) intervals
    at_row start own others [] e = refl
    at_row start own others (run ∷ runs) e = ap (λ row. nat_le row run.start) (sym e)

pub begins_late : (intervals : List Interval) (locations : List PageLocation) (rows : ℕ) → begins_in_time locations intervals ≡ false → selected_pages intervals locations rows ≡ None
unfolding selected_pages
begins_late intervals locations rows far = go (page_intervals locations rows) refl where
  go : (found : Option (List Interval)) → page_intervals locations rows ≡ found → selected_pages intervals locations rows ≡ None
  go None e = rw e refl
  go (Some pages) e = rw (e, sym (begins_alike intervals locations rows pages e) ∙ far) refl

pub selects : (intervals : List Interval) (locations : List PageLocation) (rows : ℕ) → begins_in_time locations intervals ≡ true → selected_pages intervals locations rows ≡ pages_found intervals locations rows
unfolding selected_pages
selects intervals locations rows near = go (page_intervals locations rows) refl where
  go : (found : Option (List Interval)) → page_intervals locations rows ≡ found → selected_pages intervals locations rows ≡ pages_found intervals locations rows
  go None e = rw e refl
  go (Some pages) e = rw (e, sym (begins_alike intervals locations rows pages e) ∙ near) refl

-- ---- each row once

pub pages_adjacent : (page : PageLocation) (locations : List PageLocation) (rows first : ℕ) (pages : List Interval) → page_intervals (page ∷ locations) rows ≡ Some pages → page.first_row_index ≡ pos first → AreAdjacent first pages rows
pages_adjacent page locations rows first pages e row = go pages (pages-cover (page ∷ locations) rows pages e) where
  go : (pages : List Interval) → Covers rows (page ∷ locations) pages → AreAdjacent first pages rows
  go pages (some start same adjacent) = subst (λ (from : ℕ). AreAdjacent from pages rows) (pos_is start first (sym same ∙ row)) adjacent

-- where the first page begins in time, the intervals begin at or behind its first row
from_page : (first : ℕ) (pages intervals : List Interval) (rows : ℕ) → AreAdjacent first pages rows → begin_in_time pages intervals ≡ true → is_well_shaped intervals rows ≡ true → is_well_shaped_from first intervals rows ≡ true
from_page first pages [] rows adjacent near shaped = le-leb first rows (adjacent-le first pages rows adjacent)
from_page first [] (run ∷ runs) rows adjacent near shaped = absurd cc
from_page first (page ∷ pages) (run ∷ runs) rows adjacent near shaped =
    let below : nat_le first run.start ≡ true = le-leb first run.start (omega (arith, adjacent.0, leb-true page.start run.start near)) in
    and_from _ _ (and_from _ _ below (and_parts _ _ (and_parts _ _ shaped).0).1) (and_parts _ _ shaped).1

pub pages_select : (locations : List PageLocation) (pages intervals : List Interval) (rows : ℕ) → page_intervals locations rows ≡ Some pages → begin_in_time pages intervals ≡ true → is_well_shaped intervals rows ≡ true
    → flat_map (λ page. rows_in_page page intervals) pages ≡ rows_of intervals
pages_select locations pages intervals rows e near shaped = go locations pages (pages-cover locations rows pages e) intervals near shaped where
  go : (locations : List PageLocation) (pages : List Interval) → Covers rows locations pages → (intervals : List Interval) → begin_in_time pages intervals ≡ true → is_well_shaped intervals rows ≡ true
      → flat_map (λ page. rows_in_page page intervals) pages ≡ rows_of intervals
  go [] [] none [] near shaped = refl
  go [] [] none (run ∷ runs) near shaped = absurd cc
  go [] (page ∷ pages) covered intervals near shaped = elim covered [ ]
  go (location ∷ locations) pages (some start same adjacent) intervals near shaped = pages-share start pages intervals rows adjacent (from_page start pages intervals rows adjacent near shaped)

-- ---- the shape of locations

none_left : (b : Bool) → (b && false) ≡ false
none_left true = refl
none_left false = refl

all_left : (b : Bool) → (b && true) ≡ b
all_left true = refl
all_left false = refl

-- The first page has row 0, and all have their rows.
pub in_order : (locations : List PageLocation) (rows : ℕ) → (option_map_or (λ row. row == 0) (first_row locations) false && is_some (page_intervals locations rows)) ≡ begin_with_row_0 (page_intervals locations rows)
unfolding page_intervals
in_order [] rows = refl
in_order (page ∷ pages) rows = go page.first_row_index (next_row pages rows) (page_intervals pages rows) where
  go : (first next : ℤ) (others : Option (List Interval))
      → (option_map_or (λ row. row == 0) (not_negative first) false && is_some (one_and (rows_between first next) others)) ≡ begin_with_row_0 (one_and (rows_between first next) others)
  go (pos start) (pos stop) others = tested (nat_le start stop) others where
    tested : (b : Bool) (others : Option (List Interval))
        → ((start == 0) && is_some (one_and (given b (interval start (stop - start))) others)) ≡ begin_with_row_0 (one_and (given b (interval start (stop - start))) others)
    tested false others = none_left (start == 0)
    tested true None = none_left (start == 0)
    tested true (Some others) = all_left (start == 0)
  go (pos start) (negsuc stop) others = none_left (start == 0)
  go (negsuc start) next others = refl

-- a page has its rows, or some have none
pub rows_left : (locations : List PageLocation) (i rows : ℕ) → i < length locations → is_some (first_rows (drop i locations) rows) ≡ true
    → is_some (page_intervals (drop (suc i) locations) rows) ≡ is_some (page_intervals (drop i locations) rows)
rows_left locations i rows h e = sym (ap is_some (page_intervals-drop locations i rows h) ∙ there (first_rows (drop i locations) rows) (page_intervals (drop (suc i) locations) rows) e) where
  there : (own : Option Interval) (others : Option (List Interval)) → is_some own ≡ true → is_some (one_and own others) ≡ is_some others
  there None others e = absurd cc
  there (Some rows) None e = refl
  there (Some rows) (Some others) e = refl

pub rows_lost : (locations : List PageLocation) (i rows : ℕ) → i < length locations → is_some (first_rows (drop i locations) rows) ≡ false → is_some (page_intervals (drop i locations) rows) ≡ false
rows_lost locations i rows h e = ap is_some (page_intervals-drop locations i rows h) ∙ lost (first_rows (drop i locations) rows) (page_intervals (drop (suc i) locations) rows) e where
  lost : (own : Option Interval) (others : Option (List Interval)) → is_some own ≡ false → is_some (one_and own others) ≡ false
  lost None others e = refl
  lost (Some rows) others e = absurd cc
