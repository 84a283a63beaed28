-- Pages that are read by their locations, and the items of the rows in them.
use Rattle.std.proofs.Common.{◌≡◌, ℕ, zero, suc, ◌+◌, ◌-◌, ◌<◌, ◌≤◌, min, max, Bool, true, false, not, cond, List, [], ◌∷◌, ◌++◌, length, map, take, drop, Option, Some, None, refl, sym, subst, ◌∙◌, ap, arith, inl, inr, append-nil, length-append, ap₂}
use Rattle.std.specs.Prelude.{filter, find, flat_map, slice_get, slice_range, zip, nat_lt, nat_le, ◌==◌, ◌&&◌, ◌||◌, ◌⊎◌, is_some, option_and_then, if◌then◌else◌}
use Rattle.std.specs.List.{AllByRecursion, list_all, list_any, range_with_len, cons_option}
use Rattle.std.proofs.lemmas.Bool.{le-leb, lt-leb, lt-ltb, le-ltb, leb-true, leb-false, cases_lt, eq-eqb, eqb-true, and_parts, true≢false}
use Rattle.std.proofs.lemmas.Grind.{flat_map-append}
use Rattle.std.proofs.lemmas.List.{length-map, length-take-le, length-drop, map-append}
use Rattle.std.proofs.lemmas.List.Folds.{list_any-append}
use Rattle.std.proofs.lemmas.Simd.{map-map}
use Rattle.columns_core.specs.Causes.{Cause, ExternalFormat, IsOneOf, is_empty}
use Rattle.columns_core.specs.declared.cell.Cell.{Cell}
use Rattle.parquet_base.specs.Reading.{◌>>=◌, given}
use Rattle.parquet_base.specs.Intervals.{AreAdjacent, covers, end, holds, is_well_shaped, is_well_shaped_from, overlaps, rows_in_page, rows_of}
use Rattle.parquet_base.specs.declared.interval.Interval.{Interval}
use Rattle.parquet_base.proofs.OverlapLemmas.{overlaps-shaped}
use Rattle.parquet_base.proofs.RowLemmas.{rows_of-passing}
use Rattle.parquet_base.proofs.SegmentLemmas.{holds_after, holds_before, holds_inside}
use Rattle.parquet_base.proofs.ShapeLemmas.{shape-cons, shape-le}
use Rattle.parquet_meta.specs.Places.{place_end, bytes_at, lies_in, part_at}
use Rattle.parquet_meta.specs.declared.metadata.PageLocation.{PageLocation}
use Rattle.parquet_meta.specs.declared.metadata.Place.{Place}
use Rattle.parquet_meta.proofs.SliceLemmas.{slice_at}
use Rattle.parquet_page.specs.Chunk.{ChunkPage}
use Rattle.parquet_page.specs.Content.{Content, header_values}
use Rattle.parquet_page.specs.Lent.{Lent, behind_dictionary, lent_data_of, if_there, is_wanted, lent_parts, located_lent, wanted_page}
use Rattle.parquet_page.specs.Located.{page_in}
use Rattle.parquet_page.specs.Located.{located_page as page_in_chunk}
use Rattle.parquet_page.specs.Locations.{filtered_page, filtered_pages, located, part_of}
use Rattle.parquet_page.specs.Selected.{covered_from, selected_of}
use Rattle.parquet_page.specs.declared.page.FilteredPage.{FilteredPage}
use Rattle.parquet_encoding.proofs.StepLemmas.{bind_some, given_some}
use Rattle.page_decoding.specs.Column.{entries_behind, followed_by, page_rows, rows}
use Rattle.page_decoding.specs.Outcome.{Outcome, Given, Refused, causes_in}
use Rattle.flat_values.specs.Agreement.{AreEntriesOf}
use Rattle.flat_values.specs.Conversion.{Conversion, Item, Value}
use Rattle.flat_values.specs.Outcomes.{outcome_of}
use Rattle.flat_values.specs.Pairs.{conversion}
use Rattle.parquet_scan.specs.Causes.{causes_of_data, causes_of_dictionary, causes_of_found, causes_of_opened, has_dictionary, is_opened, opened_located}
use Rattle.parquet_scan.specs.Cells.{Reading, dictionary_content, item_at, item_located, items_in, named_page}
use Rattle.parquet_scan.specs.Costs.{with_dictionary_page}
use Rattle.flat_binary.specs.PagesWanted.{pages_wanted}
use Rattle.parquet_scan.specs.Decoded.{column_entries, column_outcomes, pages_by, rows_by}
use Rattle.parquet_scan.specs.Located.{entry_part, entry_place, part_in}
use Rattle.parquet_scan.proofs.CellLemmas.{causes_behind, causes_if_there, items_there, map_rows}
use Rattle.parquet_scan.proofs.PageLemmas.{HasWrongItem, IsOver, IsRefused, content_with, dictionary_first, first_given, first_wrong, items_many, page_given, page_refused, some_cause}
use Rattle.parquet_scan.proofs.PieceLemmas.{AreUnder, under-items, under-refused}
use Rattle.page_decoding.proofs.RowLemmas.{one_of-left, one_of-right}
use Rattle.parquet_page.proofs.LocatedLemmas.{wanted_rows}

-- ---- a part of a chunk

pub chunk_length : (bytes : List ℕ) (chunk : Place) → place_end chunk ≤ length bytes → length (bytes_at bytes chunk) ≡ chunk.length
chunk_length bytes chunk fits = length-take-le chunk.length (drop chunk.offset bytes) (omega (arith, fits, length-drop chunk.offset bytes))

-- the page that fills a part of a chunk
abbrev pub page_there : List ℕ → Place → Place → ℕ → Option ChunkPage
page_there bytes chunk part rows = part_in bytes chunk part >>= λ body. page_in body rows

abbrev page_behind : List ℕ → Place → Place → ℕ → Option ChunkPage
page_behind bytes chunk part rows = page_in_chunk (bytes_at bytes chunk) (part.offset - chunk.offset) part.length rows

before_chunk : (bytes : List ℕ) (chunk part : Place) (rows : ℕ) → nat_le chunk.offset part.offset ≡ false
    → (given (nat_le chunk.offset part.offset) part >>= λ own. page_behind bytes chunk own rows) ≡ page_there bytes chunk part rows
before_chunk bytes chunk part rows e =
    ap (λ b. given b part >>= λ own. page_behind bytes chunk own rows) e
    ∙ sym (ap (λ b. (if b && nat_le (place_end part) (place_end chunk) then part_at bytes part else None) >>= λ body. page_in body rows) e)

inside_chunk : (bytes : List ℕ) (chunk part : Place) (rows : ℕ) → place_end chunk ≤ length bytes → chunk.offset ≤ part.offset → place_end part ≤ place_end chunk
    → page_behind bytes chunk part rows ≡ page_in (bytes_at bytes part) rows
unfolding page_in_chunk
inside_chunk bytes chunk part rows fits low high =
    let k = part.offset - chunk.offset in
    let there : nat_le (k + part.length) (length (bytes_at bytes chunk)) ≡ true = le-leb _ _ (omega (arith, chunk_length bytes chunk fits, low, high)) in
    let at : chunk.offset + k ≡ part.offset = omega (arith, low) in
    ap (λ b. given b (slice_range (bytes_at bytes chunk) k (k + part.length)) >>= λ own. page_in own rows) there
    ∙ ap (λ body. page_in body rows) (slice_at bytes chunk.offset chunk.length k part.length (omega (arith, low, high)) ∙ ap (λ n. take part.length (drop n bytes)) at)

behind_chunk : (bytes : List ℕ) (chunk part : Place) (rows : ℕ) → place_end chunk ≤ length bytes → chunk.offset ≤ part.offset → place_end chunk < place_end part
    → page_behind bytes chunk part rows ≡ None
unfolding page_in_chunk
behind_chunk bytes chunk part rows fits low high =
    let k = part.offset - chunk.offset in
    let past : nat_le (k + part.length) (length (bytes_at bytes chunk)) ≡ false = lt-leb _ _ (omega (arith, chunk_length bytes chunk fits, low, high)) in
    ap (λ b. given b (slice_range (bytes_at bytes chunk) k (k + part.length)) >>= λ own. page_in own rows) past

pub part_inside : (bytes : List ℕ) (chunk part : Place) → place_end chunk ≤ length bytes → nat_le chunk.offset part.offset ≡ true → nat_le (place_end part) (place_end chunk) ≡ true → part_in bytes chunk part ≡ Some (bytes_at bytes part)
part_inside bytes chunk part fits low high =
    let whole : nat_le (place_end part) (length bytes) ≡ true = le-leb _ _ (omega (arith, fits, leb-true (place_end part) (place_end chunk) high)) in
    (λ i. if low i && high i then part_at bytes part else None) ∙ ap (λ b. if b then Some (bytes_at bytes part) else None) whole

pub part_outside : (bytes : List ℕ) (chunk part : Place) → nat_le chunk.offset part.offset ≡ true → nat_le (place_end part) (place_end chunk) ≡ false → part_in bytes chunk part ≡ None
part_outside bytes chunk part low high = λ i. if low i && high i then part_at bytes part else None

located_part : (bytes : List ℕ) (chunk part : Place) (rows : ℕ) → place_end chunk ≤ length bytes
    → (given (nat_le chunk.offset part.offset) part >>= λ own. page_behind bytes chunk own rows) ≡ page_there bytes chunk part rows
located_part bytes chunk part rows fits = by (nat_le chunk.offset part.offset) (nat_le (place_end part) (place_end chunk)) refl refl where
  by : (b c : Bool) → nat_le chunk.offset part.offset ≡ b → nat_le (place_end part) (place_end chunk) ≡ c
      → (given (nat_le chunk.offset part.offset) part >>= λ own. page_behind bytes chunk own rows) ≡ page_there bytes chunk part rows
  by false c low high = before_chunk bytes chunk part rows low
  by true true low high =
      ap (λ b. given b part >>= λ own. page_behind bytes chunk own rows) low
      ∙ inside_chunk bytes chunk part rows fits (leb-true _ _ low) (leb-true _ _ high)
      ∙ sym (ap (λ o. o >>= λ body. page_in body rows) (part_inside bytes chunk part fits low high))
  by true false low high =
      ap (λ b. given b part >>= λ own. page_behind bytes chunk own rows) low
      ∙ behind_chunk bytes chunk part rows fits (leb-true _ _ low) (leb-false _ _ high)
      ∙ sym (ap (λ o. o >>= λ body. page_in body rows) (part_outside bytes chunk part low high))

pub located_by : (bytes : List ℕ) (chunk : Place) (location : PageLocation) (rows : ℕ) → place_end chunk ≤ length bytes
    → located chunk.offset (bytes_at bytes chunk) location rows ≡ (part_of location >>= λ part. page_there bytes chunk part rows)
unfolding located
located_by bytes chunk location rows fits = by (part_of location) where
  by : (o : Option Place) → (o >>= λ part. given (nat_le chunk.offset part.offset) part >>= λ own. page_behind bytes chunk own rows) ≡ (o >>= λ part. page_there bytes chunk part rows)
  by None = refl
  by (Some part) = located_part bytes chunk part rows fits

-- ---- the entries of locations

-- an entry is what is selected of the page that a location names
pub record IsEntry (intervals : List Interval) (location : PageLocation) (rows : Interval) (entry : FilteredPage) : Type 0 where
  pub selected : entry.selected_rows ≡ overlaps rows intervals
  pub count : entry.num_rows ≡ rows.length
  pub part : part_of location ≡ Some (entry_place entry)

abbrev pub AreEntries : List Interval → List PageLocation → List Interval → List FilteredPage → Type 0
AreEntries intervals [] [] [] = Unit {0}
AreEntries intervals (location ∷ locations) (rows ∷ others) (entry ∷ entries) = IsEntry intervals location rows entry × AreEntries intervals locations others entries
AreEntries intervals _ _ _ = ⊥

is_entry : (intervals : List Interval) (location : PageLocation) (rows : Interval) (entry : FilteredPage) → filtered_page intervals location rows ≡ Some entry → IsEntry intervals location rows entry
is_entry intervals location rows entry e =
    let part = bind_some (part_of location) (λ part. Some (record { start = part.offset; length = part.length; selected_rows = overlaps rows intervals; num_rows = rows.length })) entry e in
    let same = (given_some true (record { start = part.0.offset; length = part.0.length; selected_rows = overlaps rows intervals; num_rows = rows.length }) entry part.2).1 in
    record {
      selected = sym (ap (λ (found : FilteredPage). found.selected_rows) same);
      count = sym (ap (λ (found : FilteredPage). found.num_rows) same);
      part = part.1 ∙ ap (λ found. Some (entry_place found)) same;
    }

pub are_entries : (intervals : List Interval) (locations : List PageLocation) (rows : List Interval) (entries : List FilteredPage) → length rows ≡ length locations → filtered_pages intervals locations rows ≡ Some entries
    → AreEntries intervals locations rows entries
unfolding filtered_pages
are_entries intervals [] [] entries same e = subst (λ entries. AreEntries intervals [] [] entries) (given_some true [] entries e).1 tt
are_entries intervals [] (rows ∷ others) entries same e = absurd (omega (arith, same))
are_entries intervals (location ∷ locations) [] entries same e = absurd (omega (arith, same))
are_entries intervals (location ∷ locations) (rows ∷ others) entries same e =
    let own = bind_some (filtered_page intervals location rows) (λ page. filtered_pages intervals locations others >>= λ pages. Some (page ∷ pages)) entries e in
    let rest = bind_some (filtered_pages intervals locations others) (λ pages. Some (own.0 ∷ pages)) entries own.2 in
    subst (λ entries. AreEntries intervals (location ∷ locations) (rows ∷ others) entries) (given_some true (own.0 ∷ rest.0) entries rest.2).1
    (is_entry intervals location rows own.0 own.1, are_entries intervals locations others rest.0 (omega (arith, same)) rest.1)

-- the page of an entry, where it stands in its part
abbrev pub found : List ℕ → Place → FilteredPage → Option ChunkPage
found bytes chunk entry = page_there bytes chunk (entry_place entry) entry.num_rows

pub named_are : (bytes : List ℕ) (chunk : Place) (intervals : List Interval) (locations : List PageLocation) (rows : List Interval) (entries : List FilteredPage) → place_end chunk ≤ length bytes
    → AreEntries intervals locations rows entries → map (named_page chunk (bytes_at bytes chunk)) (zip rows locations) ≡ zip rows (map (found bytes chunk) entries)
named_are bytes chunk intervals [] [] [] fits are = refl
named_are bytes chunk intervals [] [] (entry ∷ entries) fits are = absurd are
named_are bytes chunk intervals [] (rows ∷ others) [] fits are = absurd are
named_are bytes chunk intervals [] (rows ∷ others) (entry ∷ entries) fits are = absurd are
named_are bytes chunk intervals (location ∷ locations) [] [] fits are = absurd are
named_are bytes chunk intervals (location ∷ locations) [] (entry ∷ entries) fits are = absurd are
named_are bytes chunk intervals (location ∷ locations) (rows ∷ others) [] fits are = absurd are
named_are bytes chunk intervals (location ∷ locations) (rows ∷ others) (entry ∷ entries) fits are =
    let own : located chunk.offset (bytes_at bytes chunk) location rows.length ≡ found bytes chunk entry
    = located_by bytes chunk location rows.length fits ∙ ap (λ o. o >>= λ part. page_there bytes chunk part rows.length) are.0.part ∙ ap (page_there bytes chunk (entry_place entry)) (sym are.0.count) in
    λ i. (rows, own i) ∷ named_are bytes chunk intervals locations others entries fits are.1 i

-- ---- pages that hold a row of intervals

-- some row of a page is one of so many behind another
pub any_row : (page : Interval) (a n : ℕ) → list_any (holds page) (range_with_len a n) ≡ nat_lt (max page.start a) (min (end page) (a + n))
any_row page a zero = sym (le-ltb (max page.start a) (min (end page) (a + zero)) (omega arith))
any_row page a (suc n) = elim (cases_lt a page.start) [
  | inl low ↦ ap (λ b. b || list_any (holds page) (range_with_len (a + 1) n)) (holds_before page a low) ∙ any_row page (a + 1) n ∙ (let first : max page.start (a + 1) ≡ max page.start a = omega (arith, low) in let last : min (end page) (a + 1 + n) ≡ min (end page) (a + suc n) = omega arith in λ i. nat_lt (first i) (last i))
  | inr high ↦ elim (cases_lt a (end page)) [
    | inl inside ↦ ap (λ b. b || list_any (holds page) (range_with_len (a + 1) n)) (holds_inside page a high inside) ∙ sym (lt-ltb (max page.start a) (min (end page) (a + suc n)) (omega (arith, high, inside)))
    | inr past ↦ ap (λ b. b || list_any (holds page) (range_with_len (a + 1) n)) (holds_after page a past) ∙ any_row page (a + 1) n
        ∙ le-ltb (max page.start (a + 1)) (min (end page) (a + 1 + n)) (omega (arith, past)) ∙ sym (le-ltb (max page.start a) (min (end page) (a + suc n)) (omega (arith, past)))
  ]
]

abbrev some : {A : Type 0} → List A → Bool
some xs = not (length xs == 0)

one_some : {A : Type 0} (x : A) (xs : List A) → some (x ∷ xs) ≡ true
one_some x xs = by (length (x ∷ xs) == 0) refl where
  not_none : (n : ℕ) → (suc n == 0) ≡ true → ⊥
  not_none n e = let same : suc n ≡ 0 = eqb-true (suc n) 0 e in omega (arith, same)

  by : (b : Bool) → (length (x ∷ xs) == 0) ≡ b → not b ≡ true
  by true e = absurd (not_none (length xs) e)
  by false e = refl

some_cons : (b : Bool) (x : Interval) (xs : List Interval) → some (cons_option (given b x) xs) ≡ (b || some xs)
some_cons true x xs = one_some x xs
some_cons false x xs = refl

-- a page holds a row of intervals where it overlaps with them
pub holds_some : (page : Interval) (runs : List Interval) → list_any (holds page) (rows_of runs) ≡ some (overlaps page runs)
holds_some page [] = refl
holds_some page (run ∷ runs) =
    list_any-append (holds page) (range_with_len run.start run.length) (rows_of runs)
    ∙ (λ i. any_row page run.start run.length i || holds_some page runs i)
    ∙ sym (some_cons (nat_lt (max page.start run.start) (min (end page) (end run))) _ (overlaps page runs))

-- ---- the pages that are opened

module _ (bytes : List ℕ) (chunk : Place) (intervals : List Interval) where
  opened_one : (b : Bool) (entry : FilteredPage) (named : List (Interval × Option ChunkPage)) (wanted : List FilteredPage) (rows : Interval) → map (λ (named : Interval × Option ChunkPage). named.1) named ≡ map (found bytes chunk) wanted
      → map (λ (named : Interval × Option ChunkPage). named.1) (cond b ((rows, found bytes chunk entry) ∷ named) named) ≡ map (found bytes chunk) (cond b (entry ∷ wanted) wanted)
  opened_one true entry named wanted rows e = ap (λ rest. found bytes chunk entry ∷ rest) e
  opened_one false entry named wanted rows e = e

  pub opened_are : (locations : List PageLocation) (rows : List Interval) (entries : List FilteredPage) → AreEntries intervals locations rows entries
      → opened_located (rows_of intervals) (zip rows (map (found bytes chunk) entries)) ≡ map (found bytes chunk) (filter is_wanted entries)
  opened_are [] [] [] are = refl
  opened_are [] [] (entry ∷ entries) are = absurd are
  opened_are [] (rows ∷ others) [] are = absurd are
  opened_are [] (rows ∷ others) (entry ∷ entries) are = absurd are
  opened_are (location ∷ locations) [] [] are = absurd are
  opened_are (location ∷ locations) [] (entry ∷ entries) are = absurd are
  opened_are (location ∷ locations) (rows ∷ others) [] are = absurd are
  opened_are (location ∷ locations) (rows ∷ others) (entry ∷ entries) are =
      let same : list_any (holds rows) (rows_of intervals) ≡ is_wanted entry = holds_some rows intervals ∙ ap some (sym are.0.selected) in
      let named = zip others (map (found bytes chunk) entries) in
      ap (λ b. map (λ named. named.1) (cond b ((rows, found bytes chunk entry) ∷ filter (is_opened (rows_of intervals)) named) (filter (is_opened (rows_of intervals)) named))) same
      ∙ opened_one (is_wanted entry) entry (filter (is_opened (rows_of intervals)) named) (filter is_wanted entries) rows (opened_are locations others entries are.1)

-- ---- what is lent of them

split_cons : {A : Type 0} (x y : A) (xs ys : List A) → x ∷ xs ≡ y ∷ ys → (x ≡ y) × (xs ≡ ys)
split_cons x y xs ys e = (cc, cc)

part_length : (bytes : List ℕ) (chunk part : Place) (body : List ℕ) → part_in bytes chunk part ≡ Some body → length body ≡ part.length
part_length bytes chunk part body e = by (lies_in chunk part) (nat_le (place_end part) (length bytes)) refl e where
  by : (b c : Bool) → nat_le (place_end part) (length bytes) ≡ c → (if b then (if c then Some (bytes_at bytes part) else None) else None) ≡ Some body → length body ≡ part.length
  by true true long e = ap length (sym (given_some true (bytes_at bytes part) body e).1) ∙ chunk_length bytes part (leb-true _ _ long)
  by true false long e = absurd cc
  by false c long e = absurd cc

there : (bytes : List ℕ) (chunk : Place) (entry : FilteredPage) (body : List ℕ) → entry_part bytes chunk entry ≡ Some body → wanted_page entry body ≡ found bytes chunk entry
there bytes chunk entry body e =
    ap (λ b. given b body >>= λ own. page_in own entry.num_rows) (eq-eqb (length body) entry.length (part_length bytes chunk (entry_place entry) body e))
    ∙ sym (ap (λ o. o >>= λ body. page_in body entry.num_rows) e)

-- the pages of entries in their parts
abbrev pub pages_of : List (FilteredPage × List ℕ) → List (Option ChunkPage)
pages_of parts = map (λ (wanted : FilteredPage × List ℕ). wanted_page wanted.0 wanted.1) parts

pub pages_there : (bytes : List ℕ) (chunk : Place) (entries : List FilteredPage) (bodies : List (List ℕ)) → map (entry_part bytes chunk) entries ≡ map Some bodies
    → pages_of (zip entries bodies) ≡ map (found bytes chunk) entries
pages_there bytes chunk [] bodies e = refl
pages_there bytes chunk (entry ∷ entries) [] e = absurd cc
pages_there bytes chunk (entry ∷ entries) (body ∷ bodies) e =
    let parts = split_cons (entry_part bytes chunk entry) (Some body) (map (entry_part bytes chunk) entries) (map Some bodies) e in
    λ i. there bytes chunk entry body parts.0 i ∷ pages_there bytes chunk entries bodies parts.1 i

-- ---- items of selected rows

agree_below : {X : Type 0} (p q : ℕ → X) (from : ℕ) (runs : List Interval) (rows : ℕ) → is_well_shaped_from from runs rows ≡ true → ((row : ℕ) → row < rows → p row ≡ q row) → map p (rows_of runs) ≡ map q (rows_of runs)
agree_below p q from [] rows shaped same = refl
agree_below p q from (run ∷ runs) rows shaped same =
    let own = shape-cons from run runs rows shaped in
    let last = shape-le (end run) runs rows own.rest in
    let first = map_rows p q run.start run.length (λ row above below. same row (omega (arith, below, last))) in
    map-append p (range_with_len run.start run.length) (rows_of runs)
    ∙ (λ i. first i ++ agree_below p q (end run) runs rows own.rest same i)
    ∙ sym (map-append q (range_with_len run.start run.length) (rows_of runs))

covered_items : {X : Type 0} (runs : List Interval) (item : ℕ → Option X) (from : ℕ) (items : List X) → ((i : ℕ) → item (from + i) ≡ slice_get items i)
    → map item (filter (covers runs) (range_with_len from (length items))) ≡ map Some (covered_from runs from items)
covered_items runs item from [] at = refl
covered_items runs item from (x ∷ items) at =
    let first : from ≡ from + 0 = omega arith in
    let others = covered_items runs item (from + 1) items (λ i. let next : from + 1 + i ≡ from + suc i = omega arith in ap item next ∙ at (suc i)) in
    by (covers runs from) (ap item first ∙ at 0) others where
      behind : List ℕ
      behind = filter (covers runs) (range_with_len (from + 1) (length items))

      by : (b : Bool) → item from ≡ Some x → map item behind ≡ map Some (covered_from runs (from + 1) items)
          → map item (cond b (from ∷ behind) behind) ≡ map Some (if b then x ∷ covered_from runs (from + 1) items else covered_from runs (from + 1) items)
      by true here others = λ i. here i ∷ others i
      by false here others = others

-- the items in the rows of runs are those that the runs select
pub selected_items : {X : Type 0} (runs : List Interval) (items : List X) → is_well_shaped runs (length items) ≡ true → map (slice_get items) (rows_of runs) ≡ map Some (selected_of (Some runs) items)
selected_items runs items shaped =
    let all : length items - 0 ≡ length items = omega arith in
    ap (map (slice_get items)) (rows_of-passing 0 runs (length items) shaped ∙ ap (λ n. filter (covers runs) (range_with_len 0 n)) all)
    ∙ covered_items runs (slice_get items) 0 items (λ i. let same : 0 + i ≡ i = omega arith in ap (slice_get items) same)

-- the items of a page in the rows that are selected of it
page_items : (reading : Reading) (page : ChunkPage) (items : List Item) (runs : List Interval) → items_in reading page ≡ Some items → is_well_shaped runs (header_values page.header) ≡ true
    → map (λ row. item_at reading row page) (rows_of runs) ≡ map Some (selected_of (Some runs) items)
page_items reading page items runs are shaped =
    ap (λ o. map (λ row. option_and_then (λ items. slice_get items row) o) (rows_of runs)) are
    ∙ selected_items runs items (ap (λ n. is_well_shaped runs n) (items_many reading page items are) ∙ shaped)

-- ---- the items of parts

-- the items in the selected rows of an entry, in its part
abbrev pub part_items : Reading → FilteredPage × List ℕ → List (Option Item)
part_items reading part = map (λ row. option_and_then (item_at reading row) (wanted_page part.0 part.1)) (rows_of part.0.selected_rows)

abbrev pub parts_items : Reading → List (FilteredPage × List ℕ) → List (Option Item)
parts_items reading parts = flat_map (part_items reading) parts

-- what is wrong with them, as far as there are any
abbrev pub causes_of_parts : Reading → List (FilteredPage × List ℕ) → List Cause
causes_of_parts reading parts = flat_map causes_if_there (parts_items reading parts)

-- items that are these cells
abbrev pub cells_as : List Cell → List (Option Item)
cells_as cells = map (λ cell. Some (Value cell)) cells

abbrev pub is_shaped_part : FilteredPage × List ℕ → Bool
is_shaped_part part = is_well_shaped part.0.selected_rows part.0.num_rows

-- some row of it is selected
abbrev pub IsSomePart : FilteredPage × List ℕ → Type 0
IsSomePart part = 0 < length (rows_of part.0.selected_rows)

module _ (reading : Reading) (rule : Conversion) (entries : Option (List Cell)) (pair : conversion reading.stored reading.data_type ≡ Some rule)
    (over : AreEntriesOf rule reading.stored.physical_type (dictionary_content reading.dictionary) entries) (has : has_dictionary reading.dictionary ≡ is_some entries) where
  abbrev lent : List (FilteredPage × List ℕ) → Lent
  lent parts = lent_parts reading.stored parts

  abbrev rows_over : Lent → List Outcome
  rows_over others = rows (column_entries reading.data_type rule reading.stored.physical_type) (column_outcomes reading.data_type rule) entries others.pages others.causes

  abbrev pages_over : ℕ → Lent → List Content
  pages_over wanted others = pages_wanted (column_entries reading.data_type rule reading.stored.physical_type) (column_outcomes reading.data_type rule) entries wanted others.pages

  -- where the first page has a row that is wanted, it is lent, and others for what is wanted behind it
  one_lent : (page : Content) (pages : List Content) (own rest : ℕ) → 0 < own → length (page_rows (column_entries reading.data_type rule reading.stored.physical_type) (column_outcomes reading.data_type rule) entries page) ≡ own → entries_behind (column_entries reading.data_type rule reading.stored.physical_type) (column_outcomes reading.data_type rule) entries page ≡ entries
      → length (pages_over (own + rest) (record { pages = page ∷ pages; causes = [] })) ≡ suc (length (pages_over rest (record { pages = pages; causes = [] })))
  one_lent page pages own rest some long same =
      let more : own + rest ≡ suc (own + rest - 1) = omega (arith, some) in
      let left : suc (own + rest - 1) - own ≡ rest = omega (arith, some) in
      ap (λ n. length (pages_over n (record { pages = page ∷ pages; causes = [] }))) more
      ∙ (λ i. suc (length (pages_wanted (column_entries reading.data_type rule reading.stored.physical_type) (column_outcomes reading.data_type rule) (same i) (suc (own + rest - 1) - long i) pages)))
      ∙ ap (λ n. suc (length (pages_over n (record { pages = pages; causes = [] })))) left

  -- Nothing is wrong with the pages of parts, and each item of theirs that is selected is a value.
  pub record ArePartsGiven (parts : List (FilteredPage × List ℕ)) : Type 0 where
    pub cells : List Cell
    pub none : flat_map (causes_of_found reading) (pages_of parts) ≡ []
    pub outcomes : rows_over (lent parts) ≡ map Given cells
    pub items : parts_items reading parts ≡ cells_as cells
    pub lent_all : length (pages_over (length cells) (lent parts)) ≡ length parts

  -- the items of a page in its part are those that are selected of it
  selected_here : (part : FilteredPage × List ℕ) (page : ChunkPage) (items : List Item) → items_in reading page ≡ Some items → wanted_page part.0 part.1 ≡ Some page → is_shaped_part part ≡ true
      → part_items reading part ≡ map Some (selected_of (Some part.0.selected_rows) items)
  selected_here part page items are here shaped =
      ap (λ o. map (λ row. option_and_then (item_at reading row) o) (rows_of part.0.selected_rows)) here
      ∙ page_items reading page items part.0.selected_rows are (ap (λ n. is_well_shaped part.0.selected_rows n) (wanted_rows part.0 part.1 page here) ∙ shaped)

  part_given : (part : FilteredPage × List ℕ) (others : List (FilteredPage × List ℕ)) → is_shaped_part part ≡ true → IsSomePart part → (page : ChunkPage) → wanted_page part.0 part.1 ≡ Some page
      → lent (part ∷ others) ≡ if_there reading.stored part.0 (Some page) (lent others)
      → causes_in (rows_over (if_there reading.stored part.0 (Some page) (lent others))) ≡ [] → (causes_in (rows_over (lent others)) ≡ [] → ArePartsGiven others) → ArePartsGiven (part ∷ others)
  part_given part others shaped some page here same none rest =
      let later = rows_over (lent others) in
      let first = first_given reading rule entries pair over has (Some part.0.selected_rows) page later none in
      let behind = rest (sym (causes_behind first.cells later) ∙ sym (ap causes_in first.outcomes) ∙ none) in
      let own : causes_of_found reading (wanted_page part.0 part.1) ≡ [] = ap (causes_of_found reading) here ∙ first.none in
      let items : part_items reading part ≡ cells_as first.cells = selected_here part page first.items first.are here shaped ∙ ap (map Some) first.values ∙ map-map Some Value first.cells in
      record {
        cells = first.cells ++ behind.cells;
        none = λ i. own i ++ behind.none i;
        outcomes = ap rows_over same ∙ first.outcomes ∙ ap (λ later. map Given first.cells ++ later) behind.outcomes ∙ sym (map-append Given first.cells behind.cells);
        items = (λ i. items i ++ behind.items i) ∙ sym (map-append (λ cell. Some (Value cell)) first.cells behind.cells);
        lent_all =
            let long : length first.cells ≡ length (rows_of part.0.selected_rows) = sym (length-map first.cells (λ cell. Some (Value cell))) ∙ ap length (sym items) ∙ length-map (rows_of part.0.selected_rows) (λ row. option_and_then (item_at reading row) (wanted_page part.0 part.1)) in
            ap₂ (λ n (lent : Lent). length (pages_over n lent)) (length-append first.cells behind.cells) same
            ∙ one_lent (lent_data_of reading.stored (Some part.0.selected_rows) page) (lent others).pages (length first.cells) (length behind.cells) (omega (arith, some, long)) first.long refl
            ∙ ap suc behind.lent_all;
      }

  parts_given : (parts : List (FilteredPage × List ℕ)) → list_all is_shaped_part parts ≡ true → AllByRecursion IsSomePart parts → causes_in (rows_over (lent parts)) ≡ [] → ArePartsGiven parts
  unfolding lent_parts
  parts_given [] shaped some none = record { cells = []; none = refl; outcomes = refl; items = refl; lent_all = refl }
  parts_given (part ∷ others) shaped some none =
      let each = and_parts (is_shaped_part part) (list_all is_shaped_part others) shaped in
      by (wanted_page part.0 part.1) refl each.0 some.0 none (parts_given others each.1 some.1) where
        by : (o : Option ChunkPage) → wanted_page part.0 part.1 ≡ o → is_shaped_part part ≡ true → IsSomePart part → causes_in (rows_over (if_there reading.stored part.0 o (lent others))) ≡ []
            → (causes_in (rows_over (lent others)) ≡ [] → ArePartsGiven others) → ArePartsGiven (part ∷ others)
        by None here own some none rest = absurd cc
        by (Some page) here own some none rest = part_given part others own some page here (ap (λ o. if_there reading.stored part.0 o (lent others)) here) none rest

  -- The rows are no more than the items of the parts, and none has more bytes than its item.
  record AreShort (parts : List (FilteredPage × List ℕ)) (outcomes : List Outcome) : Type 0 where
    few : length outcomes ≤ length (parts_items reading parts)
    under : AreUnder outcomes (parts_items reading parts)

  part_short : (part : FilteredPage × List ℕ) (others : List (FilteredPage × List ℕ)) → IsSomePart part → (causes : List Cause) → AreShort (part ∷ others) (Refused causes ∷ [])
  part_short part others some causes = record {
    few = omega (
      arith,
      some,
      length-map (rows_of part.0.selected_rows) (λ row. option_and_then (item_at reading row) (wanted_page part.0 part.1)),
      length-append (part_items reading part) (parts_items reading others),
    );
    under = under-refused causes (parts_items reading (part ∷ others));
  }

  page_short : (part : FilteredPage × List ℕ) (others : List (FilteredPage × List ℕ)) → is_shaped_part part ≡ true → IsSomePart part → (page : ChunkPage) → wanted_page part.0 part.1 ≡ Some page → AreShort others (rows_over (lent others))
      → AreShort (part ∷ others) (rows_over (if_there reading.stored part.0 (Some page) (lent others)))
  page_short part others shaped some page here rest = go (causes_of_data reading page) refl where
    later : List Outcome
    later = rows_over (lent others)

    own : List Outcome
    own = column_outcomes reading.data_type rule entries (content_with reading.stored (Some part.0.selected_rows) page)

    both : (goes_on : Bool) (items : List Item) → part_items reading part ≡ map Some items → AreShort (part ∷ others) (if goes_on then map outcome_of items ++ later else map outcome_of items)
    both true items e = record {
      few = omega (arith, rest.few, length-append (map outcome_of items) later, length-append (part_items reading part) (parts_items reading others), ap length e, length-map items outcome_of, length-map items Some);
      under = subst (λ own. AreUnder (map outcome_of items ++ later) (own ++ parts_items reading others)) (sym e) (under-items items later (parts_items reading others) rest.under);
    }
    both false items e = record {
      few = omega (arith, length-append (part_items reading part) (parts_items reading others), ap length e, length-map items outcome_of, length-map items Some);
      under = subst (λ own. AreUnder (map outcome_of items) (own ++ parts_items reading others)) (sym e)
          (subst (λ outcomes. AreUnder outcomes (map Some items ++ parts_items reading others)) (append-nil (map outcome_of items)) (under-items items [] (parts_items reading others) tt));
    }

    go : (causes : List Cause) → causes_of_data reading page ≡ causes → AreShort (part ∷ others) (followed_by own later)
    go [] e =
        let given = page_given reading rule entries pair over has page e in
        let items = selected_of (Some part.0.selected_rows) given.items in
        subst (λ own. AreShort (part ∷ others) (followed_by own later)) (sym (given.outcomes (Some part.0.selected_rows)))
        (both (is_empty (causes_in (map outcome_of items))) items (selected_here part page given.items given.are here shaped))
    go (cause ∷ causes) e =
        subst (λ own. AreShort (part ∷ others) (followed_by own later)) (sym (page_refused reading rule entries pair over has (Some part.0.selected_rows) page cause causes e)) (part_short part others some (cause ∷ causes))

  parts_short : (parts : List (FilteredPage × List ℕ)) → list_all is_shaped_part parts ≡ true → AllByRecursion IsSomePart parts → AreShort parts (rows_over (lent parts))
  unfolding lent_parts
  parts_short [] shaped some = record { few = omega arith; under = tt }
  parts_short (part ∷ others) shaped some =
      let each = and_parts (is_shaped_part part) (list_all is_shaped_part others) shaped in
      by (wanted_page part.0 part.1) refl each.0 some.0 (parts_short others each.1 some.1) where
        by : (found : Option ChunkPage) → wanted_page part.0 part.1 ≡ found → is_shaped_part part ≡ true → IsSomePart part → AreShort others (rows_over (lent others))
            → AreShort (part ∷ others) (rows_over (if_there reading.stored part.0 found (lent others)))
        by None here own some rest = part_short part others some (ExternalFormat ∷ [])
        by (Some page) here own some rest = page_short part others own some page here rest

  abbrev IsWrongOf : List (FilteredPage × List ℕ) → Option Cause → Type 0
  IsWrongOf parts o = IsOneOf (flat_map (causes_of_found reading) (pages_of parts)) o ⊎ IsOneOf (causes_of_parts reading parts) o

  wrong_page : (part : FilteredPage × List ℕ) (others : List (FilteredPage × List ℕ)) (o : Option Cause) → IsOneOf (causes_of_found reading (wanted_page part.0 part.1)) o → IsWrongOf (part ∷ others) o
  wrong_page part others o one = inl (one_of-left (causes_of_found reading (wanted_page part.0 part.1)) (flat_map (causes_of_found reading) (pages_of others)) o one)

  wrong_item : (part : FilteredPage × List ℕ) (others : List (FilteredPage × List ℕ)) (o : Option Cause) → IsOneOf (flat_map causes_if_there (part_items reading part)) o → IsWrongOf (part ∷ others) o
  wrong_item part others o one =
      inr (subst (λ causes. IsOneOf causes o) (sym (flat_map-append causes_if_there (part_items reading part) (parts_items reading others)))
      (one_of-left (flat_map causes_if_there (part_items reading part)) (causes_of_parts reading others) o one))

  wrong_behind : (part : FilteredPage × List ℕ) (others : List (FilteredPage × List ℕ)) (o : Option Cause) → IsWrongOf others o → IsWrongOf (part ∷ others) o
  wrong_behind part others o (inl page) = inl (one_of-right (causes_of_found reading (wanted_page part.0 part.1)) (flat_map (causes_of_found reading) (pages_of others)) o page)
  wrong_behind part others o (inr item) =
      inr (subst (λ causes. IsOneOf causes o) (sym (flat_map-append causes_if_there (part_items reading part) (parts_items reading others)))
      (one_of-right (flat_map causes_if_there (part_items reading part)) (causes_of_parts reading others) o item))

  part_wrong : (part : FilteredPage × List ℕ) (others : List (FilteredPage × List ℕ)) (o : Option Cause) → is_shaped_part part ≡ true → (page : ChunkPage) → wanted_page part.0 part.1 ≡ Some page
      → IsOneOf (causes_of_data reading page) o ⊎ (HasWrongItem reading (Some part.0.selected_rows) page o ⊎ IsOneOf (causes_in (rows_over (lent others))) o)
      → (IsOneOf (causes_in (rows_over (lent others))) o → IsWrongOf others o) → IsWrongOf (part ∷ others) o
  part_wrong part others o shaped page here (inl one) rest = wrong_page part others o (subst (λ found. IsOneOf (causes_of_found reading found) o) (sym here) one)
  part_wrong part others o shaped page here (inr (inl item)) rest =
      let are = ap (flat_map causes_if_there) (selected_here part page item.items item.are here shaped) ∙ items_there (selected_of (Some part.0.selected_rows) item.items) in
      wrong_item part others o (subst (λ causes. IsOneOf causes o) (sym are) item.wrong)
  part_wrong part others o shaped page here (inr (inr later)) rest = wrong_behind part others o (rest later)

  parts_wrong : (parts : List (FilteredPage × List ℕ)) → list_all is_shaped_part parts ≡ true → (o : Option Cause) → IsOneOf (causes_in (rows_over (lent parts))) o → IsWrongOf parts o
  unfolding lent_parts
  parts_wrong [] shaped o one = inl one
  parts_wrong (part ∷ others) shaped o one =
      let each = and_parts (is_shaped_part part) (list_all is_shaped_part others) shaped in
      by (wanted_page part.0 part.1) refl each.0 one (parts_wrong others each.1 o) where
        by : (found : Option ChunkPage) → wanted_page part.0 part.1 ≡ found → is_shaped_part part ≡ true → IsOneOf (causes_in (rows_over (if_there reading.stored part.0 found (lent others)))) o
            → (IsOneOf (causes_in (rows_over (lent others))) o → IsWrongOf others o) → IsWrongOf (part ∷ others) o
        by None here own one rest = wrong_page part others o (subst (λ found. IsOneOf (causes_of_found reading found) o) (sym here) one)
        by (Some page) here own one rest =
            part_wrong part others o own page here (first_wrong reading rule entries pair over has (Some part.0.selected_rows) page (rows_over (lent others)) o one) rest

-- ---- the dictionary before them

module _ (reading : Reading) (rule : Conversion) (pair : conversion reading.stored reading.data_type ≡ Some rule) where
  abbrev rows_lent : List (FilteredPage × List ℕ) → List Outcome
  rows_lent parts = rows_by reading.data_type reading.stored.physical_type (located_lent reading.stored reading.dictionary parts).pages (located_lent reading.stored reading.dictionary parts).causes rule

  -- Nothing is wrong with the pages of parts nor with the dictionary, and each item that is selected is a value.
  pub record AreLocatedGiven (parts : List (FilteredPage × List ℕ)) : Type 0 where
    pub cells : List Cell
    pub none : causes_of_opened reading (pages_of parts) ≡ []
    pub outcomes : rows_lent parts ≡ map Given cells
    pub items : parts_items reading parts ≡ cells_as cells
    pub lent_all : length (pages_by reading.data_type reading.stored.physical_type (length cells) (located_lent reading.stored reading.dictionary parts).pages rule) ≡ with_dictionary_page reading.dictionary (length parts)

  pub located_given : (parts : List (FilteredPage × List ℕ)) → list_all is_shaped_part parts ≡ true → AllByRecursion IsSomePart parts → causes_in (rows_lent parts) ≡ [] → AreLocatedGiven parts
  unfolding located_lent
  located_given [] shaped some none = record { cells = []; none = refl; outcomes = refl; items = refl; lent_all = refl }
  located_given (part ∷ others) shaped some none = by (dictionary_first reading.stored reading.data_type rule pair (lent_parts reading.stored (part ∷ others)) reading.dictionary) where
    by : IsOver reading rule (lent_parts reading.stored (part ∷ others)) ⊎ IsRefused reading rule (lent_parts reading.stored (part ∷ others)) → AreLocatedGiven (part ∷ others)
    by (inl behind) =
        let parts = parts_given reading rule behind.entries pair behind.are behind.has (part ∷ others) shaped some (sym (ap causes_in behind.outcomes) ∙ none) in
        let long : length parts.cells ≡ length (parts_items reading (part ∷ others)) = sym (length-map parts.cells (λ cell. Some (Value cell))) ∙ ap length (sym parts.items) in
        let more : length parts.cells ≡ suc (length parts.cells - 1) = omega (
          arith,
          some.0,
          long,
          length-map (rows_of part.0.selected_rows) (λ row. option_and_then (item_at reading row) (wanted_page part.0 part.1)),
          length-append (part_items reading part) (parts_items reading others),
        ) in
        let P : ℕ → Type 0 = λ n. length (pages_by reading.data_type reading.stored.physical_type n (behind_dictionary reading.dictionary (lent_parts reading.stored (part ∷ others))).pages rule) ≡ with_dictionary_page reading.dictionary (length (part ∷ others)) in
        record {
          cells = parts.cells;
          none = λ i. behind.none i ++ parts.none i;
          outcomes = behind.outcomes ∙ parts.outcomes;
          items = parts.items;
          lent_all = subst P (sym more)
              (behind.lent (length parts.cells - 1) (length others)
              (ap (λ n. length (pages_over reading rule behind.entries pair behind.are behind.has n (lent_parts reading.stored (part ∷ others)))) (sym more) ∙ parts.lent_all));
        }
    by (inr wrong) = absurd (some_cause wrong.cause (wrong.causes ++ []) (sym (ap causes_in wrong.outcomes) ∙ none))

  -- The rows are no more than the items of the parts, and none has more bytes than its item.
  pub record AreRowsShort (parts : List (FilteredPage × List ℕ)) : Type 0 where
    pub few : length (rows_lent parts) ≤ length (parts_items reading parts)
    pub under : AreUnder (rows_lent parts) (parts_items reading parts)

  pub located_short : (parts : List (FilteredPage × List ℕ)) → list_all is_shaped_part parts ≡ true → AllByRecursion IsSomePart parts → AreRowsShort parts
  unfolding located_lent
  located_short [] shaped some = record { few = omega arith; under = tt }
  located_short (part ∷ others) shaped some = by (dictionary_first reading.stored reading.data_type rule pair (lent_parts reading.stored (part ∷ others)) reading.dictionary) where
    by : IsOver reading rule (lent_parts reading.stored (part ∷ others)) ⊎ IsRefused reading rule (lent_parts reading.stored (part ∷ others)) → AreRowsShort (part ∷ others)
    by (inl behind) =
        let short = parts_short reading rule behind.entries pair behind.are behind.has (part ∷ others) shaped some in
        record {
          few = subst (λ outcomes. length outcomes ≤ length (parts_items reading (part ∷ others))) (sym behind.outcomes) short.few;
          under = subst (λ outcomes. AreUnder outcomes (parts_items reading (part ∷ others))) (sym behind.outcomes) short.under;
        }
    by (inr wrong) =
        let long = length-map (rows_of part.0.selected_rows) (λ row. option_and_then (item_at reading row) (wanted_page part.0 part.1)) in
        record {
          few = omega (arith, ap length wrong.outcomes, some.0, long, length-append (part_items reading part) (parts_items reading others));
          under = subst (λ outcomes. AreUnder outcomes (parts_items reading (part ∷ others))) (sym wrong.outcomes) (under-refused (wrong.cause ∷ wrong.causes) (parts_items reading (part ∷ others)));
        }

  wrong_opened : (part : FilteredPage × List ℕ) (others : List (FilteredPage × List ℕ)) (o : Option Cause)
      → IsOneOf (flat_map (causes_of_found reading) (pages_of (part ∷ others))) o ⊎ IsOneOf (causes_of_parts reading (part ∷ others)) o
      → IsOneOf (causes_of_opened reading (pages_of (part ∷ others)) ++ causes_of_parts reading (part ∷ others)) o
  wrong_opened part others o (inl page) =
      one_of-left (causes_of_opened reading (pages_of (part ∷ others))) (causes_of_parts reading (part ∷ others)) o
      (one_of-right (causes_of_dictionary reading reading.dictionary) (flat_map (causes_of_found reading) (pages_of (part ∷ others))) o page)
  wrong_opened part others o (inr item) = one_of-right (causes_of_opened reading (pages_of (part ∷ others))) (causes_of_parts reading (part ∷ others)) o item

  pub located_wrong : (parts : List (FilteredPage × List ℕ)) → list_all is_shaped_part parts ≡ true → (o : Option Cause) → IsOneOf (causes_in (rows_lent parts)) o
      → IsOneOf (causes_of_opened reading (pages_of parts) ++ causes_of_parts reading parts) o
  unfolding located_lent
  located_wrong [] shaped o one = one
  located_wrong (part ∷ others) shaped o one = by (dictionary_first reading.stored reading.data_type rule pair (lent_parts reading.stored (part ∷ others)) reading.dictionary) where
    by : IsOver reading rule (lent_parts reading.stored (part ∷ others)) ⊎ IsRefused reading rule (lent_parts reading.stored (part ∷ others))
        → IsOneOf (causes_of_opened reading (pages_of (part ∷ others)) ++ causes_of_parts reading (part ∷ others)) o
    by (inl behind) =
        wrong_opened part others o (parts_wrong reading rule behind.entries pair behind.are behind.has (part ∷ others) shaped o (subst (λ rows. IsOneOf (causes_in rows) o) behind.outcomes one))
    by (inr wrong) =
        let own = subst (λ causes. IsOneOf causes o) (ap causes_in wrong.outcomes ∙ append-nil (wrong.cause ∷ wrong.causes) ∙ sym wrong.are) one in
        one_of-left (causes_of_opened reading (pages_of (part ∷ others))) (causes_of_parts reading (part ∷ others)) o
        (one_of-left (causes_of_dictionary reading reading.dictionary) (flat_map (causes_of_found reading) (pages_of (part ∷ others))) o own)

-- ---- the items of the rows of all pages

agree_behind : {X : Type 0} (p q : ℕ → X) (intervals : List Interval) (from : ℕ) (pages : List Interval) (rows : ℕ) → AreAdjacent from pages rows → ((row : ℕ) → from ≤ row → p row ≡ q row)
    → map p (flat_map (λ page. rows_in_page page intervals) pages) ≡ map q (flat_map (λ page. rows_in_page page intervals) pages)
agree_behind p q intervals from [] rows adjacent same = refl
agree_behind p q intervals from (page ∷ pages) rows adjacent same =
    map-append p (rows_in_page page intervals) (flat_map (λ page. rows_in_page page intervals) pages)
    ∙ (λ i. shifted (rows_of (overlaps page intervals)) i ++ agree_behind p q intervals (end page) pages rows adjacent.1 (λ row low. same row (omega (arith, low, adjacent.0))) i)
    ∙ sym (map-append q (rows_in_page page intervals) (flat_map (λ page. rows_in_page page intervals) pages)) where
      shifted : (rows : List ℕ) → map p (map (λ row. page.start + row) rows) ≡ map q (map (λ row. page.start + row) rows)
      shifted [] = refl
      shifted (row ∷ rows) =
          let first : p (page.start + row) ≡ q (page.start + row) = same (page.start + row) (omega (arith, adjacent.0)) in
          λ i. first i ∷ shifted rows i

pub none_some : {A : Type 0} (xs : List A) → some xs ≡ false → xs ≡ []
none_some [] e = refl
none_some (x ∷ xs) e = absurd (true≢false (sym (one_some x xs) ∙ e))

module _ (bytes : List ℕ) (chunk : Place) (intervals : List Interval) (reading : Reading) (num_rows : ℕ) (shaped : is_well_shaped intervals num_rows ≡ true) where
  abbrev items_from : List Interval → List FilteredPage → ℕ → Option Item
  items_from rows entries = item_located reading (zip rows (map (found bytes chunk) entries))

  abbrev selected_in : List Interval → List ℕ
  selected_in rows = flat_map (λ page. rows_in_page page intervals) rows

  -- the items of the selected rows are those of the parts of entries that are wanted
  abbrev AreOfParts : List Interval → List FilteredPage → List FilteredPage → List (List ℕ) → Type 0
  AreOfParts rows entries wanted bodies = map (entry_part bytes chunk) wanted ≡ map Some bodies → map (items_from rows entries) (selected_in rows) ≡ parts_items reading (zip wanted bodies)

  -- the items of other rows do not change by a page before them
  others_same : (from : ℕ) (rows : Interval) (others : List Interval) (entry : FilteredPage) (entries : List FilteredPage) → AreAdjacent from (rows ∷ others) num_rows
      → map (items_from (rows ∷ others) (entry ∷ entries)) (selected_in others) ≡ map (items_from others entries) (selected_in others)
  others_same from rows others entry entries adjacent =
      agree_behind (items_from (rows ∷ others) (entry ∷ entries)) (items_from others entries) intervals (end rows) others num_rows adjacent.1
      (λ row low. ap (λ b. option_and_then (λ (named : Interval × Option ChunkPage). option_and_then (item_at reading (row - (named.0).start)) named.1)
      (cond b (Some (rows, found bytes chunk entry)) (find (λ (named : Interval × Option ChunkPage). holds named.0 row) (zip others (map (found bytes chunk) entries))))) (holds_after rows row low))

  own_items : (rows : Interval) (others : List Interval) (entry : FilteredPage) (entries : List FilteredPage)
      → map (items_from (rows ∷ others) (entry ∷ entries)) (rows_in_page rows intervals) ≡ map (λ row. option_and_then (item_at reading row) (found bytes chunk entry)) (rows_of (overlaps rows intervals))
  own_items rows others entry entries =
      map-map (items_from (rows ∷ others) (entry ∷ entries)) (λ row. rows.start + row) (rows_of (overlaps rows intervals))
      ∙ agree_below (λ row. items_from (rows ∷ others) (entry ∷ entries) (rows.start + row)) (λ row. option_and_then (item_at reading row) (found bytes chunk entry)) 0 (overlaps rows intervals) rows.length (overlaps-shaped rows intervals num_rows shaped)
      (λ row below. let counted : rows.start + row - rows.start ≡ row = omega arith in
      ap (λ b. option_and_then (λ (named : Interval × Option ChunkPage). option_and_then (item_at reading (rows.start + row - (named.0).start)) named.1)
      (cond b (Some (rows, found bytes chunk entry)) (find (λ (named : Interval × Option ChunkPage). holds named.0 (rows.start + row)) (zip others (map (found bytes chunk) entries))))) (holds_inside rows (rows.start + row) (omega arith) (omega (arith, below)))
      ∙ ap (λ n. option_and_then (item_at reading n) (found bytes chunk entry)) counted)

  -- where a page of entries is not wanted
  not_wanted : (from : ℕ) (location : PageLocation) (rows : Interval) (others : List Interval) (entry : FilteredPage) (entries wanted : List FilteredPage) (bodies : List (List ℕ)) → AreAdjacent from (rows ∷ others) num_rows
      → IsEntry intervals location rows entry → is_wanted entry ≡ false → AreOfParts others entries wanted bodies → AreOfParts (rows ∷ others) (entry ∷ entries) wanted bodies
  not_wanted from location rows others entry entries wanted bodies adjacent is unwanted rest parts =
      let empty : overlaps rows intervals ≡ [] = sym is.selected ∙ none_some entry.selected_rows unwanted in
      ap (λ runs. map (items_from (rows ∷ others) (entry ∷ entries)) (map (λ row. rows.start + row) (rows_of runs) ++ selected_in others)) empty
      ∙ others_same from rows others entry entries adjacent ∙ rest parts

  -- where it is
  wanted_here : (from : ℕ) (location : PageLocation) (rows : Interval) (others : List Interval) (entry : FilteredPage) (entries wanted : List FilteredPage) (body : List ℕ) (bodies : List (List ℕ)) → AreAdjacent from (rows ∷ others) num_rows
      → IsEntry intervals location rows entry → AreOfParts others entries wanted bodies → AreOfParts (rows ∷ others) (entry ∷ entries) (entry ∷ wanted) (body ∷ bodies)
  wanted_here from location rows others entry entries wanted body bodies adjacent is rest parts =
      let each = split_cons (entry_part bytes chunk entry) (Some body) (map (entry_part bytes chunk) wanted) (map Some bodies) parts in
      let here = there bytes chunk entry body each.0 in
      let own : map (items_from (rows ∷ others) (entry ∷ entries)) (rows_in_page rows intervals) ≡ part_items reading (entry, body)
      = own_items rows others entry entries
      ∙ ap (λ o. map (λ row. option_and_then (item_at reading row) o) (rows_of (overlaps rows intervals))) (sym here)
      ∙ ap (λ runs. map (λ row. option_and_then (item_at reading row) (wanted_page entry body)) (rows_of runs)) (sym is.selected) in
      map-append (items_from (rows ∷ others) (entry ∷ entries)) (rows_in_page rows intervals) (selected_in others)
      ∙ (λ i. own i ++ (others_same from rows others entry entries adjacent ∙ rest each.1) i)

  wanted_or_not : (b : Bool) (from : ℕ) (location : PageLocation) (rows : Interval) (others : List Interval) (entry : FilteredPage) (entries wanted : List FilteredPage) → AreAdjacent from (rows ∷ others) num_rows
      → IsEntry intervals location rows entry → is_wanted entry ≡ b → ((bodies : List (List ℕ)) → AreOfParts others entries wanted bodies) → (bodies : List (List ℕ)) → AreOfParts (rows ∷ others) (entry ∷ entries) (cond b (entry ∷ wanted) wanted) bodies
  wanted_or_not false from location rows others entry entries wanted adjacent is unwanted rest bodies = not_wanted from location rows others entry entries wanted bodies adjacent is unwanted (rest bodies)
  wanted_or_not true from location rows others entry entries wanted adjacent is here rest [] = λ parts. absurd cc
  wanted_or_not true from location rows others entry entries wanted adjacent is here rest (body ∷ bodies) = wanted_here from location rows others entry entries wanted body bodies adjacent is (rest bodies)

  pub items_of_parts : (from : ℕ) (locations : List PageLocation) (rows : List Interval) (entries : List FilteredPage) → AreAdjacent from rows num_rows → AreEntries intervals locations rows entries
      → (bodies : List (List ℕ)) → AreOfParts rows entries (filter is_wanted entries) bodies
  items_of_parts from [] [] [] adjacent are bodies = λ parts. refl
  items_of_parts from [] [] (entry ∷ entries) adjacent are bodies = absurd are
  items_of_parts from [] (rows ∷ others) [] adjacent are bodies = absurd are
  items_of_parts from [] (rows ∷ others) (entry ∷ entries) adjacent are bodies = absurd are
  items_of_parts from (location ∷ locations) [] [] adjacent are bodies = absurd are
  items_of_parts from (location ∷ locations) [] (entry ∷ entries) adjacent are bodies = absurd are
  items_of_parts from (location ∷ locations) (rows ∷ others) [] adjacent are bodies = absurd are
  items_of_parts from (location ∷ locations) (rows ∷ others) (entry ∷ entries) adjacent are bodies =
      wanted_or_not (is_wanted entry) from location rows others entry entries (filter is_wanted entries) adjacent are.0 refl (items_of_parts (end rows) locations others entries adjacent.1 are.1) bodies
