-- How many pages are lent of a chunk, and how many bytes are read of it at most.
use Rattle.std.proofs.Common.{◌≡◌, ℕ, zero, suc, get_or, ◌+◌, ◌-◌, ◌<◌, ◌≤◌, Bool, true, false, not, cond, List, [], ◌∷◌, length, map, drop, Option, Some, None, refl, sym, subst, ◌∙◌, ap, arith, inl, inr}
use Rattle.std.specs.Prelude.{filter, zip, sum_by, unwrap_or, option_map, ◌==◌, ◌&&◌, ◌||◌, max, min, IfSome, if◌then◌else◌}
use Rattle.std.specs.List.{list_any, range_with_len}
use Rattle.std.specs.Option.{option_map_or}
use Rattle.std.proofs.lemmas.Bool.{cases_lt, eq-eqb, lt-ltb, ltb-true, or_right, true≢false}
use Rattle.std.proofs.lemmas.List.{drop_all, drop_more}
use Rattle.std.proofs.lemmas.List.Sums.{sum_by-cons}
use Rattle.std.proofs.lemmas.Slice.Zip.{length-zip}
use Rattle.columns_core.specs.declared.data_type.DataType.{DataType}
use Rattle.columns_core.specs.declared.data_type.Field.{Field}
use Rattle.parquet_base.specs.Intervals.{holds, interval}
use Rattle.parquet_base.specs.Intervals.{rows_of as rows_in}
use Rattle.parquet_base.specs.declared.interval.Interval.{Interval}
use Rattle.parquet_meta.specs.Chunks.{chunk_causes, chunk_range, has_range}
use Rattle.parquet_meta.specs.Indexes.{place_length}
use Rattle.parquet_meta.specs.declared.metadata.ColumnChunkMetaData.{ColumnChunkMetaData}
use Rattle.parquet_meta.specs.declared.metadata.PageLocation.{PageLocation}
use Rattle.parquet_meta.specs.declared.metadata.Place.{Place}
use Rattle.parquet_meta.specs.declared.metadata.RowGroupMetaData.{RowGroupMetaData}
use Rattle.columns_core.specs.Causes.{is_empty}
use Rattle.parquet_page.specs.Chunk.{Dictionary, NoDictionary, Undefined, Defined, PlacedPage}
use Rattle.parquet_page.specs.Content.{header_values}
use Rattle.parquet_page.specs.Lent.{first_start, is_wanted}
use Rattle.parquet_page.specs.Located.{dictionary_in}
use Rattle.parquet_page.specs.Locations.{part_of}
use Rattle.parquet_page.specs.declared.page.FilteredPage.{FilteredPage}
use Rattle.parquet_encoding.proofs.StepLemmas.{given_some}
use Rattle.parquet_scan.specs.Causes.{begins_below}
use Rattle.parquet_scan.specs.Cells.{Reading, chunk_of, dictionary_by_locations, first_location, is_null_type, walked_dictionary, walked_pages}
use Rattle.parquet_scan.specs.Costs.{is_walked, lent_of_chunk, lent_of_read, located_bytes, location_length, most_of_chunk, most_of_read, names_some, opened_locations, opened_walked, pages_walked, taken_of_chunk, taken_of_column, taken_of_read, with_dictionary_page}
use Rattle.parquet_scan.specs.Located.{entry_place}
use Rattle.parquet_scan.specs.Pages.{locations, rows_at}
use Rattle.parquet_scan.specs.Rows.{column_named}
use Rattle.parquet_scan.specs.Scan.{RisesBy, RisesJustBy}
use Rattle.parquet_scan.proofs.LocatedLemmas.{AreEntries, any_row, holds_some}
use Rattle.parquet_scan.proofs.LocationLemmas.{HaveRows, have_rows}
use Rattle.parquet_scan.proofs.OpenedLemmas.{AreParts, IsSelected, reading_is, rows_of_selected, same_reading}
use Rattle.parquet_scan.proofs.PairLemmas.{pair_at}

-- ---- counts that rise

pub rises_as : (told : Option (List ℕ)) (before now : ℕ) (most whole : List ℕ → ℕ) → IfSome told (λ bytes. most bytes ≤ whole bytes) → RisesBy told before now most → RisesBy told before now whole
rises_as None before now most whole less h = tt
rises_as (Some bytes) before now most whole less h = omega (arith, less, h)

-- what is left of a sum at a place
pub sum_left : {X : Type 0} (f : X → ℕ) (xs : List X) (i : ℕ) (x : X) → i < length xs → x ≡ get_or xs i x → sum_by f (drop i xs) ≡ f x + sum_by f (drop (i + 1) xs)
sum_left f xs i x h at =
    ap (sum_by f) (drop_more xs i x h ∙ ap (λ first. first ∷ drop (i + 1) xs) (sym at)) ∙ sum_by-cons f x (drop (i + 1) xs)

pub none_left : {X : Type 0} (f : X → ℕ) (xs : List X) (i : ℕ) → length xs ≤ i → sum_by f (drop i xs) ≡ 0
none_left f xs i h = ap (sum_by f) (drop_all i xs h)

-- of two lists side by side
pub pair_left : {X Y : Type 0} (f : X × Y → ℕ) (xs : List X) (ys : List Y) (i : ℕ) (x : X) (y d : Y) → i < length xs → i < length ys → x ≡ get_or xs i x → y ≡ get_or ys i d
    → sum_by f (zip (drop i xs) (drop i ys)) ≡ f (x, y) + sum_by f (zip (drop (i + 1) xs) (drop (i + 1) ys))
pair_left f xs ys i x y d h k at beside =
    let rest = zip (drop (i + 1) xs) (drop (i + 1) ys) in
    ap (sum_by f) (pair_at xs ys i x d h k) ∙ sum_by-cons f (get_or xs i x, get_or ys i d) rest ∙ (λ j. f (sym at j, sym beside j) + sum_by f rest)

pub no_pair_left : {X Y : Type 0} (f : X × Y → ℕ) (xs : List X) (ys : List Y) (i : ℕ) → length xs ≤ i → sum_by f (zip (drop i xs) (drop i ys)) ≡ 0
no_pair_left f xs ys i h = ap (λ left. sum_by f (zip left (drop i ys))) (drop_all i xs h)

-- one more item of a list
pub rises_more : {X : Type 0} (told : Option (List ℕ)) (cost : List ℕ → X → ℕ) (xs : List X) (i : ℕ) (x : X) (start mid now : ℕ) → i < length xs → x ≡ get_or xs i x
    → IfSome told (λ bytes. mid + sum_by (cost bytes) (drop i xs) ≤ start + sum_by (cost bytes) xs) → RisesBy told mid now (λ bytes. cost bytes x)
    → IfSome told (λ bytes. now + sum_by (cost bytes) (drop (i + 1) xs) ≤ start + sum_by (cost bytes) xs)
rises_more None cost xs i x start mid now h at so_far own = tt
rises_more (Some bytes) cost xs i x start mid now h at so_far own = omega (arith, so_far, own, sum_left (cost bytes) xs i x h at)

-- all items
pub rises_all : {X : Type 0} (told : Option (List ℕ)) (cost : List ℕ → X → ℕ) (xs : List X) (i : ℕ) (start now : ℕ) → length xs ≤ i
    → IfSome told (λ bytes. now + sum_by (cost bytes) (drop i xs) ≤ start + sum_by (cost bytes) xs) → RisesBy told start now (λ bytes. sum_by (cost bytes) xs)
rises_all None cost xs i start now h so_far = tt
rises_all (Some bytes) cost xs i start now h so_far = omega (arith, so_far, none_left (cost bytes) xs i h)

-- all pairs
pub rises_pairs : {X Y : Type 0} (told : Option (List ℕ)) (cost : List ℕ → X × Y → ℕ) (xs : List X) (ys : List Y) (i : ℕ) (start now : ℕ) → length xs ≤ i
    → IfSome told (λ bytes. now + sum_by (cost bytes) (zip (drop i xs) (drop i ys)) ≤ start + sum_by (cost bytes) (zip xs ys)) → RisesBy told start now (λ bytes. sum_by (cost bytes) (zip xs ys))
rises_pairs None cost xs ys i start now h so_far = tt
rises_pairs (Some bytes) cost xs ys i start now h so_far = omega (arith, so_far, no_pair_left (cost bytes) xs ys i h)

-- a count that is one of the bytes
pub just_told : (told : Option (List ℕ)) (before now count : ℕ) (whole : List ℕ → ℕ) → IfSome told (λ bytes. count ≡ whole bytes) → now ≡ before + count → RisesJustBy told before now whole
just_told None before now count whole same e = tt
just_told (Some bytes) before now count whole same e = omega (arith, same, e)

-- ---- pages of a chunk that are located

-- as many locations as entries, and as long ones
pub record AreAsLong (named : List PageLocation) (entries : List FilteredPage) : Type 0 where
  pub count : length named ≡ length entries
  pub bytes : sum_by location_length named ≡ sum_by (λ (entry : FilteredPage). entry.length) entries

abbrev locations_in : List (Interval × PageLocation) → List PageLocation
locations_in named = map (λ (named : Interval × PageLocation). named.1) named

one_as_long : (b : Bool) (rows : Interval) (location : PageLocation) (entry : FilteredPage) (named : List (Interval × PageLocation)) (entries : List FilteredPage) → part_of location ≡ Some (entry_place entry)
    → AreAsLong (locations_in named) entries → AreAsLong (locations_in (cond b ((rows, location) ∷ named) named)) (cond b (entry ∷ entries) entries)
one_as_long false rows location entry named entries part are = are
one_as_long true rows location entry named entries part are = record {
  count = omega (arith, are.count);
  bytes =
      let own : location_length location ≡ entry.length = ap place_length part in
      omega (arith, own, are.bytes, sum_by-cons location_length location (locations_in named), sum_by-cons (λ (entry : FilteredPage). entry.length) entry entries);
}

-- the locations that name a row of intervals are those of the entries that are wanted
wanted_as_long : (intervals : List Interval) (locations : List PageLocation) (rows : List Interval) (entries : List FilteredPage) → AreEntries intervals locations rows entries
    → AreAsLong (locations_in (filter (names_some (rows_in intervals)) (zip rows locations))) (filter is_wanted entries)
wanted_as_long intervals [] [] [] are = record { count = refl; bytes = refl }
wanted_as_long intervals [] [] (entry ∷ entries) are = absurd are
wanted_as_long intervals [] (rows ∷ others) [] are = absurd are
wanted_as_long intervals [] (rows ∷ others) (entry ∷ entries) are = absurd are
wanted_as_long intervals (location ∷ locations) [] [] are = absurd are
wanted_as_long intervals (location ∷ locations) [] (entry ∷ entries) are = absurd are
wanted_as_long intervals (location ∷ locations) (rows ∷ others) [] are = absurd are
wanted_as_long intervals (location ∷ locations) (rows ∷ others) (entry ∷ entries) are =
    let same : list_any (holds rows) (rows_in intervals) ≡ is_wanted entry = holds_some rows intervals ∙ ap (λ runs. not (length runs == 0)) (sym are.0.selected) in
    let named = filter (names_some (rows_in intervals)) (zip others locations) in
    subst (λ b. AreAsLong (locations_in (cond b ((rows, location) ∷ named) named)) (cond (is_wanted entry) (entry ∷ filter is_wanted entries) (filter is_wanted entries))) (sym same)
    (one_as_long (is_wanted entry) rows location entry named (filter is_wanted entries) are.0.part (wanted_as_long intervals locations others entries are.1))

-- what stands before the first page
before_first : (intervals : List Interval) (locations : List PageLocation) (rows : Interval) (others : List Interval) (entries : List FilteredPage) (start : ℕ) → AreEntries intervals locations (rows ∷ others) entries
    → unwrap_or (first_location start locations) 0 ≡ first_start entries - start
before_first intervals [] rows others [] start are = absurd are
before_first intervals [] rows others (entry ∷ entries) start are = absurd are
before_first intervals (location ∷ locations) rows others [] start are = absurd are
before_first intervals (location ∷ locations) rows others (entry ∷ entries) start are = ap (λ o. unwrap_or (option_map (λ (part : Place). part.offset - start) o) 0) are.0.part

-- what is read of opened pages and before them, if it is
read_before_pages : (b : Bool) (size : ℕ) (before : Option ℕ) (opened : List PageLocation) → unwrap_or before 0 ≡ size → (b ≡ true → 0 < length opened)
    → (if b then size else 0) + sum_by location_length opened ≤ located_bytes before opened
read_before_pages true size before [] is some = absurd (omega (arith, some refl))
read_before_pages true size before (location ∷ opened) is some = omega (arith, is)
read_before_pages false size before [] is some = omega arith
read_before_pages false size before (location ∷ opened) is some = omega arith

chunk_is : (bytes : List ℕ) (group : RowGroupMetaData) (column : ColumnChunkMetaData) (chunk : Place) → chunk_of bytes group column ≡ Some chunk → chunk_range column ≡ chunk
chunk_is bytes group column chunk e = by (is_empty (chunk_causes column) && has_range (length bytes) group.num_rows column) e where
  by : (b : Bool) → (if b then Some (chunk_range column) else None) ≡ Some chunk → chunk_range column ≡ chunk
  by true e = (given_some true (chunk_range column) chunk e).1
  by false e = absurd cc

module _ (group : RowGroupMetaData) (column : ColumnChunkMetaData) (intervals : List Interval) (given_locations : List PageLocation) (entries : List FilteredPage) (selected : IsSelected group intervals given_locations entries) where
  abbrev have : HaveRows given_locations group.num_rows
  have = have_rows given_locations group.num_rows selected.shape

  opened_at : (bytes : List ℕ) → locations bytes column ≡ given_locations
      → opened_locations bytes group (rows_in intervals) column ≡ locations_in (filter (names_some (rows_in intervals)) (zip (have.first ∷ have.others) given_locations))
  opened_at bytes told =
      ap (λ found. locations_in (filter (names_some (rows_in intervals)) (zip (rows_at found group.num_rows) found))) told
      ∙ ap (λ rows. locations_in (filter (names_some (rows_in intervals)) (zip rows given_locations))) (ap (λ o. unwrap_or o []) have.are)

  as_long : (bytes : List ℕ) → locations bytes column ≡ given_locations → AreAsLong (opened_locations bytes group (rows_in intervals) column) (filter is_wanted entries)
  as_long bytes told =
      subst (λ named. AreAsLong named (filter is_wanted entries)) (sym (opened_at bytes told))
      (wanted_as_long intervals given_locations (have.first ∷ have.others) entries (rows_of_selected group intervals given_locations entries selected))

  -- The opened pages are lent, and where there is one, the dictionary in the part before all of them.
  pub lent_located : (told : Option (List ℕ)) (data_type : DataType) (chunk : Place) (before : List ℕ) (bodies : List (List ℕ)) → IfSome told (λ bytes. chunk_of bytes group column ≡ Some chunk)
      → IfSome told (λ bytes. locations bytes column ≡ given_locations) → IfSome told (λ bytes. AreParts bytes chunk entries before bodies) → length bodies ≡ length (filter is_wanted entries)
      → IfSome told (λ bytes. with_dictionary_page (dictionary_in before) (length (zip (filter is_wanted entries) bodies)) ≡ lent_of_chunk true bytes group (rows_in intervals) column)
  lent_located None data_type chunk before bodies placed told parts counted = tt
  lent_located (Some bytes) data_type chunk before bodies placed told parts counted =
      let count : length (zip (filter is_wanted entries) bodies) ≡ length (opened_locations bytes group (rows_in intervals) column)
      = omega (arith, length-zip (filter is_wanted entries) bodies, counted, (as_long bytes told).count) in
      let reading = reading_is group column data_type intervals chunk given_locations entries selected bytes placed told in
      ap (with_dictionary_page (dictionary_in before)) count
      ∙ by (length (opened_locations bytes group (rows_in intervals) column))
      (λ some. sym (ap (λ (reading : Reading). reading.dictionary) (reading ∙ same_reading None group column data_type intervals chunk given_locations entries before bodies bytes parts (omega (arith, some, (as_long bytes told).count))))) where
        by : (n : ℕ) → (0 < n → dictionary_in before ≡ dictionary_by_locations bytes group column) → with_dictionary_page (dictionary_in before) n ≡ with_dictionary_page (dictionary_by_locations bytes group column) n
        by zero same = refl
        by (suc n) same = ap (λ dictionary. with_dictionary_page dictionary (suc n)) (same (omega arith))

  located_taken : (bytes : List ℕ) (chunk : Place) (b : Bool) → chunk_of bytes group column ≡ Some chunk → locations bytes column ≡ given_locations → (b ≡ true → 0 < length (filter is_wanted entries))
      → (if b then first_start entries - chunk.offset else 0) + sum_by (λ (entry : FilteredPage). entry.length) (filter is_wanted entries) ≤ taken_of_chunk true bytes group (rows_in intervals) column
  located_taken bytes chunk b placed told some =
      let long = as_long bytes told in
      let start : (chunk_range column).offset ≡ chunk.offset = ap (λ (place : Place). place.offset) (chunk_is bytes group column chunk placed) in
      let before : unwrap_or (first_location (chunk_range column).offset (locations bytes column)) 0 ≡ first_start entries - chunk.offset
      = (λ i. unwrap_or (first_location (start i) (told i)) 0) ∙ before_first intervals given_locations have.first have.others entries chunk.offset (rows_of_selected group intervals given_locations entries selected) in
      let most = read_before_pages b (first_start entries - chunk.offset) (first_location (chunk_range column).offset (locations bytes column)) (opened_locations bytes group (rows_in intervals) column) before
      (λ yes. omega (arith, some yes, long.count)) in
      omega (arith, most, long.bytes)

  -- what is taken of a chunk: the pages that are wanted and, if one is, the part before the first
  pub taken_located : (told : Option (List ℕ)) (chunk : Place) (b : Bool) (before now : ℕ) → IfSome told (λ bytes. chunk_of bytes group column ≡ Some chunk) → IfSome told (λ bytes. locations bytes column ≡ given_locations)
      → (b ≡ true → 0 < length (filter is_wanted entries))
      → now ≤ before + sum_by (λ (entry : FilteredPage). entry.length) (filter is_wanted entries) + (if b then first_start entries - chunk.offset else 0)
      → RisesBy told before now (λ bytes. taken_of_chunk true bytes group (rows_in intervals) column)
  taken_located None chunk b before now placed told some e = tt
  taken_located (Some bytes) chunk b before now placed told some e = omega (arith, e, located_taken bytes chunk b placed told some)

-- ---- a column as it is read, and the column of a name

pub lent_as_read : (told : Option (List ℕ)) (by_pages : Bool) (group : RowGroupMetaData) (rows : List ℕ) (data_type : DataType) (column : ColumnChunkMetaData) → is_null_type data_type ≡ false
    → IfSome told (λ bytes. lent_of_read by_pages bytes group rows data_type column ≡ lent_of_chunk by_pages bytes group rows column)
lent_as_read None by_pages group rows data_type column not_null = tt
lent_as_read (Some bytes) by_pages group rows data_type column not_null = ap (λ b. if b then 0 else lent_of_chunk by_pages bytes group rows column) not_null

pub taken_as_read : (told : Option (List ℕ)) (by_pages : Bool) (group : RowGroupMetaData) (rows : List ℕ) (data_type : DataType) (column : ColumnChunkMetaData) → is_null_type data_type ≡ false
    → IfSome told (λ bytes. taken_of_chunk by_pages bytes group rows column ≤ taken_of_read by_pages bytes group rows data_type column)
taken_as_read None by_pages group rows data_type column not_null = tt
taken_as_read (Some bytes) by_pages group rows data_type column not_null = omega (arith, ap (λ b. if b then 0 else taken_of_chunk by_pages bytes group rows column) not_null)

pub taken_named : (told : Option (List ℕ)) (by_pages : Bool) (group : RowGroupMetaData) (rows : List ℕ) (field : Field) (column : ColumnChunkMetaData) → column_named group field.name ≡ Some column
    → IfSome told (λ bytes. taken_of_read by_pages bytes group rows field.data_type column ≤ taken_of_column by_pages bytes group rows field)
taken_named None by_pages group rows field column named = tt
taken_named (Some bytes) by_pages group rows field column named =
    let own : taken_of_column by_pages bytes group rows field ≡ taken_of_read by_pages bytes group rows field.data_type column = ap (λ o. option_map_or (taken_of_read by_pages bytes group rows field.data_type) o 0) named in
    omega (arith, own)

-- ---- no more pages are lent than the bound says

with_one : (dictionary : Dictionary) (pages : ℕ) → with_dictionary_page dictionary pages ≤ pages + 1
with_one _ zero = omega arith
with_one NoDictionary (suc pages) = omega arith
with_one Undefined (suc pages) = omega arith
with_one (Defined page) (suc pages) = omega arith

-- a page that begins among so many rows holds one of them, or has none
is_walked_over : (n : ℕ) (placed : PlacedPage) → begins_below n placed ≡ true → is_walked (range_with_len 0 n) placed ≡ true
is_walked_over n placed below = elim (cases_lt 0 count) [
  | inl more ↦ or_right (count == 0) (list_any (holds (interval row count)) (range_with_len 0 n))
      (any_row (interval row count) 0 n ∙ lt-ltb (max row 0) (min (row + count) (0 + n)) (omega (arith, more, ltb-true row n below)))
  | inr none ↦ ap (λ b. b || list_any (holds (interval row count)) (range_with_len 0 n)) (eq-eqb count 0 (omega (arith, none)))
] where
  row : ℕ
  row = placed.first_row

  count : ℕ
  count = header_values placed.page.header

fewer-pass : {X : Type 0} (test other : X → Bool) (xs : List X) → ((x : X) → test x ≡ true → other x ≡ true) → length (filter test xs) ≤ length (filter other xs)
fewer-pass test other [] passes = omega arith
fewer-pass {X} test other (x ∷ xs) passes = by (test x) (other x) refl refl (fewer-pass test other xs passes) where
  by : (b c : Bool) → test x ≡ b → other x ≡ c → length (filter test xs) ≤ length (filter other xs) → length (cond b (x ∷ filter test xs) (filter test xs)) ≤ length (cond c (x ∷ filter other xs) (filter other xs))
  by true true e k rest = omega (arith, rest)
  by true false e k rest = absurd (true≢false (sym (passes x e) ∙ k))
  by false true e k rest = omega (arith, rest)
  by false false e k rest = rest

most_of : (by_pages : Bool) (bytes : List ℕ) (group : RowGroupMetaData) (rows : List ℕ) (column : ColumnChunkMetaData) → (by_pages ≡ false → rows ≡ range_with_len 0 (length rows))
    → lent_of_chunk by_pages bytes group rows column ≤ most_of_chunk by_pages bytes group rows column
most_of true bytes group rows column first = with_one (dictionary_by_locations bytes group column) (length (opened_locations bytes group rows column))
most_of false bytes group rows column first =
    let few = fewer-pass (begins_below (length rows)) (is_walked (range_with_len 0 (length rows))) (walked_pages bytes group column) (is_walked_over (length rows)) in
    let same : length (filter (is_walked (range_with_len 0 (length rows))) (walked_pages bytes group column)) ≡ length (pages_walked bytes group rows column)
    = ap (λ rows. length (filter (is_walked rows) (walked_pages bytes group column))) (sym (first refl)) in
    omega (arith, few, same, with_one (walked_dictionary bytes group column) (length (opened_walked bytes group rows column)))

pub lent_most : (by_pages : Bool) (bytes : List ℕ) (group : RowGroupMetaData) (rows : List ℕ) (data_type : DataType) (column : ColumnChunkMetaData) → (by_pages ≡ false → rows ≡ range_with_len 0 (length rows))
    → lent_of_read by_pages bytes group rows data_type column ≤ most_of_read by_pages bytes group rows data_type column
lent_most by_pages bytes group rows data_type column first = by (is_null_type data_type) where
  by : (b : Bool) → (if b then 0 else lent_of_chunk by_pages bytes group rows column) ≤ (if b then 0 else most_of_chunk by_pages bytes group rows column)
  by true = omega arith
  by false = most_of by_pages bytes group rows column first
