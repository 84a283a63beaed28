-- What is wrong with a chunk that is read by locations, by its parts.
use Rattle.std.proofs.Common.{◌≡◌, ℕ, get_or, ◌+◌, ◌-◌, ◌<◌, ◌≤◌, ◌^◌, Bool, true, false, not, cond, List, [], ◌∷◌, ◌++◌, length, length-append, map, take, drop, Option, Some, None, refl, sym, subst, ◌∙◌, ap, arith, inl, inr}
use Rattle.std.specs.Prelude.{All, filter, flat_map, zip, sum_by, nat_le, ◌==◌, ◌&&◌, is_some, option_and_then, option_map, unwrap_or, IfSome, if◌then◌else◌}
use Rattle.std.specs.List.{AllByRecursion, list_all}
use Rattle.std.specs.Option.{option_map_or}
use Rattle.std.proofs.lemmas.Bool.{and_from, and_parts, le-leb, lt-leb, lt-ltb, leb-true, leb-false}
use Rattle.std.proofs.lemmas.List.{take-take, take_all, length-map}
use Rattle.std.proofs.lemmas.List.Concat.{length-flat_map}
use Rattle.std.proofs.lemmas.Simd.{map-map}
use Rattle.std.proofs.lemmas.List.Sums.{sum_by-cons}
use Rattle.columns_core.specs.Causes.{Cause, ExternalFormat, IsOneOf, and_then, is_empty, unless}
use Rattle.columns_core.specs.declared.cell.Cell.{Cell}
use Rattle.columns_core.specs.declared.data_type.DataType.{DataType}
use Rattle.columns_core.specs.declared.error.Error.{Error}
use Rattle.parquet_base.specs.Reading.{◌>>=◌}
use Rattle.parquet_base.specs.Intervals.{is_well_shaped, overlaps, row_count, rows_in_page, rows_of}
use Rattle.parquet_base.specs.Pieces.{cut}
use Rattle.parquet_base.specs.declared.interval.Interval.{Interval}
use Rattle.parquet_base.proofs.OverlapLemmas.{overlaps-shaped}
use Rattle.parquet_base.proofs.RowLemmas.{pages-share, rows_of-length}
use Rattle.parquet_base.proofs.ShapeLemmas.{shape-cons, shape-count}
use Rattle.parquet_meta.specs.Chunks.{chunk_causes, chunk_range, has_range}
use Rattle.parquet_meta.specs.Places.{place_end, bytes_at}
use Rattle.parquet_meta.specs.declared.metadata.ColumnChunkMetaData.{ColumnChunkMetaData}
use Rattle.parquet_meta.specs.declared.metadata.PageLocation.{PageLocation}
use Rattle.parquet_meta.specs.declared.metadata.Place.{Place}
use Rattle.parquet_meta.specs.declared.metadata.PrimitiveType.{PrimitiveType}
use Rattle.parquet_meta.specs.declared.metadata.RowGroupMetaData.{RowGroupMetaData}
use Rattle.parquet_page.specs.Chunk.{ChunkPage, Dictionary, NoDictionary, Undefined}
use Rattle.parquet_page.specs.Lent.{Lent, are_well_shaped, is_wanted, located_parts, selected_count, wanted_page}
use Rattle.parquet_page.specs.Located.{dictionary_in, located_dictionary, page_in}
use Rattle.parquet_page.specs.Locations.{has_shape, selected_pages}
use Rattle.parquet_page.specs.declared.page.FilteredPage.{FilteredPage}
use Rattle.parquet_encoding.proofs.StepLemmas.{given_some}
use Rattle.parquet_page.proofs.SelectionLemmas.{pages-length}
use Rattle.page_decoding.specs.Bytes.{IsCausedByChunks, cell_bytes, fits_most}
use Rattle.page_decoding.specs.Outcome.{Outcome, Given, causes_in}
use Rattle.page_decoding.specs.Queue.{IsChunkSize}
use Rattle.page_decoding.proofs.NextLemmas.{given-whole, nothing_wrong}
use Rattle.flat_values.specs.Conversion.{Conversion, Item, Value}
use Rattle.flat_values.specs.MostBytes.{most_bytes}
use Rattle.flat_values.specs.Pairs.{conversion}
use Rattle.parquet_scan.specs.Causes.{causes_of_chunk, causes_of_dictionary, causes_of_found, causes_of_opened, chunk_read_causes, given_causes, located_causes, opened_located, pair_causes, row_causes}
use Rattle.parquet_scan.specs.Cells.{Reading, chunk_of, dictionary_before, item_at, item_located, located_item, located_pages, located_reading, named_page}
use Rattle.parquet_scan.specs.Costs.{with_dictionary_page}
use Rattle.parquet_scan.specs.Decoded.{column_rows, pages_by, pages_for, rows_by}
use Rattle.parquet_scan.specs.Located.{entry_causes, entry_part, entry_place, part_causes, part_in, place_before}
use Rattle.parquet_scan.specs.Pages.{location_rows, locations, locations_causes, rows_at}
use Rattle.parquet_scan.proofs.CauseLemmas.{ComesFrom, one_cases, then_next}
use Rattle.parquet_scan.proofs.CellLemmas.{causes_if_there, nothing_given, rows_caused, same_cells, tells_of_rows}
use Rattle.parquet_scan.proofs.LocatedLemmas.{AreEntries, IsSomePart, are_entries, causes_of_parts, cells_as, chunk_length, found, is_shaped_part, items_of_parts, located_given, located_short, located_wrong, named_are, none_some, opened_are, pages_of, pages_there, part_inside, part_items, part_outside, parts_items}
use Rattle.parquet_scan.proofs.ScanLemmas.{in_filtered}
use Rattle.parquet_scan.proofs.LocationLemmas.{HaveRows, have_rows, selection_is}
use Rattle.page_decoding.proofs.RowLemmas.{one_of-left, one_of-right}
use Rattle.parquet_scan.proofs.PageLemmas.{pair_rule}
use Rattle.parquet_scan.proofs.PieceLemmas.{AreUnder, cut-lengths, given-cut, pieces-as}

-- ---- a chunk lies in its file

pub chunk_fits : (bytes : List ℕ) (group : RowGroupMetaData) (column : ColumnChunkMetaData) (chunk : Place) → chunk_of bytes group column ≡ Some chunk → place_end chunk ≤ length bytes
chunk_fits bytes group column chunk e = by (is_empty (chunk_causes column) && has_range (length bytes) group.num_rows column) refl e where
  by : (b : Bool) → (is_empty (chunk_causes column) && has_range (length bytes) group.num_rows column) ≡ b → (if b then Some (chunk_range column) else None) ≡ Some chunk → place_end chunk ≤ length bytes
  by true fits e =
      let within = (and_parts (nat_le (place_end (chunk_range column)) (length bytes)) _ (and_parts (is_empty (chunk_causes column)) (has_range (length bytes) group.num_rows column) fits).1).0 in
      subst (λ (place : Place). place_end place ≤ length bytes) (given_some true (chunk_range column) chunk e).1 (leb-true (place_end (chunk_range column)) (length bytes) within)
  by false fits e = absurd cc

-- ---- the dictionary is in the part before the first page

dictionary_by_part : (bytes : List ℕ) (chunk : Place) (k : ℕ) → place_end chunk ≤ length bytes
    → located_dictionary (bytes_at bytes chunk) k ≡ option_map_or dictionary_in (part_in bytes chunk (record { offset = chunk.offset; length = k })) Undefined
dictionary_by_part bytes chunk k fits = by (nat_le k chunk.length) refl where
  by : (b : Bool) → nat_le k chunk.length ≡ b → located_dictionary (bytes_at bytes chunk) k ≡ option_map_or dictionary_in (part_in bytes chunk (record { offset = chunk.offset; length = k })) Undefined
  by true e =
      let less = leb-true k chunk.length e in
      let there : nat_le k (length (bytes_at bytes chunk)) ≡ true = le-leb _ _ (omega (arith, less, chunk_length bytes chunk fits)) in
      let high : nat_le (chunk.offset + k) (place_end chunk) ≡ true = le-leb _ _ (omega (arith, less)) in
      ap (λ b. if b then dictionary_in (take k (bytes_at bytes chunk)) else Undefined) there
      ∙ ap dictionary_in (take-take k chunk.length (drop chunk.offset bytes) less)
      ∙ sym (ap (λ o. option_map_or dictionary_in o Undefined) (part_inside bytes chunk (record { offset = chunk.offset; length = k }) fits (le-leb chunk.offset chunk.offset (omega arith)) high))
  by false e =
      let more = leb-false k chunk.length e in
      let past : nat_le k (length (bytes_at bytes chunk)) ≡ false = lt-leb _ _ (omega (arith, more, chunk_length bytes chunk fits)) in
      let high : nat_le (chunk.offset + k) (place_end chunk) ≡ false = lt-leb _ _ (omega (arith, more)) in
      ap (λ b. if b then dictionary_in (take k (bytes_at bytes chunk)) else Undefined) past
      ∙ sym (ap (λ o. option_map_or dictionary_in o Undefined) (part_outside bytes chunk (record { offset = chunk.offset; length = k }) (le-leb chunk.offset chunk.offset (omega arith)) high))

-- the dictionary of entries, by the part before them
abbrev pub dictionary_of : List ℕ → Place → List FilteredPage → Dictionary
dictionary_of bytes chunk entries = option_map_or dictionary_in (part_in bytes chunk (place_before chunk entries)) Undefined

dictionary_is : (bytes : List ℕ) (chunk : Place) (intervals : List Interval) (locations : List PageLocation) (rows : List Interval) (entry : FilteredPage) (entries : List FilteredPage) → place_end chunk ≤ length bytes
    → AreEntries intervals locations rows (entry ∷ entries) → dictionary_before chunk.offset (bytes_at bytes chunk) locations ≡ dictionary_of bytes chunk (entry ∷ entries)
dictionary_is bytes chunk intervals [] [] entry entries fits are = absurd are
dictionary_is bytes chunk intervals [] (rows ∷ others) entry entries fits are = absurd are
dictionary_is bytes chunk intervals (location ∷ locations) [] entry entries fits are = absurd are
dictionary_is bytes chunk intervals (location ∷ locations) (rows ∷ others) entry entries fits are =
    ap (λ o. option_map_or (located_dictionary (bytes_at bytes chunk)) (option_map (λ (part : Place). part.offset - chunk.offset) o) Undefined) are.0.part
    ∙ dictionary_by_part bytes chunk (entry.start - chunk.offset) fits

-- ---- what is wrong with what is opened

-- how the pages of entries are read: with the dictionary in the part before them
abbrev pub reading_of : List ℕ → PrimitiveType → DataType → Place → List FilteredPage → Reading
reading_of bytes stored data_type chunk entries = record { stored = stored; dictionary = dictionary_of bytes chunk entries; data_type = data_type }

-- the pages of wanted entries and the dictionary before all of them
abbrev pub opened_by : List ℕ → Reading → Place → List FilteredPage → List Cause
opened_by bytes reading chunk entries = causes_of_opened reading (map (found bytes chunk) (filter is_wanted entries))

-- where no page is opened, no dictionary is
pub same_opened : (one other : Reading) (pages : List (Option ChunkPage)) → (0 < length pages → one ≡ other) → causes_of_opened one pages ≡ causes_of_opened other pages
same_opened one other [] same = refl
same_opened one other (page ∷ pages) same = ap (λ reading. causes_of_opened reading (page ∷ pages)) (same (omega arith))

same_items : (one other : Reading) (wanted : List FilteredPage) (bodies : List (List ℕ)) → (0 < length wanted → one ≡ other) → parts_items one (zip wanted bodies) ≡ parts_items other (zip wanted bodies)
same_items one other [] bodies same = refl
same_items one other (entry ∷ wanted) bodies same = ap (λ reading. parts_items reading (zip (entry ∷ wanted) bodies)) (same (omega arith))

-- a chunk, the locations of its pages and what is selected of them
pub record IsSelected (group : RowGroupMetaData) (intervals : List Interval) (locations : List PageLocation) (entries : List FilteredPage) : Type 0 where
  pub shape : has_shape locations group.num_rows ≡ true
  pub are : selected_pages intervals locations group.num_rows ≡ Some entries

pub rows_of_selected : (group : RowGroupMetaData) (intervals : List Interval) (locations : List PageLocation) (entries : List FilteredPage) (selected : IsSelected group intervals locations entries)
    → let have = have_rows locations group.num_rows selected.shape in AreEntries intervals locations (have.first ∷ have.others) entries
rows_of_selected group intervals locations entries selected =
    let have = have_rows locations group.num_rows selected.shape in
    are_entries intervals locations (have.first ∷ have.others) entries (pages-length locations group.num_rows (have.first ∷ have.others) have.are) (sym (selection_is intervals locations group.num_rows have) ∙ selected.are)

module _ (group : RowGroupMetaData) (column : ColumnChunkMetaData) (data_type : DataType) (intervals : List Interval) (chunk : Place) (given_locations : List PageLocation) (entries : List FilteredPage) (selected : IsSelected group intervals given_locations entries) where
  abbrev have : HaveRows given_locations group.num_rows
  have = have_rows given_locations group.num_rows selected.shape

  abbrev are_named : AreEntries intervals given_locations (have.first ∷ have.others) entries
  are_named = rows_of_selected group intervals given_locations entries selected

  abbrev reading : List ℕ → Reading
  reading bytes = reading_of bytes column.descriptor.primitive_type data_type chunk entries

  -- the located pages are those of the entries
  pages_are : (bytes : List ℕ) → chunk_of bytes group column ≡ Some chunk → locations bytes column ≡ given_locations
      → located_pages bytes group column ≡ zip (have.first ∷ have.others) (map (found bytes chunk) entries)
  pages_are bytes placed told =
      ap (λ o. option_map_or (λ place. map (named_page place (bytes_at bytes place)) (zip (location_rows bytes group column) (locations bytes column))) o []) placed
      ∙ ap (λ found. map (named_page chunk (bytes_at bytes chunk)) (zip (rows_at found group.num_rows) found)) told
      ∙ ap (λ rows. map (named_page chunk (bytes_at bytes chunk)) (zip rows given_locations)) (ap (λ o. unwrap_or o []) have.are)
      ∙ named_are bytes chunk intervals given_locations (have.first ∷ have.others) entries (chunk_fits bytes group column chunk placed) are_named

  -- and they are read as the entries are
  pub reading_is : (bytes : List ℕ) → chunk_of bytes group column ≡ Some chunk → locations bytes column ≡ given_locations → located_reading bytes group data_type column ≡ reading bytes
  reading_is bytes placed told =
      ap (λ dictionary. record { stored = column.descriptor.primitive_type; dictionary = dictionary; data_type = data_type })
      (ap (λ o. option_map_or (λ place. dictionary_before place.offset (bytes_at bytes place) (locations bytes column)) o NoDictionary) placed
      ∙ ap (dictionary_before chunk.offset (bytes_at bytes chunk)) told
      ∙ by entries are_named) where
        by : (entries : List FilteredPage) → AreEntries intervals given_locations (have.first ∷ have.others) entries → dictionary_before chunk.offset (bytes_at bytes chunk) given_locations ≡ dictionary_of bytes chunk entries
        by [] are = absurd (no_entries given_locations have.first have.others are) where
          no_entries : (locations : List PageLocation) (rows : Interval) (others : List Interval) → AreEntries intervals locations (rows ∷ others) [] → ⊥
          no_entries [] rows others are = are
          no_entries (location ∷ locations) rows others are = are
        by (entry ∷ entries) are = dictionary_is bytes chunk intervals given_locations (have.first ∷ have.others) entry entries (chunk_fits bytes group column chunk placed) are

  causes_at : (size : Option ℕ) (bytes : List ℕ) → chunk_causes column ≡ [] → chunk_of bytes group column ≡ Some chunk → locations bytes column ≡ given_locations
      → causes_of_chunk true size bytes group (rows_of intervals) data_type column
      ≡ opened_by bytes (reading bytes) chunk entries ++ given_causes size data_type (located_item bytes group data_type column) (rows_of intervals)
  causes_at size bytes none placed told =
      let items = given_causes size data_type (located_item bytes group data_type column) (rows_of intervals) in
      then_next (chunk_causes column) _ none
      ∙ ap (λ o. option_map_or (λ place. located_causes size bytes group (rows_of intervals) data_type column) o (ExternalFormat ∷ [])) placed
      ∙ then_next (locations_causes bytes group column) _ (ap (λ found. unless (has_shape found group.num_rows) ExternalFormat) told ∙ ap (λ b. unless b ExternalFormat) selected.shape)
      ∙ (λ i. causes_of_opened (reading_is bytes placed told i) (opened_located (rows_of intervals) (pages_are bytes placed told i)) ++ items)
      ∙ ap (λ pages. causes_of_opened (reading bytes) pages ++ items) (opened_are bytes chunk intervals given_locations (have.first ∷ have.others) entries are_named)

  pub told_causes : (size : Option ℕ) (told : Option (List ℕ)) → chunk_causes column ≡ [] → IfSome told (λ bytes. chunk_of bytes group column ≡ Some chunk) → IfSome told (λ bytes. locations bytes column ≡ given_locations)
      → IfSome told (λ bytes. causes_of_chunk true size bytes group (rows_of intervals) data_type column
      ≡ opened_by bytes (reading bytes) chunk entries ++ given_causes size data_type (located_item bytes group data_type column) (rows_of intervals))
  told_causes size None none placed told = tt
  told_causes size (Some bytes) none placed told = causes_at size bytes none placed told

  -- the items of the selected rows are those of the parts
  items_at : (bytes : List ℕ) (bodies : List (List ℕ)) → is_well_shaped intervals group.num_rows ≡ true → chunk_of bytes group column ≡ Some chunk → locations bytes column ≡ given_locations
      → map (entry_part bytes chunk) (filter is_wanted entries) ≡ map Some bodies
      → map (located_item bytes group data_type column) (rows_of intervals) ≡ parts_items (reading bytes) (zip (filter is_wanted entries) bodies)
  items_at bytes bodies shaped placed told parts =
      (λ i. map (item_located (reading_is bytes placed told i) (pages_are bytes placed told i)) (rows_of intervals))
      ∙ ap (map (item_located (reading bytes) (zip (have.first ∷ have.others) (map (found bytes chunk) entries)))) (sym (pages-share 0 (have.first ∷ have.others) intervals group.num_rows have.adjacent shaped))
      ∙ items_of_parts bytes chunk intervals (reading bytes) group.num_rows shaped 0 given_locations (have.first ∷ have.others) entries have.adjacent are_named bodies parts

-- ---- the causes of each part are among them

flat_more : {X : Type 0} (f g : X → List Cause) (xs : List X) (o : Option Cause) → ((x : X) → IsOneOf (f x) o → IsOneOf (g x) o) → IsOneOf (flat_map f xs) o → IsOneOf (flat_map g xs) o
flat_more f g [] o more one = one
flat_more f g (x ∷ xs) o more one = elim (one_cases (f x) (flat_map f xs) o one) [
  | inl first ↦ one_of-left (g x) (flat_map g xs) o (more x first)
  | inr rest ↦ one_of-right (g x) (flat_map g xs) o (flat_more f g xs o more rest)
]

flat_mapped : {X Y : Type 0} (g : Y → List Cause) (f : X → Y) (xs : List X) → flat_map (λ x. g (f x)) xs ≡ flat_map g (map f xs)
flat_mapped g f [] = refl
flat_mapped g f (x ∷ xs) = ap (λ rest. g (f x) ++ rest) (flat_mapped g f xs)

in_opened : (reading : Reading) (pages : List (Option ChunkPage)) (o : Option Cause) → IsOneOf (flat_map (causes_of_found reading) pages) o → IsOneOf (causes_of_opened reading pages) o
in_opened reading [] o one = one
in_opened reading (page ∷ pages) o one = one_of-right (causes_of_dictionary reading reading.dictionary) (flat_map (causes_of_found reading) (page ∷ pages)) o one

entry_in : (bytes : List ℕ) (reading : Reading) (chunk : Place) (entry : FilteredPage) (o : Option Cause) → IsOneOf (entry_causes bytes chunk entry) o → IsOneOf (causes_of_found reading (found bytes chunk entry)) o
entry_in bytes reading chunk entry o one = by (entry_part bytes chunk entry) one where
  by : (part : Option (List ℕ)) → IsOneOf (unless (is_some part) ExternalFormat) o → IsOneOf (causes_of_found reading (part >>= λ body. page_in body entry.num_rows)) o
  by None one = one
  by (Some body) one = absurd (nothing_wrong o one)

pub bodies_in : (bytes : List ℕ) (reading : Reading) (chunk : Place) (entries : List FilteredPage) (o : Option Cause) → IsOneOf (flat_map (entry_causes bytes chunk) (filter is_wanted entries)) o → IsOneOf (opened_by bytes reading chunk entries) o
bodies_in bytes reading chunk entries o one =
    let pages = flat_more (entry_causes bytes chunk) (λ entry. causes_of_found reading (found bytes chunk entry)) (filter is_wanted entries) o (λ entry. entry_in bytes reading chunk entry o) one in
    in_opened reading (map (found bytes chunk) (filter is_wanted entries)) o
    (subst (λ causes. IsOneOf causes o) (flat_mapped (causes_of_found reading) (found bytes chunk) (filter is_wanted entries)) pages)

abbrev pub before_causes : List ℕ → Place → List FilteredPage → Bool → List Cause
before_causes bytes chunk entries wanted = if wanted then part_causes bytes chunk (place_before chunk entries) else []

damaged_before : (stored : PrimitiveType) (data_type : DataType) (part : Option (List ℕ)) (pages : List (Option ChunkPage)) (o : Option Cause) → 0 < length pages → IsOneOf (unless (is_some part) ExternalFormat) o
    → IsOneOf (causes_of_opened (record { stored = stored; dictionary = option_map_or dictionary_in part Undefined; data_type = data_type }) pages) o
damaged_before stored data_type part [] o some one = absurd (omega (arith, some))
damaged_before stored data_type None (page ∷ pages) o some one =
    one_of-left (ExternalFormat ∷ []) (flat_map (causes_of_found (record { stored = stored; dictionary = Undefined; data_type = data_type })) (page ∷ pages)) o one
damaged_before stored data_type (Some body) (page ∷ pages) o some one = absurd (nothing_wrong o one)

pub before_in : (bytes : List ℕ) (stored : PrimitiveType) (data_type : DataType) (chunk : Place) (entries : List FilteredPage) (wanted : Bool) (o : Option Cause) → (wanted ≡ true → 0 < length (filter is_wanted entries))
    → IsOneOf (before_causes bytes chunk entries wanted) o → IsOneOf (opened_by bytes (reading_of bytes stored data_type chunk entries) chunk entries) o
before_in bytes stored data_type chunk entries false o some one = absurd (nothing_wrong o one)
before_in bytes stored data_type chunk entries true o some one =
    damaged_before stored data_type (part_in bytes chunk (place_before chunk entries)) (map (found bytes chunk) (filter is_wanted entries)) o (omega (arith, some refl, length-map (filter is_wanted entries) (found bytes chunk))) one

-- the parts of a chunk that were read: of the wanted entries, and where there is one, of what stands before all of them
pub record AreParts (bytes : List ℕ) (chunk : Place) (entries : List FilteredPage) (before : List ℕ) (bodies : List (List ℕ)) : Type 0 where
  pub each : map (entry_part bytes chunk) (filter is_wanted entries) ≡ map Some bodies
  pub first : 0 < length (filter is_wanted entries) → part_in bytes chunk (place_before chunk entries) ≡ Some before

-- ---- how many rows are selected

sum_entries : (intervals : List Interval) (locations : List PageLocation) (rows : List Interval) (entries : List FilteredPage) → AreEntries intervals locations rows entries
    → selected_count entries ≡ sum_by (λ page. length (rows_in_page page intervals)) rows
sum_entries intervals [] [] [] are = refl
sum_entries intervals [] [] (entry ∷ entries) are = absurd are
sum_entries intervals [] (page ∷ rows) [] are = absurd are
sum_entries intervals [] (page ∷ rows) (entry ∷ entries) are = absurd are
sum_entries intervals (location ∷ locations) [] [] are = absurd are
sum_entries intervals (location ∷ locations) [] (entry ∷ entries) are = absurd are
sum_entries intervals (location ∷ locations) (page ∷ rows) [] are = absurd are
sum_entries intervals (location ∷ locations) (page ∷ rows) (entry ∷ entries) are =
    let own : row_count entry.selected_rows ≡ length (rows_in_page page intervals)
    = ap row_count are.0.selected ∙ sym (rows_of-length (overlaps page intervals)) ∙ sym (length-map (rows_of (overlaps page intervals)) (λ row. page.start + row)) in
    sum_by-cons (λ (entry : FilteredPage). row_count entry.selected_rows) entry entries
    ∙ (λ i. own i + sum_entries intervals locations rows entries are.1 i)
    ∙ sym (sum_by-cons (λ (page : Interval). length (rows_in_page page intervals)) page rows)

all_shaped : (intervals : List Interval) (num_rows : ℕ) (locations : List PageLocation) (rows : List Interval) (entries : List FilteredPage) → is_well_shaped intervals num_rows ≡ true → AreEntries intervals locations rows entries
    → list_all (λ (entry : FilteredPage). is_well_shaped entry.selected_rows entry.num_rows) entries ≡ true
all_shaped intervals num_rows [] [] [] shaped are = refl
all_shaped intervals num_rows [] [] (entry ∷ entries) shaped are = absurd are
all_shaped intervals num_rows [] (page ∷ rows) [] shaped are = absurd are
all_shaped intervals num_rows [] (page ∷ rows) (entry ∷ entries) shaped are = absurd are
all_shaped intervals num_rows (location ∷ locations) [] [] shaped are = absurd are
all_shaped intervals num_rows (location ∷ locations) [] (entry ∷ entries) shaped are = absurd are
all_shaped intervals num_rows (location ∷ locations) (page ∷ rows) [] shaped are = absurd are
all_shaped intervals num_rows (location ∷ locations) (page ∷ rows) (entry ∷ entries) shaped are =
    and_from _ _ ((λ i. is_well_shaped (are.0.selected i) (are.0.count i)) ∙ overlaps-shaped page intervals num_rows shaped) (all_shaped intervals num_rows locations rows entries shaped are.1)

module _ (group : RowGroupMetaData) (intervals : List Interval) (given_locations : List PageLocation) (entries : List FilteredPage) (selected : IsSelected group intervals given_locations entries) (shaped : is_well_shaped intervals group.num_rows ≡ true) where
  pub selected_total : selected_count entries ≡ length (rows_of intervals)
  selected_total =
      let have = have_rows given_locations group.num_rows selected.shape in
      sum_entries intervals given_locations (have.first ∷ have.others) entries (rows_of_selected group intervals given_locations entries selected)
      ∙ sym (length-flat_map (λ page. rows_in_page page intervals) (have.first ∷ have.others))
      ∙ ap length (pages-share 0 (have.first ∷ have.others) intervals group.num_rows have.adjacent shaped)

  pub entries_shaped : group.num_rows < 2 ^ 64 → are_well_shaped entries ≡ true
  entries_shaped fits =
      let have = have_rows given_locations group.num_rows selected.shape in
      and_from _ _ (all_shaped intervals group.num_rows given_locations (have.first ∷ have.others) entries shaped (rows_of_selected group intervals given_locations entries selected))
      (lt-ltb (selected_count entries) (2 ^ 64) (omega (arith, fits, selected_total, rows_of-length intervals, shape-count 0 intervals group.num_rows shaped)))

abbrev is_shaped_entry : FilteredPage → Bool
is_shaped_entry entry = is_well_shaped entry.selected_rows entry.num_rows

shaped_parts : (entries : List FilteredPage) (bodies : List (List ℕ)) → list_all is_shaped_entry entries ≡ true → list_all is_shaped_part (zip (filter is_wanted entries) bodies) ≡ true
shaped_parts [] bodies shaped = refl
shaped_parts (entry ∷ entries) bodies shaped =
    let each = and_parts (is_shaped_entry entry) (list_all is_shaped_entry entries) shaped in
    by (is_wanted entry) bodies each.0 (λ bodies. shaped_parts entries bodies each.1) where
      by : (b : Bool) (bodies : List (List ℕ)) → is_shaped_entry entry ≡ true → ((bodies : List (List ℕ)) → list_all is_shaped_part (zip (filter is_wanted entries) bodies) ≡ true)
          → list_all is_shaped_part (zip (cond b (entry ∷ filter is_wanted entries) (filter is_wanted entries)) bodies) ≡ true
      by false bodies own others = others bodies
      by true [] own others = refl
      by true (body ∷ bodies) own others = and_from _ _ own (others bodies)

-- well shaped runs have rows, where there is one
pub runs_some : (runs : List Interval) (rows : ℕ) → is_well_shaped runs rows ≡ true → 0 < length runs → 0 < length (rows_of runs)
runs_some [] rows shaped some = absurd (omega (arith, some))
runs_some (run ∷ runs) rows shaped some =
    let own = shape-cons 0 run runs rows shaped in
    omega (arith, own.some, rows_of-length (run ∷ runs), sum_by-cons (λ (run : Interval). run.length) run runs)

-- a row of each part is selected
some_rows : (entry : FilteredPage) → is_wanted entry ≡ true → is_shaped_entry entry ≡ true → 0 < length (rows_of entry.selected_rows)
some_rows entry wanted shaped = by entry.selected_rows wanted shaped where
  by : (runs : List Interval) → not (length runs == 0) ≡ true → is_well_shaped runs entry.num_rows ≡ true → 0 < length (rows_of runs)
  by [] wanted shaped = absurd cc
  by (run ∷ runs) wanted shaped = runs_some (run ∷ runs) entry.num_rows shaped (omega arith)

some_parts : (entries : List FilteredPage) (bodies : List (List ℕ)) → list_all is_shaped_entry entries ≡ true → AllByRecursion IsSomePart (zip (filter is_wanted entries) bodies)
some_parts [] bodies shaped = tt
some_parts (entry ∷ entries) bodies shaped =
    let each = and_parts (is_shaped_entry entry) (list_all is_shaped_entry entries) shaped in
    by (is_wanted entry) refl bodies each.0 (λ bodies. some_parts entries bodies each.1) where
      by : (b : Bool) → is_wanted entry ≡ b → (bodies : List (List ℕ)) → is_shaped_entry entry ≡ true → ((bodies : List (List ℕ)) → AllByRecursion IsSomePart (zip (filter is_wanted entries) bodies))
          → AllByRecursion IsSomePart (zip (cond b (entry ∷ filter is_wanted entries) (filter is_wanted entries)) bodies)
      by false unwanted bodies own others = others bodies
      by true wanted [] own others = tt
      by true wanted (body ∷ bodies) own others = (some_rows entry wanted own, others bodies)

-- there is an item for each row that is selected
parts_count : (own_reading : Reading) (entries : List FilteredPage) (bodies : List (List ℕ)) → length bodies ≡ length (filter is_wanted entries) → length (parts_items own_reading (zip (filter is_wanted entries) bodies)) ≡ selected_count entries
parts_count own_reading [] bodies counted = refl
parts_count own_reading (entry ∷ entries) bodies counted = by (is_wanted entry) refl bodies counted (parts_count own_reading entries) where
  all : selected_count (entry ∷ entries) ≡ row_count entry.selected_rows + selected_count entries
  all = sum_by-cons (λ (entry : FilteredPage). row_count entry.selected_rows) entry entries

  by : (b : Bool) → is_wanted entry ≡ b → (bodies : List (List ℕ)) → length bodies ≡ length (cond b (entry ∷ filter is_wanted entries) (filter is_wanted entries))
      → ((bodies : List (List ℕ)) → length bodies ≡ length (filter is_wanted entries) → length (parts_items own_reading (zip (filter is_wanted entries) bodies)) ≡ selected_count entries)
      → length (parts_items own_reading (zip (cond b (entry ∷ filter is_wanted entries) (filter is_wanted entries)) bodies)) ≡ selected_count (entry ∷ entries)
  by false unwanted bodies counted others =
      let none : row_count entry.selected_rows ≡ 0 = ap row_count (none_some entry.selected_rows unwanted) in
      omega (arith, all, none, others bodies counted)
  by true here [] counted others = absurd (omega (arith, counted))
  by true here (body ∷ bodies) counted others =
      let rest = zip (filter is_wanted entries) bodies in
      let own : length (part_items own_reading (entry, body)) ≡ row_count entry.selected_rows
      = length-map (rows_of entry.selected_rows) (λ row. option_and_then (item_at own_reading row) (wanted_page entry body)) ∙ rows_of-length entry.selected_rows in
      omega (arith, all, own, length-append (part_items own_reading (entry, body)) (parts_items own_reading rest), others bodies (omega (arith, counted)))

-- ---- what was read of a chunk

-- What was read: the locations of its pages, and of those that hold a selected row the parts, with the one before all of them.
pub record IsRead (told : Option (List ℕ)) (size : Option ℕ) (group : RowGroupMetaData) (column : ColumnChunkMetaData) (data_type : DataType) (intervals : List Interval) (chunk : Place)
    (list : List PageLocation) (entries : List FilteredPage) (before : List ℕ) (bodies : List (List ℕ)) : Type 0 where
  pub size_some : IsChunkSize size
  pub pair : pair_causes column.descriptor.primitive_type data_type ≡ []
  pub shaped : is_well_shaped intervals group.num_rows ≡ true
  pub none : chunk_causes column ≡ []
  pub selected : IsSelected group intervals list entries
  pub counted : length bodies ≡ length (filter is_wanted entries)
  pub placed : IfSome told (λ bytes. chunk_of bytes group column ≡ Some chunk)
  pub at : IfSome told (λ bytes. locations bytes column ≡ list)
  pub parts : IfSome told (λ bytes. AreParts bytes chunk entries before bodies)

module _ (size : Option ℕ) (group : RowGroupMetaData) (column : ColumnChunkMetaData) (data_type : DataType) (intervals : List Interval) (chunk : Place) (list : List PageLocation) (entries : List FilteredPage) (before : List ℕ) (bodies : List (List ℕ)) where
  abbrev stored : PrimitiveType
  stored = column.descriptor.primitive_type

  abbrev lent : Lent
  lent = located_parts stored (Some before) entries bodies

  -- the rows that are wanted of it
  abbrev pub wanted : List Outcome
  wanted = take (length (rows_of intervals)) (column_rows stored data_type lent.pages lent.causes)

  abbrev reading_before : Reading
  reading_before = record { stored = stored; dictionary = dictionary_in before; data_type = data_type }

  abbrev parts : List (FilteredPage × List ℕ)
  parts = zip (filter is_wanted entries) bodies

  abbrev WasRead : Option (List ℕ) → Type 0
  WasRead told = IsRead told size group column data_type intervals chunk list entries before bodies

  abbrev whole : List ℕ → List Cause
  whole bytes = causes_of_chunk true size bytes group (rows_of intervals) data_type column

  module _ (told : Option (List ℕ)) (read : WasRead told) where
    abbrev rule : (rule : Conversion) × (conversion stored data_type ≡ Some rule)
    rule = pair_rule stored data_type read.pair

    entries_are_shaped : list_all is_shaped_entry entries ≡ true
    entries_are_shaped =
        let have = have_rows list group.num_rows read.selected.shape in
        all_shaped intervals group.num_rows list (have.first ∷ have.others) entries read.shaped (rows_of_selected group intervals list entries read.selected)

    parts_shaped : list_all is_shaped_part parts ≡ true
    parts_shaped = shaped_parts entries bodies entries_are_shaped

    parts_some : AllByRecursion IsSomePart parts
    parts_some = some_parts entries bodies entries_are_shaped

    -- there is an item for each row that is selected
    total : length (parts_items reading_before parts) ≡ length (rows_of intervals)
    total = parts_count reading_before entries bodies read.counted ∙ selected_total group intervals list entries read.selected read.shaped

    -- all rows are wanted
    wanted_are : wanted ≡ rows_by data_type stored.physical_type lent.pages lent.causes rule.0
    wanted_are =
        let short = located_short reading_before rule.0 rule.1 parts parts_shaped parts_some in
        ap (λ o. take (length (rows_of intervals)) (option_map_or (rows_by data_type stored.physical_type lent.pages lent.causes) o [])) rule.1
        ∙ take_all (length (rows_of intervals)) (rows_by data_type stored.physical_type lent.pages lent.causes rule.0) (omega (arith, short.few, total))

    -- Nothing is wrong with what was opened of it, and the items of the parts are the cells of these pieces.
    record AreAllGiven (given : List (List Cell)) : Type 0 where
      cells : List Cell
      cut : given ≡ cut size cells
      none : causes_of_opened reading_before (pages_of parts) ≡ []
      items : parts_items reading_before parts ≡ cells_as cells
      pages : length (pages_for stored data_type (length (rows_of intervals)) lent.pages) ≡ with_dictionary_page (dictionary_in before) (length parts)

    all_given : (given : List (List Cell)) → map (map Given) given ≡ cut size wanted → AreAllGiven given
    all_given given e =
        let pieces = given-cut size wanted given read.size_some e in
        let same = pieces.rows ∙ wanted_are in
        let all = located_given reading_before rule.0 rule.1 parts parts_shaped parts_some (given-whole [] pieces.cells (rows_by data_type stored.physical_type lent.pages lent.causes rule.0) same) in
        let long : length (rows_of intervals) ≡ length all.cells = sym total ∙ ap length all.items ∙ length-map all.cells (λ cell. Some (Value cell)) in
        record {
          cells = pieces.cells;
          cut = pieces.cut;
          none = all.none;
          items = all.items ∙ ap cells_as (same_cells pieces.cells all.cells (same ∙ all.outcomes));
          pages = ap (λ o. length (option_map_or (pages_by data_type stored.physical_type (length (rows_of intervals)) lent.pages) o [])) rule.1
              ∙ ap (λ n. length (pages_by data_type stored.physical_type n lent.pages rule.0)) long ∙ all.lent_all;
        }

    -- there is a cell for each row that is selected
    pub read_count : (given : List (List Cell)) → map (map Given) given ≡ cut size wanted → map length given ≡ map length (cut size (rows_of intervals))
    read_count given e =
        let all = all_given given e in
        let long : length all.cells ≡ length (rows_of intervals) = sym (length-map all.cells (λ cell. Some (Value cell))) ∙ ap length (sym all.items) ∙ total in
        ap (map length) all.cut ∙ cut-lengths size all.cells (rows_of intervals) read.size_some long

    pub read_lent : (given : List (List Cell)) → map (map Given) given ≡ cut size wanted
        → length (pages_for stored data_type (length (rows_of intervals)) lent.pages) ≡ with_dictionary_page (dictionary_in before) (length parts)
    read_lent given e = (all_given given e).pages

  pub same_reading : (bytes : List ℕ) → AreParts bytes chunk entries before bodies → 0 < length (filter is_wanted entries) → reading_of bytes stored data_type chunk entries ≡ reading_before
  same_reading bytes are some = ap (λ o. record { stored = stored; dictionary = option_map_or dictionary_in o Undefined; data_type = data_type }) (are.first some)

  opened_is : (bytes : List ℕ) → AreParts bytes chunk entries before bodies → opened_by bytes (reading_of bytes stored data_type chunk entries) chunk entries ≡ causes_of_opened reading_before (pages_of parts)
  opened_is bytes are =
      same_opened (reading_of bytes stored data_type chunk entries) reading_before (map (found bytes chunk) (filter is_wanted entries))
      (λ some. same_reading bytes are (omega (arith, some, length-map (filter is_wanted entries) (found bytes chunk))))
      ∙ ap (causes_of_opened reading_before) (sym (pages_there bytes chunk (filter is_wanted entries) bodies are.each))

  items_are : (bytes : List ℕ) → WasRead (Some bytes) → map (located_item bytes group data_type column) (rows_of intervals) ≡ parts_items reading_before parts
  items_are bytes read =
      items_at group column data_type intervals chunk list entries read.selected bytes bodies read.shaped read.placed read.at read.parts.each
      ∙ same_items (reading_of bytes stored data_type chunk entries) reading_before (filter is_wanted entries) bodies (same_reading bytes read.parts)

  whole_is : (bytes : List ℕ) → WasRead (Some bytes) → whole bytes ≡ causes_of_opened reading_before (pages_of parts) ++ given_causes size data_type (located_item bytes group data_type column) (rows_of intervals)
  whole_is bytes read =
      causes_at group column data_type intervals chunk list entries read.selected size bytes read.none read.placed read.at
      ∙ ap (λ opened. opened ++ given_causes size data_type (located_item bytes group data_type column) (rows_of intervals)) (opened_is bytes read.parts)

  -- Where all rows are given and the bytes of each piece fit, nothing is wrong with what was read.
  pub read_fine : (told : Option (List ℕ)) → WasRead told → (given : List (List Cell)) → map (map Given) given ≡ cut size wanted
      → All (λ cells. fits_most (most_bytes data_type) (sum_by cell_bytes cells) ≡ true) given → IfSome told (λ bytes. whole bytes ≡ [])
  read_fine None read given e fit = tt
  read_fine (Some bytes) read given e fit =
      let all = all_given (Some bytes) read given e in
      whole_is bytes read
      ∙ (λ i. all.none i ++ nothing_given data_type (located_item bytes group data_type column) size (rows_of intervals) all.cells given all.cut (items_are bytes read ∙ all.items) fit i)

  pub read_items : (told : Option (List ℕ)) → WasRead told → (given : List (List Cell)) → map (map Given) given ≡ cut size wanted
      → IfSome told (λ bytes. map (map (λ cell. Some (Value cell))) given ≡ map (map (located_item bytes group data_type column)) (cut size (rows_of intervals)))
  read_items None read given e = tt
  read_items (Some bytes) read given e =
      let all = all_given (Some bytes) read given e in
      ap (map cells_as) all.cut ∙ sym (pieces-as (λ cell. Some (Value cell)) (located_item bytes group data_type column) size (rows_of intervals) all.cells (items_are bytes read ∙ all.items))

  -- What is wrong with the rows is wrong with what was read.
  pub read_tells : (told : Option (List ℕ)) → WasRead told → IfSome told (λ bytes. (error : Error) → IsCausedByChunks (most_bytes data_type) size wanted error → ComesFrom (whole bytes) error)
  read_tells None read = tt
  read_tells (Some bytes) read = λ error caused.
      let item = located_item bytes group data_type column in
      let rule = pair_rule stored data_type read.pair in
      let shaped = parts_shaped (Some bytes) read in
      let some = parts_some (Some bytes) read in
      let under : AreUnder wanted (map item (rows_of intervals)) = (let P : List Outcome → List (Option Item) → Type 0 = λ outcomes items. AreUnder outcomes items in
      subst (λ outcomes. P outcomes (map item (rows_of intervals))) (sym (wanted_are (Some bytes) read))
      (subst (P (rows_by data_type stored.physical_type lent.pages lent.causes rule.0)) (sym (items_are bytes read)) (located_short reading_before rule.0 rule.1 parts shaped some).under)) in
      let items : causes_of_parts reading_before parts ≡ row_causes item (rows_of intervals) = ap (flat_map causes_if_there) (sym (items_are bytes read)) ∙ sym (rows_caused item (rows_of intervals)) in
      let among : (o : Option Cause) → IsOneOf (causes_in wanted) o → IsOneOf (causes_of_opened reading_before (pages_of parts) ++ row_causes item (rows_of intervals)) o
      = λ o one. subst (λ causes. IsOneOf (causes_of_opened reading_before (pages_of parts) ++ causes) o) items
      (located_wrong reading_before rule.0 rule.1 parts shaped o (subst (λ rows. IsOneOf (causes_in rows) o) (wanted_are (Some bytes) read) one)) in
      subst (λ causes. ComesFrom causes error) (sym (whole_is bytes read))
      (tells_of_rows data_type item size (rows_of intervals) wanted (causes_of_opened reading_before (pages_of parts)) error read.size_some under among caused)

-- ---- where the source tells its bytes

then_more : (first xs ys : List Cause) (o : Option Cause) → (IsOneOf xs o → IsOneOf ys o) → IsOneOf (and_then first xs) o → IsOneOf (and_then first ys) o
then_more [] xs ys o more one = more one
then_more (cause ∷ causes) xs ys o more one = one

-- what is wrong with a chunk before its pages are looked at is wrong with it
pub read_in : (told : Option (List ℕ)) (size : Option ℕ) (group : RowGroupMetaData) (column : ColumnChunkMetaData) (data_type : DataType) (rows : List ℕ)
    → IfSome told (λ bytes. (o : Option Cause) → IsOneOf (chunk_read_causes bytes group column) o → IsOneOf (causes_of_chunk true size bytes group rows data_type column) o)
read_in None size group column data_type rows = tt
read_in (Some bytes) size group column data_type rows = λ o one. then_more (chunk_causes column) _ _ o (by (chunk_of bytes group column) o) one where
  by : (place : Option Place) (o : Option Cause) → IsOneOf (unless (is_some place) ExternalFormat) o → IsOneOf (option_map_or (λ place. located_causes size bytes group rows data_type column) place (ExternalFormat ∷ [])) o
  by None o one = one
  by (Some place) o one = absurd (nothing_wrong o one)

-- what is wrong with a part of what is opened
pub within_opened : (told : Option (List ℕ)) (whole opened items part : List ℕ → List Cause) → IfSome told (λ bytes. whole bytes ≡ opened bytes ++ items bytes)
    → ((bytes : List ℕ) (o : Option Cause) → IsOneOf (part bytes) o → IsOneOf (opened bytes) o) → IfSome told (λ bytes. (o : Option Cause) → IsOneOf (part bytes) o → IsOneOf (whole bytes) o)
within_opened None whole opened items part same more = tt
within_opened (Some bytes) whole opened items part same more = λ o one. subst (λ causes. IsOneOf causes o) (sym same) (one_of-left (opened bytes) (items bytes) o (more bytes o one))

pub told_parts : {X : Type 0} (told : Option (List ℕ)) (chunk : Place) (entries : List FilteredPage) (before : List ℕ) (items : X → List ℕ) (bodies : List X)
    → IfSome told (λ bytes. map (entry_part bytes chunk) (filter is_wanted entries) ≡ map (λ body. Some (items body)) bodies)
    → (0 < length (filter is_wanted entries) → IfSome told (λ bytes. part_in bytes chunk (place_before chunk entries) ≡ Some before))
    → IfSome told (λ bytes. AreParts bytes chunk entries before (map items bodies))
told_parts None chunk entries before items bodies each first = tt
told_parts (Some bytes) chunk entries before items bodies each first = record { each = each ∙ sym (map-map Some items bodies); first = first }

-- what is wrong with the part of a wanted page is wrong with those of all
pub entry_within : (told : Option (List ℕ)) (chunk : Place) (pages : List FilteredPage) (i : ℕ) (page : FilteredPage) (part : Place) → i < length pages → page ≡ get_or pages i page → is_wanted page ≡ true → part ≡ entry_place page
    → IfSome told (λ bytes. (o : Option Cause) → IsOneOf (part_causes bytes chunk part) o → IsOneOf (flat_map (entry_causes bytes chunk) (filter is_wanted pages)) o)
entry_within None chunk pages i page part h at passes is = tt
entry_within (Some bytes) chunk pages i page part h at passes is = λ o one.
    let own : IsOneOf (entry_causes bytes chunk page) o = subst (λ part. IsOneOf (part_causes bytes chunk part) o) is one in
    in_filtered (Some bytes) (λ bytes. entry_causes bytes chunk) is_wanted pages i page h (sym (ap is_wanted at) ∙ passes) o (subst (λ page. IsOneOf (entry_causes bytes chunk page) o) at own)
