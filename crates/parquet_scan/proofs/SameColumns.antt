-- Columns of two files that have the same bytes where they are looked at.
use Rattle.std.proofs.Common.{◌≡◌, ℕ, ◌+◌, ◌-◌, ◌<◌, ◌≤◌, min, max, Bool, true, false, cond, List, [], ◌∷◌, ◌++◌, length, map, take, drop, Option, Some, None, refl, sym, subst, ◌∙◌, ap, arith, inl, inr}
use Rattle.std.specs.Prelude.{IfSome, filter, find, flat_map, is_some, zip, nat_le, nat_lt, ◌==◌, ◌&&◌, ◌||◌, option_and_then, unwrap_or, if◌then◌else◌}
use Rattle.std.specs.List.{AllByRecursion, list_all, list_any, range_with_len}
use Rattle.std.specs.Option.{option_map_or}
use Rattle.std.proofs.lemmas.Bool.{and_parts, cases_lt, leb-true, ltb-true, or_right, true≢false}
use Rattle.std.proofs.lemmas.List.{length-map, length-take, take-take, take_all}
use Rattle.columns_core.specs.Causes.{Cause, ExternalFormat, NotYetImplemented, and_then, unless}
use Rattle.columns_core.specs.declared.cell.Cell.{Cell, Null}
use Rattle.columns_core.specs.declared.data_type.DataType.{DataType}
use Rattle.columns_core.specs.declared.data_type.Field.{Field}
use Rattle.parquet_base.specs.Intervals.{holds}
use Rattle.parquet_base.proofs.SegmentLemmas.{holds_inside}
use Rattle.parquet_base.specs.Reading.{◌>>=◌, given}
use Rattle.parquet_base.specs.declared.interval.Interval.{Interval}
use Rattle.parquet_meta.specs.Chunks.{chunk_causes, chunk_place}
use Rattle.parquet_meta.specs.Indexes.{index_at, index_in, locations_at, type_of}
use Rattle.parquet_meta.specs.OffsetIndex.{locations_in}
use Rattle.parquet_meta.specs.Places.{place_end, bytes_at, lies_in, part_at, within}
use Rattle.parquet_meta.specs.declared.metadata.ColumnChunkMetaData.{ColumnChunkMetaData}
use Rattle.parquet_meta.specs.declared.metadata.Index.{Index}
use Rattle.parquet_meta.specs.declared.metadata.PageLocation.{PageLocation}
use Rattle.parquet_meta.specs.declared.metadata.PhysicalType.{PhysicalType}
use Rattle.parquet_meta.specs.declared.metadata.Place.{Place}
use Rattle.parquet_meta.specs.declared.metadata.PrimitiveType.{PrimitiveType}
use Rattle.parquet_meta.specs.declared.metadata.RowGroupMetaData.{RowGroupMetaData}
use Rattle.parquet_page.specs.Chunk.{ChunkPage, Dictionary, DictionaryPage, NoDictionary, Undefined, chunk_dictionary, dictionary_at, if_defined, pages_of_chunk}
use Rattle.parquet_page.specs.Located.{dictionary_in, located_dictionary, page_in}
use Rattle.parquet_page.specs.Locations.{has_shape, located, part_of}
use Rattle.parquet_page.proofs.HeaderLemmas.{dictionary_measured}
use Rattle.flat_values.specs.Conversion.{Item, Value}
use Rattle.column_ends.specs.Converted.{as_cell, causes_of_index, index_cells, index_rule}
use Rattle.parquet_scan.specs.declared.bound.Bound.{Bound}
use Rattle.parquet_scan.specs.Bound.{KnownEnds}
use Rattle.parquet_scan.specs.Causes.{causes_of_chunk, causes_of_column, causes_of_opened, causes_of_walk, chunk_read_causes, holds_any, index_causes_of_bound, index_causes_of_group, is_opened, located_causes, offset_causes_of_field, opened_located, pair_causes, walked_causes}
use Rattle.parquet_scan.specs.Cells.{Reading, dictionary_by_locations, chunk_of, dictionary_before, first_location, given_cell, is_null_type, item_among, item_at, item_located, located_item, located_pages, located_reading, named_page, walked_item, walked_reading}
use Rattle.parquet_scan.specs.Costs.{names_some, opened_locations}
use Rattle.parquet_scan.specs.LookedAt.{AgreeAt, AgreeOn, bound_parts, chunk_parts, column_parts, dictionary_length, dictionary_part, front_of_part, index_parts_of_group, parts_by_locations, offset_parts, part_in_chunk, parts_if, walked_length, walked_parts, with_dictionary}
use Rattle.parquet_scan.specs.Pages.{column_index_causes, count_causes, ends_of_page, location_rows, locations, locations_causes, rows_at}
use Rattle.parquet_scan.specs.Request.{Request, bound_type, bounded_field}
use Rattle.parquet_scan.specs.Rows.{bound_keeps, column_named, keeps_row, row_keeps}
use Rattle.parquet_scan.proofs.CellLemmas.{same_given}
use Rattle.parquet_scan.proofs.LocatedLemmas.{any_row, chunk_length, located_by, page_there}
use Rattle.parquet_scan.proofs.PruningLemmas.{typed_by}
use Rattle.parquet_scan.proofs.OpenedLemmas.{chunk_fits, same_opened}
use Rattle.parquet_scan.proofs.SameWalk.{IsSameWalk, over, same_dictionary, shorter, walk_alike}

-- ---- files that agree on several parts

pub agree_split : (first second : List ℕ) (xs ys : List Place) → AgreeOn first second (xs ++ ys) → AgreeOn first second xs × AgreeOn first second ys
agree_split first second [] ys h = (tt, h)
agree_split first second (x ∷ xs) ys h = let rest = agree_split first second xs ys h.1 in ((h.0, rest.0), rest.1)

-- what is so of each item is so of all
pub same_flat : {X Z : Type 0} (first second : List ℕ) (parts : X → List Place) (f g : X → List Z) (xs : List X) → ((x : X) → AgreeOn first second (parts x) → f x ≡ g x) → AgreeOn first second (flat_map parts xs) → flat_map f xs ≡ flat_map g xs
same_flat first second parts f g [] each h = refl
same_flat first second parts f g (x ∷ xs) each h =
    let both = agree_split first second (parts x) (flat_map parts xs) h in
    λ i. each x both.0 i ++ same_flat first second parts f g xs each both.1 i

pub same_all : {X : Type 0} (first second : List ℕ) (parts : X → List Place) (f g : X → Bool) (xs : List X) → ((x : X) → AgreeOn first second (parts x) → f x ≡ g x) → AgreeOn first second (flat_map parts xs) → list_all f xs ≡ list_all g xs
same_all first second parts f g [] each h = refl
same_all first second parts f g (x ∷ xs) each h =
    let both = agree_split first second (parts x) (flat_map parts xs) h in
    λ i. each x both.0 i && same_all first second parts f g xs each both.1 i

-- ---- a page in its chunk

within_is : (outer part : Place) → lies_in outer part ≡ true → within outer part ≡ part
within_is outer part lies =
    let both = and_parts (nat_le outer.offset part.offset) (nat_le (place_end part) (place_end outer)) lies in
    let low = leb-true outer.offset part.offset both.0 in
    let high = leb-true (place_end part) (place_end outer) both.1 in
    let start : max outer.offset part.offset ≡ part.offset = omega (arith, low) in
    let size : min (place_end outer) (place_end part) - max outer.offset part.offset ≡ part.length = omega (arith, low, high) in
    λ i. record { offset = start i; length = size i }

-- ---- items of rows

-- the pages of named rows, each by what names it
abbrev pages_by : (Interval × PageLocation → Option ChunkPage) → List (Interval × PageLocation) → List (Interval × Option ChunkPage)
pages_by page named = map (λ (named : Interval × PageLocation). (named.0, page named)) named

opened_by : (rows : List ℕ) (page : Interval × PageLocation → Option ChunkPage) (named : List (Interval × PageLocation)) → opened_located rows (pages_by page named) ≡ map page (filter (names_some rows) named)
opened_by rows page [] = refl
opened_by rows page (first ∷ others) = by (holds_any rows first.0) (opened_by rows page others) where
  by : (b : Bool) → opened_located rows (pages_by page others) ≡ map page (filter (names_some rows) others)
      → map (λ (named : Interval × Option ChunkPage). named.1) (cond b ((first.0, page first) ∷ filter (is_opened rows) (pages_by page others)) (filter (is_opened rows) (pages_by page others)))
      ≡ map page (cond b (first ∷ filter (names_some rows) others) (filter (names_some rows) others))
  by true rest = ap (λ found. page first ∷ found) rest
  by false rest = rest

-- two ways to find pages give the same for those that are opened
abbrev AreSame : (Interval × PageLocation → Option ChunkPage) → (Interval × PageLocation → Option ChunkPage) → List (Interval × PageLocation) → Type 0
AreSame page other named = AllByRecursion (λ named. other named ≡ page named) named

same_map : (page other : Interval × PageLocation → Option ChunkPage) (named : List (Interval × PageLocation)) → AreSame page other named → map other named ≡ map page named
same_map page other [] same = refl
same_map page other (first ∷ others) same = λ i. same.0 i ∷ same_map page other others same.1 i

-- an interval that holds the row is one that holds some of the rows
abbrev pub IsAmong : List ℕ → ℕ → Type 0
IsAmong rows row = (run : Interval) → holds run row ≡ true → holds_any rows run ≡ true

-- what is the same in each of some rows
pub same_among : {X : Type 0} (rows : List ℕ) (f g : ℕ → X) → ((row : ℕ) → IsAmong rows row → f row ≡ g row) → map f rows ≡ map g rows
same_among {X} rows f g each = go rows (λ run held. held) where
  go : (some : List ℕ) → ((run : Interval) → holds_any some run ≡ true → holds_any rows run ≡ true) → map f some ≡ map g some
  go [] within = refl
  go (row ∷ others) within =
      let own : f row ≡ g row = each row (λ run held. within run (ap (λ b. b || holds_any others run) held)) in
      λ i. own i ∷ go others (λ run held. within run (or_right (holds run row) (holds_any others run) held)) i

-- a row that is among the first is one of them
among_below : (rows : List ℕ) (row : ℕ) → rows ≡ range_with_len 0 (length rows) → IsAmong rows row → row < length rows
among_below rows row first among =
    let own : Interval = record { start = row; length = 1 } in
    let held = among own (holds_inside own row (omega arith) (omega arith)) in
    let low = ltb-true (max row 0) (min (row + 1) (0 + length rows)) (sym (any_row own 0 (length rows)) ∙ sym (ap (list_any (holds own)) first) ∙ held) in
    omega (arith, low)

-- The dictionary is looked at where a page is opened. In a row that is among others its page is.
same_item : (one another : Reading) (rows : List ℕ) (row : ℕ) → IsAmong rows row → (page other : Interval × PageLocation → Option ChunkPage) (named : List (Interval × PageLocation)) → AreSame page other (filter (names_some rows) named)
    → (0 < length (filter (names_some rows) named) → another ≡ one) → item_located another (pages_by other named) row ≡ item_located one (pages_by page named) row
same_item one another rows row among page other [] same read = refl
same_item one another rows row among page other (first ∷ others) same read = by (holds first.0 row) (holds_any rows first.0) (same_item one another rows row among page other others) refl refl same read where
  item : Reading → Interval × Option ChunkPage → Option Item
  item reading named = option_and_then (item_at reading (row - (named.0).start)) named.1

  by : (b c : Bool) → (AreSame page other (filter (names_some rows) others) → (0 < length (filter (names_some rows) others) → another ≡ one) → item_located another (pages_by other others) row ≡ item_located one (pages_by page others) row)
      → holds first.0 row ≡ b → holds_any rows first.0 ≡ c → AreSame page other (cond c (first ∷ filter (names_some rows) others) (filter (names_some rows) others))
      → (0 < length (cond c (first ∷ filter (names_some rows) others) (filter (names_some rows) others)) → another ≡ one)
      → option_and_then (item another) (cond b (Some (first.0, other first)) (find (λ (named : Interval × Option ChunkPage). holds named.0 row) (pages_by other others)))
      ≡ option_and_then (item one) (cond b (Some (first.0, page first)) (find (λ (named : Interval × Option ChunkPage). holds named.0 row) (pages_by page others)))
  by true true rest held opened same read = let own : another ≡ one = read (omega arith) in λ i. item (own i) (first.0, same.0 i)
  by true false rest held unopened same read = absurd (true≢false (sym (among first.0 held) ∙ unopened))
  by false true rest held opened same read = rest same.1 (λ some. read (omega arith))
  by false false rest held opened same read = rest same read

-- parts with a dictionary before them
with_parts : (first second : List ℕ) (before : Place) (parts : List Place) → AgreeOn first second (with_dictionary before parts) → AgreeOn first second parts
with_parts first second before [] h = tt
with_parts first second before (part ∷ parts) h = h.1

with_before : (first second : List ℕ) (before : Place) (parts : List Place) → AgreeOn first second (with_dictionary before parts) → 0 < length parts → AgreeAt first second before
with_before first second before [] h some = absurd (omega (arith, some))
with_before first second before (part ∷ parts) h some = h.0

same_with : (one other : Place) (parts : List Place) → (0 < length parts → one ≡ other) → with_dictionary one parts ≡ with_dictionary other parts
same_with one other [] same = refl
same_with one other (part ∷ parts) same = ap (λ before. before ∷ part ∷ parts) (same (omega arith))

-- what is the same at the front is so in any part of it
front_alike : (n size : ℕ) (first second : List ℕ) → take n second ≡ take n first → take n (take size second) ≡ take n (take size first)
front_alike n size first second same = elim (cases_lt size n) [
  | inl less ↦ take_all n (take size second) (omega (arith, less, length-take size second)) ∙ shorter size n first second (omega (arith, less)) same ∙ sym (take_all n (take size first) (omega (arith, less, length-take size first)))
  | inr more ↦ take-take n size second more ∙ same ∙ sym (take-take n size first more)
]

module _ (first second : List ℕ) (long : length second ≡ length first) where
  -- ---- indexes

  part_same : (place : Place) → AgreeAt first second place → part_at second place ≡ part_at first place
  part_same place h = λ i. if nat_le (place_end place) (long i) then Some (h i) else None

  offset_index_same : (place : Option Place) → AgreeOn first second (parts_if place) → locations_at second place ≡ locations_at first place
  offset_index_same None h = refl
  offset_index_same (Some place) h = ap (λ o. o >>= locations_in) (part_same place h.0)

  locations_same : (column : ColumnChunkMetaData) → AgreeOn first second (parts_if column.offset_index) → locations second column ≡ locations first column
  locations_same column h = ap (λ o. unwrap_or o []) (offset_index_same column.offset_index h)

  index_same : (type : PhysicalType) (place : Option Place) → AgreeOn first second (parts_if place) → index_at type second place ≡ index_at type first place
  index_same type None h = refl
  index_same type (Some place) h = ap (λ o. o >>= index_in type) (part_same place h.0)

  named_same : (group : RowGroupMetaData) (field : Field) → AgreeOn first second (offset_parts group field) → IfSome (column_named group field.name) (λ column. locations second column ≡ locations first column)
  named_same group field h = by (column_named group field.name) h where
    by : (o : Option ColumnChunkMetaData) → AgreeOn first second (option_map_or (λ (column : ColumnChunkMetaData). parts_if column.offset_index) o []) → IfSome o (λ column. locations second column ≡ locations first column)
    by None h = tt
    by (Some column) h = locations_same column h

  offset_causes_same : (group : RowGroupMetaData) (field : Field) → AgreeOn first second (offset_parts group field) → offset_causes_of_field second group field ≡ offset_causes_of_field first group field
  offset_causes_same group field h = by (column_named group field.name) h where
    by : (o : Option ColumnChunkMetaData) → AgreeOn first second (option_map_or (λ (column : ColumnChunkMetaData). parts_if column.offset_index) o [])
        → option_map_or (locations_causes second group) o (ExternalFormat ∷ []) ≡ option_map_or (locations_causes first group) o (ExternalFormat ∷ [])
    by None h = refl
    by (Some column) h = ap (λ found. unless (has_shape found group.num_rows) ExternalFormat) (locations_same column h)

  abbrev index_causes_by : List ℕ → DataType × ColumnChunkMetaData → List Cause
  index_causes_by bytes typed = column_index_causes typed.0 (length (locations bytes typed.1)) bytes typed.1

  bound_causes_same : (fields : List Field) (group : RowGroupMetaData) (bound : Bound) → AgreeOn first second (bound_parts group bound) → index_causes_of_bound fields second group bound ≡ index_causes_of_bound fields first group bound
  bound_causes_same fields group bound h = by (bounded_field fields bound) (column_named group bound.field) h where
    by : (field : Option Field) (o : Option ColumnChunkMetaData) → AgreeOn first second (option_map_or (λ (column : ColumnChunkMetaData). parts_if column.column_index ++ parts_if column.offset_index) o [])
        → option_map_or (index_causes_by second) (typed_by field o) (ExternalFormat ∷ []) ≡ option_map_or (index_causes_by first) (typed_by field o) (ExternalFormat ∷ [])
    by None o h = refl
    by (Some field) None h = refl
    by (Some field) (Some column) h =
        let both = agree_split first second (parts_if column.column_index) (parts_if column.offset_index) h in
        let stored = column.descriptor.primitive_type in
        let data_type = bound_type field in
        λ i. and_then (unless (is_some (index_rule stored data_type)) NotYetImplemented)
        (option_map_or (λ index. causes_of_index stored data_type index ++ count_causes (length (locations_same column both.1 i)) index) (index_same (type_of column) column.column_index both.0 i) (ExternalFormat ∷ []))

  bound_keeps_same : (fields : List Field) (group : RowGroupMetaData) (row : ℕ) (bound : Bound) → AgreeOn first second (bound_parts group bound) → bound_keeps fields second group row bound ≡ bound_keeps fields first group row bound
  bound_keeps_same fields group row bound h = by (bounded_field fields bound) (column_named group bound.field) h where
    keeps_by : List ℕ → DataType × ColumnChunkMetaData → Bool
    keeps_by bytes typed = row_keeps typed.0 bytes group bound typed.1 row

    by : (field : Option Field) (o : Option ColumnChunkMetaData) → AgreeOn first second (option_map_or (λ (column : ColumnChunkMetaData). parts_if column.column_index ++ parts_if column.offset_index) o [])
        → option_map_or (keeps_by second) (typed_by field o) false ≡ option_map_or (keeps_by first) (typed_by field o) false
    by None o h = refl
    by (Some field) None h = refl
    by (Some field) (Some column) h =
        let both = agree_split first second (parts_if column.column_index) (parts_if column.offset_index) h in
        let ends : Option Index → List KnownEnds = λ index. map ends_of_page (unwrap_or (index >>= index_cells column.descriptor.primitive_type (bound_type field)) []) in
        λ i. keeps_row (rows_at (locations_same column both.1 i) group.num_rows) (ends (index_same (type_of column) column.column_index both.0 i)) bound row

  pub group_causes_same : (request : Request) (group : RowGroupMetaData) → AgreeOn first second (index_parts_of_group request group)
      → index_causes_of_group request.fields request.bounds second group ≡ index_causes_of_group request.fields request.bounds first group
  group_causes_same request group h =
      let both = agree_split first second (flat_map (offset_parts group) request.fields) (flat_map (bound_parts group) request.bounds) h in
      let fields = same_flat first second (offset_parts group) (offset_causes_of_field second group) (offset_causes_of_field first group) request.fields (offset_causes_same group) both.0 in
      let bounds = same_flat first second (bound_parts group) (index_causes_of_bound request.fields second group) (index_causes_of_bound request.fields first group) request.bounds (bound_causes_same request.fields group) both.1 in
      λ i. fields i ++ bounds i

  pub group_keeps_same : (request : Request) (group : RowGroupMetaData) (row : ℕ) → AgreeOn first second (index_parts_of_group request group)
      → list_all (bound_keeps request.fields second group row) request.bounds ≡ list_all (bound_keeps request.fields first group row) request.bounds
  group_keeps_same request group row h =
      same_all first second (bound_parts group) (bound_keeps request.fields second group row) (bound_keeps request.fields first group row) request.bounds (bound_keeps_same request.fields group row)
      (agree_split first second (flat_map (offset_parts group) request.fields) (flat_map (bound_parts group) request.bounds) h).1

  chunk_same : (group : RowGroupMetaData) (column : ColumnChunkMetaData) → chunk_of second group column ≡ chunk_of first group column
  chunk_same group column = ap (λ size. chunk_place size group.num_rows column) long

  -- ---- chunks whose pages are located

  abbrev page_by : List ℕ → Place → Interval × PageLocation → Option ChunkPage
  page_by bytes chunk named = located chunk.offset (bytes_at bytes chunk) named.1 (named.0).length

  page_same : (chunk : Place) (location : PageLocation) (rows : ℕ) → place_end chunk ≤ length first → AgreeAt first second (part_in_chunk chunk location)
      → located chunk.offset (bytes_at second chunk) location rows ≡ located chunk.offset (bytes_at first chunk) location rows
  page_same chunk location rows fits h =
      located_by second chunk location rows (omega (arith, fits, long)) ∙ by (part_of location) h ∙ sym (located_by first chunk location rows fits) where
        inside : (part : Place) (b : Bool) → lies_in chunk part ≡ b → AgreeAt first second (within chunk part)
            → ((if b then part_at second part else None) >>= λ body. page_in body rows) ≡ ((if b then part_at first part else None) >>= λ body. page_in body rows)
        inside part true lies h = ap (λ o. o >>= λ body. page_in body rows) (part_same part (subst (AgreeAt first second) (within_is chunk part lies) h))
        inside part false lies h = refl

        by : (o : Option Place) → AgreeAt first second (option_map_or (within chunk) o (front_of_part chunk 0)) → (o >>= λ part. page_there second chunk part rows) ≡ (o >>= λ part. page_there first chunk part rows)
        by None h = refl
        by (Some part) h = inside part (lies_in chunk part) refl h

  pages_same : (chunk : Place) (named : List (Interval × PageLocation)) → place_end chunk ≤ length first → AgreeOn first second (map (part_in_chunk chunk) (map (λ (named : Interval × PageLocation). named.1) named))
      → AreSame (page_by first chunk) (page_by second chunk) named
  pages_same chunk [] fits h = tt
  pages_same chunk (one ∷ others) fits h = (page_same chunk one.1 (one.0).length fits h.0, pages_same chunk others fits h.1)

  -- the dictionary before the first page
  abbrev dictionary_by : List ℕ → Place → Option ℕ → Dictionary
  dictionary_by bytes chunk o = option_map_or (located_dictionary (bytes_at bytes chunk)) o Undefined

  dictionary_same : (chunk : Place) (o : Option ℕ) → place_end chunk ≤ length first → AgreeAt first second (dictionary_part first chunk o)
      → (dictionary_by second chunk o ≡ dictionary_by first chunk o) × (dictionary_part second chunk o ≡ dictionary_part first chunk o)
  dictionary_same chunk None fits h = (refl, refl)
  dictionary_same chunk (Some k) fits h = by (dictionary_at part) refl h where
    part : List ℕ
    part = take k (bytes_at first chunk)

    other : List ℕ
    other = take k (bytes_at second chunk)

    same_size : length (bytes_at second chunk) ≡ length (bytes_at first chunk)
    same_size = chunk_length second chunk (omega (arith, fits, long)) ∙ sym (chunk_length first chunk fits)

    same_length : length other ≡ length part
    same_length = omega (arith, length-take k (bytes_at second chunk), length-take k (bytes_at first chunk), same_size)

    whole : Dictionary → Dictionary
    whole found = if nat_le k (length (bytes_at first chunk)) then found else Undefined

    up : dictionary_in other ≡ dictionary_in part → dictionary_by second chunk (Some k) ≡ dictionary_by first chunk (Some k)
    up e = ap (λ n. if nat_le k n then dictionary_in other else Undefined) same_size ∙ ap whole e

    -- as many bytes of the parts are the same as of the chunks
    front_same : (n : ℕ) → n ≤ length part → AgreeAt first second (front_of_part chunk n) → take n other ≡ take n part
    front_same n few h =
        let less : n ≤ k = omega (arith, few, length-take k (bytes_at first chunk)) in
        let low : n ≤ chunk.length = omega (arith, few, length-take k (bytes_at first chunk), chunk_length first chunk fits) in
        take-take n k (bytes_at second chunk) less ∙ take-take n chunk.length (drop chunk.offset second) low ∙ h
        ∙ sym (take-take n chunk.length (drop chunk.offset first) low) ∙ sym (take-take n k (bytes_at first chunk) less)

    by : (o : Option (DictionaryPage × List ℕ)) → dictionary_at part ≡ o → AgreeAt first second (front_of_part chunk (option_map_or (λ (read : DictionaryPage × List ℕ). read.0.size) o (length part)))
        → (dictionary_by second chunk (Some k) ≡ dictionary_by first chunk (Some k)) × (dictionary_part second chunk (Some k) ≡ dictionary_part first chunk (Some k))
    by None e h =
        let equal : other ≡ part = sym (take_all (length part) other (omega (arith, same_length))) ∙ front_same (length part) (omega arith) h ∙ take_all (length part) part (omega arith) in
        (up (ap dictionary_in equal), ap (λ found. front_of_part chunk (dictionary_length found)) equal)
    by (Some read) e h =
        let measured = (dictionary_measured part read e).size in
        let there = same_dictionary part other read.0 read.1 e (front_same read.0.size (omega (arith, measured)) h) in (
          up ((λ i. if same_length i == 0 then NoDictionary else if_defined (there i) Undefined) ∙ sym (ap (λ o. if length part == 0 then NoDictionary else if_defined o Undefined) e)),
          (λ i. front_of_part chunk (option_map_or (λ (read : DictionaryPage × List ℕ). read.0.size) (there i) (length other))) ∙ sym (ap (λ o. front_of_part chunk (option_map_or (λ (read : DictionaryPage × List ℕ). read.0.size) o (length part))) e),
        )

  -- ---- a chunk

  module _ (group : RowGroupMetaData) (column : ColumnChunkMetaData) (size : Option ℕ) (rows : List ℕ) (data_type : DataType) where
    abbrev stored : PrimitiveType
    stored = column.descriptor.primitive_type

    abbrev named_in : List ℕ → List (Interval × PageLocation)
    named_in bytes = zip (location_rows bytes group column) (locations bytes column)

    abbrev opened : List (Interval × PageLocation)
    opened = filter (names_some rows) (named_in first)

    abbrev first_place : Place → Option ℕ
    first_place chunk = first_location chunk.offset (locations first column)

    module _ (chunk : Place) where
      pages_are : (bytes : List ℕ) → chunk_of bytes group column ≡ Some chunk → located_pages bytes group column ≡ pages_by (page_by bytes chunk) (named_in bytes)
      pages_are bytes placed = ap (λ o. option_map_or (λ place. map (named_page place (bytes_at bytes place)) (named_in bytes)) o []) placed

      before_is : (bytes : List ℕ) → chunk_of bytes group column ≡ Some chunk → dictionary_by_locations bytes group column ≡ dictionary_before chunk.offset (bytes_at bytes chunk) (locations bytes column)
      before_is bytes placed = ap (λ (o : Option Place). option_map_or (λ (place : Place). dictionary_before place.offset (bytes_at bytes place) (locations bytes column)) o NoDictionary) placed

      walked_is : (bytes : List ℕ) → chunk_of bytes group column ≡ Some chunk → walked_reading bytes group data_type column ≡ over stored data_type (bytes_at bytes chunk)
      walked_is bytes placed = λ i. record { stored = stored; dictionary = option_map_or (λ place. chunk_dictionary (bytes_at bytes place)) (placed i) NoDictionary; data_type = data_type }

      item_is : (bytes : List ℕ) → chunk_of bytes group column ≡ Some chunk → (row : ℕ)
          → walked_item bytes group data_type column row ≡ item_among (over stored data_type (bytes_at bytes chunk)) (pages_of_chunk column.num_values (bytes_at bytes chunk)) row
      item_is bytes placed row = λ i. item_among (walked_is bytes placed i) (option_map_or (λ place. pages_of_chunk column.num_values (bytes_at bytes place)) (placed i) []) row

    module _ (chunk : Place) (at_second : chunk_of second group column ≡ Some chunk) (at_first : chunk_of first group column ≡ Some chunk) where
      fits : place_end chunk ≤ length first
      fits = chunk_fits first group column chunk at_first

      module _ (told : locations second column ≡ locations first column) (h : AgreeOn first second (parts_by_locations first group rows column chunk)) where
        in_opened : AgreeOn first second (map (part_in_chunk chunk) (opened_locations first group rows column))
        in_opened = with_parts first second (dictionary_part first chunk (first_place chunk)) (map (part_in_chunk chunk) (opened_locations first group rows column)) h

        -- the dictionary is opened where a page is
        before : 0 < length opened → (dictionary_by second chunk (first_place chunk) ≡ dictionary_by first chunk (first_place chunk)) × (dictionary_part second chunk (first_place chunk) ≡ dictionary_part first chunk (first_place chunk))
        before some =
            dictionary_same chunk (first_place chunk) fits (with_before first second (dictionary_part first chunk (first_place chunk)) (map (part_in_chunk chunk) (opened_locations first group rows column)) h
            (omega (arith, some, length-map (opened_locations first group rows column) (part_in_chunk chunk), length-map opened (λ (named : Interval × PageLocation). named.1))))

        reading_same : 0 < length opened → located_reading second group data_type column ≡ located_reading first group data_type column
        reading_same some =
            let dictionary = before_is chunk second at_second ∙ ap (dictionary_before chunk.offset (bytes_at second chunk)) told ∙ (before some).0 ∙ sym (before_is chunk first at_first) in
            λ i. record { stored = stored; dictionary = dictionary i; data_type = data_type }

        are_same : AreSame (page_by first chunk) (page_by second chunk) opened
        are_same = pages_same chunk opened fits in_opened

        second_pages : located_pages second group column ≡ pages_by (page_by second chunk) (named_in first)
        second_pages = pages_are chunk second at_second ∙ (λ i. pages_by (page_by second chunk) (zip (rows_at (told i) group.num_rows) (told i)))

        found_first : opened_located rows (located_pages first group column) ≡ map (page_by first chunk) opened
        found_first = ap (opened_located rows) (pages_are chunk first at_first) ∙ opened_by rows (page_by first chunk) (named_in first)

        found_same : opened_located rows (located_pages second group column) ≡ opened_located rows (located_pages first group column)
        found_same =
            ap (opened_located rows) second_pages ∙ opened_by rows (page_by second chunk) (named_in first)
            ∙ same_map (page_by first chunk) (page_by second chunk) opened are_same ∙ sym found_first

        located_items_same : (row : ℕ) → IsAmong rows row → located_item second group data_type column row ≡ located_item first group data_type column row
        located_items_same row among =
            ap (λ pages. item_located (located_reading second group data_type column) pages row) second_pages
            ∙ same_item (located_reading first group data_type column) (located_reading second group data_type column) rows row among (page_by first chunk) (page_by second chunk) (named_in first) are_same reading_same
            ∙ sym (ap (λ pages. item_located (located_reading first group data_type column) pages row) (pages_are chunk first at_first))

        located_causes_same : located_causes size second group rows data_type column ≡ located_causes size first group rows data_type column
        located_causes_same =
            let pages = opened_located rows (located_pages first group column) in
            let of_pages = ap (causes_of_opened (located_reading second group data_type column)) found_same
            ∙ same_opened (located_reading second group data_type column) (located_reading first group data_type column) pages
            (λ some. reading_same (omega (arith, some, ap length found_first, length-map opened (page_by first chunk)))) in
            let of_rows = same_given size data_type (located_item second group data_type column) (located_item first group data_type column) rows
            (same_among rows (located_item second group data_type column) (located_item first group data_type column) located_items_same) in
            λ i. and_then (unless (has_shape (told i) group.num_rows) ExternalFormat) (of_pages i ++ of_rows i)

        located_parts_same : parts_by_locations second group rows column chunk ≡ parts_by_locations first group rows column chunk
        located_parts_same =
            ap (λ found. with_dictionary (dictionary_part second chunk (first_location chunk.offset found)) (map (part_in_chunk chunk) (map (λ (named : Interval × PageLocation). named.1) (filter (names_some rows) (zip (rows_at found group.num_rows) found))))) told
            ∙ same_with (dictionary_part second chunk (first_place chunk)) (dictionary_part first chunk (first_place chunk)) (map (part_in_chunk chunk) (opened_locations first group rows column))
            (λ some. (before (omega (arith, some, length-map (opened_locations first group rows column) (part_in_chunk chunk), length-map opened (λ (named : Interval × PageLocation). named.1)))).1)

      -- ---- its pages one after another

      module _ (front : rows ≡ range_with_len 0 (length rows)) (h : AgreeOn first second (walked_parts first rows column chunk)) where
        walk : IsSameWalk (length rows) column.num_values (bytes_at first chunk) (bytes_at second chunk)
        walk = walk_alike (length rows) column.num_values (bytes_at first chunk) (bytes_at second chunk) (chunk_length second chunk (omega (arith, fits, long)) ∙ sym (chunk_length first chunk fits))
            (front_alike (walked_length (length rows) column.num_values (bytes_at first chunk)) chunk.length (drop chunk.offset first) (drop chunk.offset second) h.0)

        walked_items_same : (row : ℕ) → IsAmong rows row → walked_item second group data_type column row ≡ walked_item first group data_type column row
        walked_items_same row among = item_is chunk second at_second row ∙ walk.items stored data_type row (among_below rows row front among) ∙ sym (item_is chunk first at_first row)

        walked_causes_same : walked_causes size second group rows data_type column chunk ≡ walked_causes size first group rows data_type column chunk
        walked_causes_same =
            let of_pages = ap (λ reading. causes_of_walk reading (length rows) (pages_of_chunk column.num_values (bytes_at second chunk))) (walked_is chunk second at_second) ∙ walk.causes stored data_type
            ∙ sym (ap (λ reading. causes_of_walk reading (length rows) (pages_of_chunk column.num_values (bytes_at first chunk))) (walked_is chunk first at_first)) in
            let of_rows = same_given size data_type (walked_item second group data_type column) (walked_item first group data_type column) rows
            (same_among rows (walked_item second group data_type column) (walked_item first group data_type column) walked_items_same) in
            λ i. of_pages i ++ of_rows i

    -- what is found of a column
    abbrev item_by : Bool → List ℕ → ℕ → Option Item
    item_by by_pages bytes row = if by_pages then located_item bytes group data_type column row else walked_item bytes group data_type column row

    abbrev opened_causes_by : Bool → List ℕ → Place → List Cause
    opened_causes_by by_pages bytes chunk = if by_pages then located_causes size bytes group rows data_type column else walked_causes size bytes group rows data_type column chunk

    abbrev parts_by : Bool → List ℕ → Place → List Place
    parts_by by_pages bytes chunk = if by_pages then parts_by_locations bytes group rows column chunk else walked_parts bytes rows column chunk

    -- a chunk of the second file is as in the first
    pub record IsSameChunk (by_pages : Bool) : Type 0 where
      pub causes : causes_of_chunk by_pages size second group rows data_type column ≡ causes_of_chunk by_pages size first group rows data_type column
      pub parts : chunk_parts by_pages second group rows column ≡ chunk_parts by_pages first group rows column
      pub items : (row : ℕ) → IsAmong rows row → item_by by_pages second row ≡ item_by by_pages first row

    pub chunk_is_same : (by_pages : Bool) → (by_pages ≡ false → rows ≡ range_with_len 0 (length rows)) → (by_pages ≡ true → locations second column ≡ locations first column) → AgreeOn first second (chunk_parts by_pages first group rows column) → IsSameChunk by_pages
    chunk_is_same by_pages front told h = go by_pages front told (chunk_of first group column) (chunk_same group column) refl h where
      damaged : List Cause
      damaged = ExternalFormat ∷ []

      causes_from : (b : Bool) (o : Option Place) → chunk_of second group column ≡ o → chunk_of first group column ≡ o → option_map_or (opened_causes_by b second) o damaged ≡ option_map_or (opened_causes_by b first) o damaged
          → causes_of_chunk b size second group rows data_type column ≡ causes_of_chunk b size first group rows data_type column
      causes_from b o at_second at_first same =
          ap (λ o. and_then (chunk_causes column) (option_map_or (opened_causes_by b second) o damaged)) at_second ∙ ap (and_then (chunk_causes column)) same
          ∙ sym (ap (λ o. and_then (chunk_causes column) (option_map_or (opened_causes_by b first) o damaged)) at_first)

      parts_from : (b : Bool) (o : Option Place) → chunk_of second group column ≡ o → chunk_of first group column ≡ o → option_map_or (parts_by b second) o [] ≡ option_map_or (parts_by b first) o []
          → chunk_parts b second group rows column ≡ chunk_parts b first group rows column
      parts_from b o at_second at_first same =
          ap (λ o. option_map_or (parts_by b second) o []) at_second ∙ same ∙ sym (ap (λ o. option_map_or (parts_by b first) o []) at_first)

      -- a column without a chunk has no pages
      no_located : (bytes : List ℕ) → chunk_of bytes group column ≡ None → (row : ℕ) → located_item bytes group data_type column row ≡ None
      no_located bytes none row =
          ap (λ o. item_located (located_reading bytes group data_type column) (option_map_or (λ place. map (named_page place (bytes_at bytes place)) (named_in bytes)) o []) row) none

      no_walked : (bytes : List ℕ) → chunk_of bytes group column ≡ None → (row : ℕ) → walked_item bytes group data_type column row ≡ None
      no_walked bytes none row =
          ap (λ o. item_among (walked_reading bytes group data_type column) (option_map_or (λ place. pages_of_chunk column.num_values (bytes_at bytes place)) o []) row) none

      go : (b : Bool) → (b ≡ false → rows ≡ range_with_len 0 (length rows)) → (b ≡ true → locations second column ≡ locations first column) → (o : Option Place) → chunk_of second group column ≡ chunk_of first group column → chunk_of first group column ≡ o
          → AgreeOn first second (option_map_or (parts_by b first) o []) → IsSameChunk b
      go true front told None same at h = record {
        causes = causes_from true None (same ∙ at) at refl;
        parts = parts_from true None (same ∙ at) at refl;
        items = λ row among. no_located second (same ∙ at) row ∙ sym (no_located first at row);
      }
      go false front told None same at h = record {
        causes = causes_from false None (same ∙ at) at refl;
        parts = parts_from false None (same ∙ at) at refl;
        items = λ row among. no_walked second (same ∙ at) row ∙ sym (no_walked first at row);
      }
      go true front told (Some chunk) same at h = record {
        causes = causes_from true (Some chunk) (same ∙ at) at (located_causes_same chunk (same ∙ at) at (told refl) h);
        parts = parts_from true (Some chunk) (same ∙ at) at (located_parts_same chunk (same ∙ at) at (told refl) h);
        items = located_items_same chunk (same ∙ at) at (told refl) h;
      }
      go false front told (Some chunk) same at h = record {
        causes = causes_from false (Some chunk) (same ∙ at) at (walked_causes_same chunk (same ∙ at) at (front refl) h);
        parts = parts_from false (Some chunk) (same ∙ at) at (ap (λ size. front_of_part chunk size ∷ []) (walk chunk (same ∙ at) at (front refl) h).size);
        items = walked_items_same chunk (same ∙ at) at (front refl) h;
      }

  -- ---- a column

  module _ (by_pages : Bool) (size : Option ℕ) (group : RowGroupMetaData) (rows : List ℕ) (data_type : DataType) where
    -- what a column gives that is read as nulls or not
    abbrev causes_if : Bool → List ℕ → ColumnChunkMetaData → List Cause
    causes_if null bytes column =
        and_then (pair_causes column.descriptor.primitive_type data_type)
        (if null then chunk_read_causes bytes group column else causes_of_chunk by_pages size bytes group rows data_type column)

    abbrev column_parts_if : Bool → List ℕ → Option ColumnChunkMetaData → List Place
    column_parts_if null bytes column = if null then [] else option_map_or (chunk_parts by_pages bytes group rows) column []

    abbrev cell_if : Bool → List ℕ → ℕ → ColumnChunkMetaData → Option Cell
    cell_if null bytes row column =
        option_and_then as_cell
        (if null then given (nat_lt row group.num_rows) (Value Null)
        else if by_pages then located_item bytes group data_type column row
        else walked_item bytes group data_type column row)

    record IsSameRead (null : Bool) (column : Option ColumnChunkMetaData) : Type 0 where
      causes : option_map_or (causes_if null second) column (ExternalFormat ∷ []) ≡ option_map_or (causes_if null first) column (ExternalFormat ∷ [])
      parts : column_parts_if null second column ≡ column_parts_if null first column
      cells : (row : ℕ) → IsAmong rows row → option_and_then (cell_if null second row) column ≡ option_and_then (cell_if null first row) column

    read_is_same : (null : Bool) (column : Option ColumnChunkMetaData) → (by_pages ≡ false → rows ≡ range_with_len 0 (length rows)) → (by_pages ≡ true → IfSome column (λ column. locations second column ≡ locations first column))
        → AgreeOn first second (column_parts_if null first column) → IsSameRead null column
    read_is_same null None front told h = record { causes = refl; parts = refl; cells = λ row among. refl }
    read_is_same true (Some column) front told h = record {
      causes = ap (λ (place : Option Place). and_then (pair_causes column.descriptor.primitive_type data_type) (and_then (chunk_causes column) (unless (is_some place) ExternalFormat))) (chunk_same group column);
      parts = refl;
      cells = λ row among. refl;
    }
    read_is_same false (Some column) front told h =
        let same = chunk_is_same group column size rows data_type by_pages front told h in
        record {
          causes = ap (and_then (pair_causes column.descriptor.primitive_type data_type)) same.causes;
          parts = same.parts;
          cells = λ row among. ap (option_and_then as_cell) (same.items row among);
        }

  -- a column of the second file is as in the first
  pub record IsSameColumn (by_pages : Bool) (size : Option ℕ) (group : RowGroupMetaData) (rows : List ℕ) (field : Field) : Type 0 where
    pub causes : causes_of_column by_pages size second group rows field ≡ causes_of_column by_pages size first group rows field
    pub parts : column_parts by_pages second group rows field ≡ column_parts by_pages first group rows field
    pub cells : (row : ℕ) → IsAmong rows row → given_cell by_pages second group field row ≡ given_cell by_pages first group field row

  pub column_is_same : (by_pages : Bool) (size : Option ℕ) (group : RowGroupMetaData) (rows : List ℕ) (field : Field) → (by_pages ≡ false → rows ≡ range_with_len 0 (length rows)) → (by_pages ≡ true → AgreeOn first second (offset_parts group field))
      → AgreeOn first second (column_parts by_pages first group rows field) → IsSameColumn by_pages size group rows field
  column_is_same by_pages size group rows field first_rows indexed h =
      let same = read_is_same by_pages size group rows field.data_type (is_null_type field.data_type) (column_named group field.name) first_rows (λ yes. named_same group field (indexed yes)) h in
      record { causes = same.causes; parts = same.parts; cells = same.cells }
