-- No row is lost where what a file says of its rows is true.
use Rattle.std.proofs.Common.{◌≡◌, ℕ, ◌+◌, ◌<◌, ◌≤◌, Bool, true, false, not, ◌||◌, List, [], ◌∷◌, inl, inr, length, filter, map, refl, sym, ◌∙◌, ap, arith, get_or, All}
use Rattle.std.specs.Prelude.{Option, Some, None, IfSome, IsSomeAnd, IsTrue, flat_map, zip, option_map, option_and_then, unwrap_or, nat_le, nat_lt}
use Rattle.std.specs.List.{AllByRecursion, list_all, range_with_len}
use Rattle.std.specs.Option.{option_map_or}
use Rattle.std.specs.Str.{bytes_eq}
use Rattle.std.proofs.lemmas.Bool.{false≢true, and_parts, and_from, or_left, or_right, or_cases, cases_lt, cond-true, leb-true, ltb-true}
use Rattle.std.proofs.lemmas.List.Elements.{recursion_from_All}
use Rattle.std.proofs.lemmas.List.FromFn.{length-range_with_len}
use Rattle.std.proofs.lemmas.List.Sums.{AllPass-from_list_all, list_all-from_AllPass}
use Rattle.std.proofs.lemmas.Slice.Eq.{bytes_eq-Decides}
use Rattle.columns_core.specs.Causes.{Cause, ExternalFormat}
use Rattle.columns_core.specs.declared.cell.Cell.{Cell}
use Rattle.columns_core.specs.declared.data_type.DataType.{DataType}
use Rattle.columns_core.specs.declared.data_type.Field.{Field}
use Rattle.parquet_base.specs.declared.interval.Interval.{Interval}
use Rattle.parquet_base.specs.Intervals.{AreAdjacent, covers, end, holds, is_kept_page}
use Rattle.parquet_base.proofs.SegmentLemmas.{covers_inside}
use Rattle.parquet_meta.specs.File.{footer}
use Rattle.parquet_meta.specs.declared.metadata.ColumnChunkMetaData.{ColumnChunkMetaData}
use Rattle.parquet_meta.specs.declared.metadata.FileMetaData.{FileMetaData}
use Rattle.parquet_meta.specs.declared.metadata.PageLocation.{PageLocation}
use Rattle.parquet_meta.specs.declared.metadata.RowGroupMetaData.{RowGroupMetaData}
use Rattle.parquet_page.specs.Locations.{has_shape, page_intervals}
use Rattle.parquet_page.proofs.SelectionLemmas.{pages-length}
use Rattle.parquet_scan.specs.declared.bound.Bound.{Bound}
use Rattle.parquet_scan.specs.Bound.{KnownEnds, ends_keep, meets}
use Rattle.parquet_scan.specs.Causes.{file_causes, index_causes, index_causes_of_bound, index_causes_of_group, metadata_causes, offset_causes_of_field, read_causes}
use Rattle.parquet_scan.specs.Cells.{cell, column_cell}
use Rattle.parquet_scan.specs.Laws.{LosesNoRowOfValidFiles}
use Rattle.parquet_scan.specs.Pages.{column_index_causes, location_rows, locations, locations_causes, page_ends}
use Rattle.parquet_scan.specs.Request.{Request, are_values_of, bound_type, bounded_field, is_legal, is_legal_bound_of}
use Rattle.parquet_scan.specs.Rows.{File, bound_keeps, bounded_column, column_named, file_with, group_counts, group_keeps, groups_of, kept, prunes_pages, page_keeps, row_keeps, group_ends}
use Rattle.parquet_scan.specs.Truth.{HasTrueStatistics, LosesNoRow, MeetsAll, OnBound, are_true, has_true_index, has_true_statistics, is_true_of_page, items_of}
use Rattle.parquet_scan.proofs.Exact.{from_items}
use Rattle.parquet_scan.proofs.FileLemmas.{nothing_first}
use Rattle.parquet_scan.proofs.LocationLemmas.{have_rows}
use Rattle.parquet_scan.proofs.PruningLemmas.{typed_by}
use Rattle.parquet_scan.proofs.SoundLists.{any_found, append_nil, fewer_found, filter_at, find_holds, find_passes, if_some, nothing_next, nothing_of_each}
use Rattle.parquet_scan.proofs.SoundKinds.{AreKind, HasKind, IsKind, bound_has_kind, group_ends_are_of_kind, items_are_of_kind, of_one_kind, page_ends_are_of_kind, tells_of_locations}
use Rattle.parquet_page.proofs.SpelledLemmas.{none_of}

-- ---- the rows of locations

-- pages that lie one behind the other hold each row
covered : (from : ℕ) (pages : List Interval) (rows row : ℕ) → AreAdjacent from pages rows → from ≤ row → row < rows → covers pages row ≡ true
covered from [] rows row adjacent low high = absurd (omega (arith, adjacent, low, high))
covered from (page ∷ pages) rows row adjacent low high =
    elim (cases_lt row (end page)) [
      | inl here ↦ covers_inside page pages row (omega (arith, adjacent.0, low)) here
      | inr later ↦ or_right _ _ (covered (end page) pages rows row adjacent.1 later high)
    ]

record AllRows (locations : List PageLocation) (rows row : ℕ) : Type 0 where
  covered : covers (unwrap_or (page_intervals locations rows) []) row ≡ true
  each : length (unwrap_or (page_intervals locations rows) []) ≡ length locations

-- where locations have their shape, their pages hold each row, and there is one for each location
all_rows : (locations : List PageLocation) (rows row : ℕ) → row < rows → has_shape locations rows ≡ true → AllRows locations rows row
all_rows locations rows row below shaped =
    let have = have_rows locations rows shaped in
    let found : unwrap_or (page_intervals locations rows) [] ≡ have.first ∷ have.others = ap (λ (o : Option (List Interval)). unwrap_or o []) have.are in
    record {
      covered = ap (λ runs. covers runs row) found ∙ covered 0 (have.first ∷ have.others) rows row have.adjacent (omega arith) below;
      each = ap length found ∙ pages-length locations rows (have.first ∷ have.others) have.are;
    }

-- the page that holds a row is kept, where the ends of each page that holds it keep it
page_found : (row : ℕ) (bound : Bound) (P : KnownEnds → Type 0) (is_true : Interval × KnownEnds → Bool)
    → ((page : Interval) (ends : KnownEnds) → P ends → is_true (page, ends) ≡ true → page.start ≤ row → row < end page → ends_keep ends page.length bound ≡ true)
    → (pages : List Interval) (ends : List KnownEnds) → length pages ≡ length ends → covers pages row ≡ true → list_all is_true (zip pages ends) ≡ true → AllByRecursion P ends
    → is_kept_page pages (map (page_keeps bound) (zip pages ends)) row ≡ true
page_found row bound P is_true keep [] ends same there true_of kinds = absurd (false≢true there)
page_found row bound P is_true keep (page ∷ pages) [] same there true_of kinds = absurd (omega (arith, same))
page_found row bound P is_true keep (page ∷ pages) (first ∷ ends) same there true_of kinds =
    let parts = and_parts (is_true (page, first)) (list_all is_true (zip pages ends)) true_of in
    elim (or_cases (holds page row) (covers pages row) there) [
      | inl here ↦ (let within = and_parts (nat_le page.start row) (nat_lt row (end page)) here in
          or_left _ _ (and_from _ _ (keep page first kinds.0 parts.0 (leb-true page.start row within.0) (ltb-true row (end page) within.1)) here))
      | inr later ↦ or_right _ _ (page_found row bound P is_true keep pages ends (omega (arith, same)) later parts.1 kinds.1)
    ]

-- ---- a row that meets a bound

-- the bound's field, its column, and the row's item
record Met (fields : List Field) (bytes : List ℕ) (group : RowGroupMetaData) (row : ℕ) (bound : Bound) : Type 0 where
  field : Field
  found : bounded_field fields bound ≡ Some field
  item : Cell
  is_item : cell bytes group field row ≡ Some item
  is_met : meets bound item ≡ true
  column : ColumnChunkMetaData
  is_column : column_named group field.name ≡ Some column

of_column : {X Y : Type 0} (o : Option X) (f : X → Option Y) (y : Y) → option_and_then f o ≡ Some y → (x : X) × (o ≡ Some x)
of_column None f y e = cc
of_column (Some x) f y e = (x, refl)

met_by : (fields : List Field) (bytes : List ℕ) (group : RowGroupMetaData) (row : ℕ) (bound : Bound) (field : Field) (o : Option Cell)
    → bounded_field fields bound ≡ Some field → cell bytes group field row ≡ o → IsSomeAnd o (λ item. IsTrue (meets bound item)) → Met fields bytes group row bound
met_by fields bytes group row bound field None found e h = absurd h
met_by fields bytes group row bound field (Some item) found e h =
    let there = of_column (column_named group field.name) (λ column. column_cell false bytes group field.data_type column row) item e in
    record { field = field; found = found; item = item; is_item = e; is_met = h; column = there.0; is_column = there.1 }

met_in : (fields : List Field) (bytes : List ℕ) (group : RowGroupMetaData) (row : ℕ) (bound : Bound) (o : Option Field)
    → bounded_field fields bound ≡ o → IsSomeAnd (option_and_then (λ field. cell bytes group field row) o) (λ item. IsTrue (meets bound item)) → Met fields bytes group row bound
met_in fields bytes group row bound None found h = absurd h
met_in fields bytes group row bound (Some field) found h = met_by fields bytes group row bound field (cell bytes group field row) found refl h

module _ (fields : List Field) (bytes : List ℕ) (group : RowGroupMetaData) (row : ℕ) (below : row < group.num_rows) (bound : Bound)
    (legal : is_legal_bound_of fields bound ≡ true) (met : Met fields bytes group row bound) where
  names : bound.field ≡ met.field.name
  names = (bytes_eq-Decides bound.field met.field.name).0 (find_passes (λ (field : Field). bytes_eq bound.field field.name) fields met.field met.found)

  is_column : column_named group bound.field ≡ Some met.column
  is_column = ap (column_named group) names ∙ met.is_column

  abbrev data_type : DataType
  data_type = bound_type met.field

  is_typed : bounded_column fields group bound ≡ Some (data_type, met.column)
  is_typed = λ i. typed_by (met.found i) (is_column i)

  has_kind : HasKind data_type bound
  has_kind = bound_has_kind data_type bound (sym (ap (λ (o : Option Field). option_map_or (λ (field : Field). are_values_of (bound_type field) bound) o false) met.found) ∙ legal)

  -- ends that are true of rows among which this one is keep it
  kept_by : (ends : KnownEnds) (start n : ℕ) → AreKind data_type ends → start ≤ row → row < start + n → are_true ends (items_of bytes group met.field (range_with_len start n)) ≡ true → ends_keep ends n bound ≡ true
  kept_by ends start n of_type low high true_of =
      from_items (IsKind data_type) (of_one_kind data_type) ends.low ends.high ends.nulls n bound of_type.0 of_type.1 has_kind.low has_kind.high
      (items_of bytes group met.field (range_with_len start n))
      (omega (arith, fewer_found (cell bytes group met.field) (range_with_len start n), length-range_with_len start n))
      (items_are_of_kind bytes group met.field has_kind.ordered (range_with_len start n)) true_of
      (any_found (meets bound) (cell bytes group met.field) start n row met.item low high met.is_item met.is_met)

  -- what is true of the column of the bound
  true_here : (fact : RowGroupMetaData → Field → ColumnChunkMetaData → Bool) → OnBound fact fields group bound → fact group met.field met.column ≡ true
  true_here fact h =
      if_some (λ column. IsTrue (fact group met.field column)) (column_named group met.field.name) met.column met.is_column
      (if_some (λ (field : Field). IfSome (column_named group field.name) (λ column. IsTrue (fact group field column))) (bounded_field fields bound) met.field met.found h)

  group_kept : OnBound (has_true_statistics bytes) fields group bound → group_keeps fields group bound ≡ true
  group_kept h =
      ap (λ (o : Option (DataType × ColumnChunkMetaData)). option_map_or (λ typed. ends_keep (group_ends typed.0 typed.1) group.num_rows bound) o false) is_typed
      ∙ kept_by (group_ends data_type met.column) 0 group.num_rows (group_ends_are_of_kind data_type has_kind.ordered met.column) (omega arith) (omega (arith, below)) (true_here (has_true_statistics bytes) h)

  shaped : All (λ field. offset_causes_of_field bytes group field ≡ []) fields → has_shape (locations bytes met.column) group.num_rows ≡ true
  shaped none =
      let here = find_holds (λ (field : Field). offset_causes_of_field bytes group field ≡ []) (λ (field : Field). bytes_eq bound.field field.name) fields met.field met.found (recursion_from_All _ fields none) in
      none_of _ ExternalFormat (sym (ap (λ (o : Option ColumnChunkMetaData). option_map_or (locations_causes bytes group) o (ExternalFormat ∷ [])) met.is_column) ∙ here)

  page_kept : All (λ field. offset_causes_of_field bytes group field ≡ []) fields → index_causes_of_bound fields bytes group bound ≡ [] → OnBound (has_true_index bytes) fields group bound → bound_keeps fields bytes group row bound ≡ true
  page_kept none own h =
      let rows = all_rows (locations bytes met.column) group.num_rows row below (shaped none) in
      let told = tells_of_locations data_type bytes met.column (sym (ap (λ (o : Option (DataType × ColumnChunkMetaData)). option_map_or (λ typed. column_index_causes typed.0 (length (locations bytes typed.1)) bytes typed.1) o (ExternalFormat ∷ [])) is_typed) ∙ own) in
      ap (λ (o : Option (DataType × ColumnChunkMetaData)). option_map_or (λ typed. row_keeps typed.0 bytes group bound typed.1 row) o false) is_typed
      ∙ page_found row bound (AreKind data_type) (is_true_of_page bytes group met.field)
      (λ page ends of_type true_of low high. kept_by ends page.start page.length of_type low high true_of)
      (location_rows bytes group met.column) (page_ends data_type bytes met.column) (omega (arith, rows.each, told)) rows.covered
      (true_here (has_true_index bytes) h) (page_ends_are_of_kind data_type has_kind.ordered bytes met.column)

-- ---- all bounds

module _ (request : Request) (file : File) (legal : list_all (is_legal_bound_of request.fields) request.bounds ≡ true)
    (group : RowGroupMetaData) (row : ℕ) (below : row < group.num_rows) (meets_all : MeetsAll request file.bytes group row) where
  met_at : (k : ℕ) (d : Bound) → k < length request.bounds → Met request.fields file.bytes group row (get_or request.bounds k d)
  met_at k d h = met_in request.fields file.bytes group row (get_or request.bounds k d) _ refl (meets_all k d h)

  legal_at : (k : ℕ) (d : Bound) → k < length request.bounds → is_legal_bound_of request.fields (get_or request.bounds k d) ≡ true
  legal_at = AllPass-from_list_all (is_legal_bound_of request.fields) request.bounds legal

  counts : All (OnBound (has_true_statistics file.bytes) request.fields group) request.bounds → group_counts request group ≡ true
  counts true_of = list_all-from_AllPass (group_keeps request.fields group) request.bounds (λ k d h.
      group_kept request.fields file.bytes group row below (get_or request.bounds k d) (legal_at k d h) (met_at k d h) (true_of k d h))

  pages_kept : index_causes_of_group request.fields request.bounds file.bytes group ≡ [] → All (OnBound (has_true_index file.bytes) request.fields group) request.bounds
      → list_all (bound_keeps request.fields file.bytes group row) request.bounds ≡ true
  pages_kept none true_of =
      let parts = append_nil (flat_map (offset_causes_of_field file.bytes group) request.fields) (flat_map (index_causes_of_bound request.fields file.bytes group) request.bounds) none in
      list_all-from_AllPass (bound_keeps request.fields file.bytes group row) request.bounds (λ k d h.
      page_kept request.fields file.bytes group row below (get_or request.bounds k d) (legal_at k d h) (met_at k d h)
      (nothing_of_each (offset_causes_of_field file.bytes group) request.fields parts.0) (nothing_of_each (index_causes_of_bound request.fields file.bytes group) request.bounds parts.1 k d h) (true_of k d h))

-- ---- a valid file

module _ (request : Request) (file : File) (legal : list_all (is_legal_bound_of request.fields) request.bounds ≡ true)
    (none : index_causes request file ≡ []) where
  -- the indexes of a group that counts have no cause
  index_at : (k : ℕ) (d : RowGroupMetaData) → k < length (groups_of file) → prunes_pages request (groups_of file) ≡ true → group_counts request (get_or (groups_of file) k d) ≡ true
      → index_causes_of_group request.fields request.bounds file.bytes (get_or (groups_of file) k d) ≡ []
  index_at k d h pruned counted =
      filter_at (λ group. index_causes_of_group request.fields request.bounds file.bytes group ≡ []) (group_counts request) (groups_of file) k d
      (nothing_of_each (index_causes_of_group request.fields request.bounds file.bytes) (filter (group_counts request) (groups_of file)) (sym (cond-true (prunes_pages request (groups_of file)) _ [] pruned) ∙ none)) h counted

  kept_if : (k : ℕ) (d : RowGroupMetaData) (h : k < length (groups_of file)) (row : ℕ) → row < (get_or (groups_of file) k d).num_rows → MeetsAll request file.bytes (get_or (groups_of file) k d) row
      → HasTrueStatistics request file (get_or (groups_of file) k d) → group_counts request (get_or (groups_of file) k d) ≡ true → (b : Bool) → prunes_pages request (groups_of file) ≡ b
      → (not b || list_all (bound_keeps request.fields file.bytes (get_or (groups_of file) k d) row) request.bounds) ≡ true
  kept_if k d h row below meets_all statistics counted false e = refl
  kept_if k d h row below meets_all statistics counted true e =
      pages_kept request file legal (get_or (groups_of file) k d) row below meets_all (index_at k d h e counted) (statistics.pages e counted)

  loses_no_row : (k : ℕ) (d : RowGroupMetaData) → k < length (groups_of file) → HasTrueStatistics request file (get_or (groups_of file) k d) → (row : ℕ) → row < (get_or (groups_of file) k d).num_rows → MeetsAll request file.bytes (get_or (groups_of file) k d) row
      → kept request file (get_or (groups_of file) k d) row ≡ true
  loses_no_row k d h statistics row below meets_all =
      let counted = counts request file legal (get_or (groups_of file) k d) row below meets_all statistics.whole in
      and_from _ _ counted (kept_if k d h row below meets_all statistics counted (prunes_pages request (groups_of file)) refl)

pub legal_bounds : (request : Request) (metadata : Option FileMetaData) → is_legal request metadata ≡ true → list_all (is_legal_bound_of request.fields) request.bounds ≡ true
legal_bounds request metadata h = (and_parts _ (list_all (is_legal_bound_of request.fields) request.bounds) (and_parts _ _ h).0).1

of_metadata : (request : Request) (bytes : List ℕ) (damaged : List Cause) (o : Option FileMetaData) → list_all (is_legal_bound_of request.fields) request.bounds ≡ true
    → option_map_or (file_causes request) (option_map (file_with bytes) o) damaged ≡ [] → IfSome (option_map (file_with bytes) o) (LosesNoRow request)
of_metadata request bytes damaged None legal none = tt
of_metadata request bytes damaged (Some metadata) legal none =
    let file = file_with bytes metadata in
    let indexes = nothing_first (index_causes request file) (read_causes request file) (nothing_next (metadata_causes request metadata) _ none) in
    loses_no_row request file legal indexes

pub loses_no_row_of_valid_files : LosesNoRowOfValidFiles
loses_no_row_of_valid_files request bytes legal valid = of_metadata request bytes (ExternalFormat ∷ []) (footer bytes) (legal_bounds request (footer bytes) legal) valid.none
