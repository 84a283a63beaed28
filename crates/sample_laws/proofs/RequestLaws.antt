-- A request over a file All-weaker of whose is groups whole and true for the requested fields: the file is valid, and what it tells is true.
use Rattle.std.proofs.Common.{◌≡◌, ℕ, ◌-◌, ◌*◌, ◌≤◌, Bool, true, false, cond, List, [], ◌∷◌, Option, Some, None, refl, sym, ap, ◌∙◌, arith, length, map, take}
use Rattle.std.specs.Prelude.{All, filter, filter_map, flat_map, sum_by, zip}
use Rattle.std.specs.List.{list_all, range_with_len}
use Rattle.std.specs.Option.{option_map_or}
use Rattle.std.specs.Str.{bytes_eq}
use Rattle.std.proofs.lemmas.Bool.{and_parts, false≢true}
use Rattle.std.proofs.lemmas.List.{length-take}
use Rattle.std.proofs.lemmas.List.Elements.{All-head, All-tail, All-cons, All-nil, All-filter, All-weaker, recursion_from_All}
use Rattle.std.proofs.lemmas.List.FromFn.{length-range_with_len}
use Rattle.std.proofs.lemmas.List.Sums.{count_by-le-length, length-filter, sum_by-cons}
use Rattle.std.proofs.lemmas.Slice.Eq.{bytes_eq-Decides}
use Rattle.columns_core.specs.Types.{value_type}
use Rattle.columns_core.specs.declared.data_type.Field.{Field}
use Rattle.parquet_meta.specs.File.{footer}
use Rattle.parquet_meta.specs.declared.metadata.ColumnChunkMetaData.{ColumnChunkMetaData}
use Rattle.parquet_meta.specs.declared.metadata.ColumnDescriptor.{ColumnDescriptor}
use Rattle.parquet_meta.specs.declared.metadata.FileMetaData.{FileMetaData}
use Rattle.parquet_meta.specs.declared.metadata.RowGroupMetaData.{RowGroupMetaData}
use Rattle.page_decoding.specs.Bytes.{fits_most}
use Rattle.flat_values.specs.MostBytes.{most_bytes}
use Rattle.column_ends.specs.Converted.{bytes_of_one_end, high_of, low_of}
use Rattle.parquet_scan.specs.declared.bound.Bound.{Bound}
use Rattle.parquet_scan.specs.Causes.{IsValid, array_causes_of_bound, bounded_causes_of_group, bounded_cells, causes_of_bound, causes_of_column, causes_of_group, field_causes, index_causes, index_causes_of_bound, index_causes_of_group, metadata_causes, offset_causes_of_field, read_causes}
use Rattle.parquet_scan.specs.Request.{Request, are_values_of, bound_type, bounded_field, is_legal_bound_of}
use Rattle.parquet_scan.specs.Rows.{File, bounded_column, file_with, first_rows, group_counts, groups_of, groups_read, kept, kept_rows, prunes_pages, gives_rows}
use Rattle.parquet_scan.specs.Truth.{AreTrueCounts, AreTrueLocations, HasTrueCountsAndLocations, HasTrueStatistics, OnBound, OnField, has_true_index, has_true_statistics}
use Rattle.parquet_scan.proofs.SoundLists.{find_holds, find_passes}
use Rattle.sample_laws.proofs.FieldLaws.{IsGood}
use Rattle.sample_laws.proofs.PageLaws.{most}
use Rattle.sample_laws.proofs.RowLaws.{none_of_each, none_of_some}

-- nothing is wrong with a field in the schema, and the ends of many groups fit an array of its type
pub record IsGoodField (columns : List ColumnDescriptor) (field : Field) : Type 0 where
  pub causes : field_causes columns field ≡ []
  pub roomy : (count : ℕ) → count ≤ 2147483647 → fits_most (most_bytes (value_type (bound_type field))) count ≡ true

-- the field of a bound, which is one of the requested ones
record IsFieldOf (fields : List Field) (bound : Bound) : Type 0 where
  field : Field
  found : bounded_field fields bound ≡ Some field
  name : bound.field ≡ field.name

field-found : (fields : List Field) (bound : Bound) → is_legal_bound_of fields bound ≡ true → IsFieldOf fields bound
field-found fields bound legal = by (bounded_field fields bound) refl where
  by : (o : Option Field) → bounded_field fields bound ≡ o → IsFieldOf fields bound
  by None e = absurd (false≢true (sym (ap (λ (o : Option Field). option_map_or (λ (field : Field). are_values_of (bound_type field) bound) o false) e) ∙ legal))
  by (Some field) e = record { field = field; found = e; name = (bytes_eq-Decides bound.field field.name).0 (find_passes (λ (f : Field). bytes_eq bound.field f.name) fields field e) }

-- what holds of All-weaker field holds that of of a bound
field-holds : (P : Field → Type 0) (fields : List Field) (bound : Bound) (is : IsFieldOf fields bound) → All P fields → P is.field
field-holds P fields bound is all = find_holds P (λ (f : Field). bytes_eq bound.field f.name) fields is.field is.found (recursion_from_All P fields all)

each-legal : (fields : List Field) (bounds : List Bound) → list_all (is_legal_bound_of fields) bounds ≡ true → All (IsFieldOf fields) bounds
each-legal fields [] legal = All-nil (IsFieldOf fields)
each-legal fields (bound ∷ bounds) legal =
    let parts = and_parts (is_legal_bound_of fields bound) (list_all (is_legal_bound_of fields) bounds) legal in
    All-cons (IsFieldOf fields) bound bounds (field-found fields bound parts.0) (each-legal fields bounds parts.1)

-- ---- rows that are given

-- a group that is good, with no more rows than it has
pub record IsGoodRead (bytes : List ℕ) (fields : List Field) (read : RowGroupMetaData × List ℕ) : Type 0 where
  pub good : All (IsGood bytes read.0) fields
  pub within : length read.1 ≤ read.0.num_rows

few-kept : (request : Request) (file : File) (group : RowGroupMetaData) → length (kept_rows request file group) ≤ group.num_rows
few-kept request file group =
    let test = kept request file group in
    omega (arith, length-filter test (range_with_len 0 group.num_rows), count_by-le-length test (range_with_len 0 group.num_rows), length-range_with_len 0 group.num_rows)

reads-good : (request : Request) (file : File) (limit : Option ℕ) (fields : List Field) (groups : List RowGroupMetaData) → All (λ group. All (IsGood file.bytes group) fields) groups
    → All (IsGoodRead file.bytes fields) (zip groups (first_rows limit (map (kept_rows request file) groups)))
reads-good request file None fields [] all = All-nil (IsGoodRead file.bytes fields)
reads-good request file (Some left) fields [] all = All-nil (IsGoodRead file.bytes fields)
reads-good request file None fields (group ∷ groups) all =
    All-cons (IsGoodRead file.bytes fields) (group, kept_rows request file group) (zip groups (map (kept_rows request file) groups))
    (record { good = All-head (λ g. All (IsGood file.bytes g) fields) group groups all; within = few-kept request file group })
    (reads-good request file None fields groups (All-tail (λ g. All (IsGood file.bytes g) fields) group groups all))
reads-good request file (Some left) fields (group ∷ groups) all =
    let rows = kept_rows request file group in
    All-cons (IsGoodRead file.bytes fields) (group, take left rows) (zip groups (first_rows (Some (left - length rows)) (map (kept_rows request file) groups)))
    (record { good = All-head (λ g. All (IsGood file.bytes g) fields) group groups all; within = omega (arith, few-kept request file group, length-take left rows) })
    (reads-good request file (Some (left - length rows)) fields groups (All-tail (λ g. All (IsGood file.bytes g) fields) group groups all))

-- ---- a request

module _ (request : Request) (bytes : List ℕ) (metadata : FileMetaData) (found : footer bytes ≡ Some metadata) (fields : All (IsGoodField metadata.columns) request.fields)
    (groups : All (λ group. All (IsGood bytes group) request.fields) metadata.row_groups) (few : length metadata.row_groups ≤ 2000000) (legal : list_all (is_legal_bound_of request.fields) request.bounds ≡ true) where
  abbrev file : File
  file = file_with bytes metadata

  bounds-are : All (IsFieldOf request.fields) request.bounds
  bounds-are = each-legal request.fields request.bounds legal

  good-field : (bound : Bound) (is : IsFieldOf request.fields bound) (group : RowGroupMetaData) → All (IsGood bytes group) request.fields → IsGood bytes group is.field
  good-field bound is group all = field-holds (IsGood bytes group) request.fields bound is all

  column-is : (bound : Bound) (is : IsFieldOf request.fields bound) (group : RowGroupMetaData) (good : IsGood bytes group is.field) → bounded_column request.fields group bound ≡ Some (bound_type is.field, good.column)
  column-is bound is group good = rw (is.found, is.name, good.named) refl

  -- ---- statistics

  no_group_causes : (bound : Bound) (is : IsFieldOf request.fields bound) → All (λ group. bounded_causes_of_group request.fields bound group ≡ []) metadata.row_groups
  no_group_causes bound is =
      All-weaker (λ group. All (IsGood bytes group) request.fields) (λ group. bounded_causes_of_group request.fields bound group ≡ []) (λ group all. let good = good-field bound is group all in rw (column-is bound is group good, good.statistics) refl) metadata.row_groups groups

  lows-short : (bound : Bound) (is : IsFieldOf request.fields bound) (gs : List RowGroupMetaData) → All (λ group. All (IsGood bytes group) request.fields) gs → sum_by bytes_of_one_end (map low_of (filter_map (bounded_cells request.fields bound) gs)) ≤ most * length gs
  lows-short bound is [] all = omega arith
  lows-short bound is (group ∷ gs) all =
      let good = good-field bound is group (All-head (λ g. All (IsGood bytes g) request.fields) group gs all) in
      let others = lows-short bound is gs (All-tail (λ g. All (IsGood bytes g) request.fields) group gs all) in
      let cells : bounded_cells request.fields bound group ≡ Some good.cells = rw (column-is bound is group good) good.told in
      rw cells (omega (arith, sum_by-cons bytes_of_one_end good.cells.min_value (map low_of (filter_map (bounded_cells request.fields bound) gs)), good.low_short, others))

  highs-short : (bound : Bound) (is : IsFieldOf request.fields bound) (gs : List RowGroupMetaData) → All (λ group. All (IsGood bytes group) request.fields) gs → sum_by bytes_of_one_end (map high_of (filter_map (bounded_cells request.fields bound) gs)) ≤ most * length gs
  highs-short bound is [] all = omega arith
  highs-short bound is (group ∷ gs) all =
      let good = good-field bound is group (All-head (λ g. All (IsGood bytes g) request.fields) group gs all) in
      let others = highs-short bound is gs (All-tail (λ g. All (IsGood bytes g) request.fields) group gs all) in
      let cells : bounded_cells request.fields bound group ≡ Some good.cells = rw (column-is bound is group good) good.told in
      rw cells (omega (arith, sum_by-cons bytes_of_one_end good.cells.max_value (map high_of (filter_map (bounded_cells request.fields bound) gs)), good.high_short, others))

  no_array_causes : (bound : Bound) (is : IsFieldOf request.fields bound) → array_causes_of_bound request.fields metadata.row_groups bound ≡ []
  no_array_causes bound is =
      let roomy = (field-holds (IsGoodField metadata.columns) request.fields bound is fields).roomy in
      let lows = roomy (sum_by bytes_of_one_end (map low_of (filter_map (bounded_cells request.fields bound) metadata.row_groups))) (omega (arith, lows-short bound is metadata.row_groups groups, few)) in
      let highs = roomy (sum_by bytes_of_one_end (map high_of (filter_map (bounded_cells request.fields bound) metadata.row_groups))) (omega (arith, highs-short bound is metadata.row_groups groups, few)) in
      rw (is.found, lows, highs) refl

  no_bound_causes : All (λ bound. causes_of_bound request.fields metadata.row_groups bound ≡ []) request.bounds
  no_bound_causes =
      All-weaker (IsFieldOf request.fields) (λ bound. causes_of_bound request.fields metadata.row_groups bound ≡ []) (λ bound is. rw (none_of_each (bounded_causes_of_group request.fields bound) metadata.row_groups (no_group_causes bound is), no_array_causes bound is) refl) request.bounds bounds-are

  no_metadata_causes : metadata_causes request metadata ≡ []
  no_metadata_causes =
      let pairs = none_of_each (field_causes metadata.columns) request.fields (All-weaker (IsGoodField metadata.columns) (λ field. field_causes metadata.columns field ≡ []) (λ field good. good.causes) request.fields fields) in
      rw (pairs, none_of_each (causes_of_bound request.fields metadata.row_groups) request.bounds no_bound_causes) refl

  -- ---- indexes

  no_offset_causes : (group : RowGroupMetaData) → All (IsGood bytes group) request.fields → flat_map (offset_causes_of_field bytes group) request.fields ≡ []
  no_offset_causes group all =
      none_of_each (offset_causes_of_field bytes group) request.fields (All-weaker (IsGood bytes group) (λ field. offset_causes_of_field bytes group field ≡ []) (λ field good. rw (good.named, good.shape) refl) request.fields all)

  no_column_causes : (group : RowGroupMetaData) → All (IsGood bytes group) request.fields → flat_map (index_causes_of_bound request.fields bytes group) request.bounds ≡ []
  no_column_causes group all =
      none_of_each (index_causes_of_bound request.fields bytes group) request.bounds (All-weaker (IsFieldOf request.fields) (λ bound. index_causes_of_bound request.fields bytes group bound ≡ []) (λ bound is. let good = good-field bound is group all in rw (column-is bound is group good) good.index) request.bounds bounds-are)

  no_index_causes : index_causes request file ≡ []
  no_index_causes = by (prunes_pages request (groups_of file)) where
    by : (b : Bool) → cond b (flat_map (index_causes_of_group request.fields request.bounds bytes) (filter (group_counts request) metadata.row_groups)) [] ≡ []
    by false = refl
    by true =
        none_of_some (index_causes_of_group request.fields request.bounds bytes) (group_counts request) metadata.row_groups
        (All-weaker (λ group. All (IsGood bytes group) request.fields) (λ group. index_causes_of_group request.fields request.bounds bytes group ≡ []) (λ group all. rw (no_offset_causes group all, no_column_causes group all) refl) metadata.row_groups groups)

  -- ---- rows

  reads : All (IsGoodRead bytes request.fields) (groups_read request file)
  reads =
      All-filter gives_rows (IsGoodRead bytes request.fields) (zip metadata.row_groups (first_rows request.limit (map (kept_rows request file) metadata.row_groups))) (reads-good request file request.limit request.fields metadata.row_groups groups)

  no_read_causes : read_causes request file ≡ []
  no_read_causes =
      none_of_each (causes_of_group (prunes_pages request (groups_of file)) request.chunk_size request.fields bytes) (groups_read request file)
      (All-weaker (IsGoodRead bytes request.fields) (λ read. causes_of_group (prunes_pages request (groups_of file)) request.chunk_size request.fields bytes read ≡ []) (λ read good. none_of_each (causes_of_column (prunes_pages request (groups_of file)) request.chunk_size bytes read.0 read.1) request.fields
      (All-weaker (IsGood bytes read.0) (λ field. causes_of_column (prunes_pages request (groups_of file)) request.chunk_size bytes read.0 read.1 field ≡ []) (λ field is. rw (is.named) (is.read (prunes_pages request (groups_of file)) request.chunk_size read.1 good.within)) request.fields good.good)) (groups_read request file) reads)

  pub valid : IsValid request bytes
  valid = record { none = rw (found, no_metadata_causes, no_index_causes, no_read_causes) refl }

  -- ---- truth

  on-field : (Fact : RowGroupMetaData → ColumnChunkMetaData → Type 0) (group : RowGroupMetaData) → ((field : Field) (good : IsGood bytes group field) → Fact group good.column) → All (IsGood bytes group) request.fields → All (OnField Fact group) request.fields
  on-field Fact group fact all = All-weaker (IsGood bytes group) (OnField Fact group) (λ field good. rw good.named (fact field good)) request.fields all

  pub true_counts_and_locations : HasTrueCountsAndLocations request file
  true_counts_and_locations = record {
    counts = All-weaker (IsGoodRead bytes request.fields) (λ read. All (OnField (AreTrueCounts bytes) read.0) request.fields) (λ read good. on-field (AreTrueCounts bytes) read.0 (λ field is. is.counts) good.good) (groups_read request file) reads;
    located = λ prunes.
        All-filter (group_counts request) (λ group. All (OnField (AreTrueLocations bytes) group) request.fields) metadata.row_groups
        (All-weaker (λ group. All (IsGood bytes group) request.fields) (λ group. All (OnField (AreTrueLocations bytes) group) request.fields) (λ group all. on-field (AreTrueLocations bytes) group (λ field is. is.located) all) metadata.row_groups groups);
  }

  on-bound : (fact : RowGroupMetaData → Field → ColumnChunkMetaData → Bool) (group : RowGroupMetaData) → ((field : Field) (good : IsGood bytes group field) → fact group field good.column ≡ true) → All (IsGood bytes group) request.fields
      → All (OnBound fact request.fields group) request.bounds
  on-bound fact group is_true all =
      All-weaker (IsFieldOf request.fields) (OnBound fact request.fields group) (λ bound is. let good = good-field bound is group all in rw (is.found, good.named) (is_true is.field good)) request.bounds bounds-are

  pub true_statistics : All (HasTrueStatistics request file) metadata.row_groups
  true_statistics =
      All-weaker (λ group. All (IsGood bytes group) request.fields) (HasTrueStatistics request file) (λ group all. record {
        whole = on-bound (has_true_statistics bytes) group (λ field good. good.true_whole) all;
        pages = λ prunes counts. on-bound (has_true_index bytes) group (λ field good. good.true_pages) all;
      }) metadata.row_groups groups
