-- What is compared of a field is of one kind: its items, the ends that are known of them, and those of its bounds.
use Rattle.std.proofs.Common.{◌≡◌, ℕ, zero, suc, ℤ, ◌-◌, Bool, true, false, List, [], ◌∷◌, ◌++◌, length, map, refl, ◌∙◌, sym, ap}
use Rattle.std.specs.Prelude.{Option, Some, None, IfSome, ◌&&◌, find, is_some, nat_lt, option_and_then, option_map, slice_get, unwrap_or, if◌then◌else◌}
use Rattle.std.specs.List.{AllByRecursion, list_all}
use Rattle.std.specs.Option.{option_map_or}
use Rattle.std.proofs.lemmas.Bool.{false≢true, and_parts, cond-true, eqb-true}
use Rattle.std.proofs.lemmas.List.{length-map}
use Rattle.columns_core.specs.Causes.{Cause, ExternalFormat, NotYetImplemented, and_then, unless}
use Rattle.columns_core.specs.declared.cell.Cell.{Cell, Null, Bool as Truth, Int, DaysMs, Text, Bytes}
use Rattle.columns_core.specs.declared.data_type.DataType.{DataType, out-DataType}
use Rattle.columns_core.specs.declared.data_type.DataType.TheOpen.{DataType-F}
use Rattle.columns_core.specs.declared.data_type.Field.{Field}
use Rattle.columns_core.specs.declared.data_type.IntervalUnit.TheVariants.{YearMonth, DayTime}
use Rattle.columns_core.specs.Types.{Layer, is_ordered, is_ordered_at, is_text_at, number_range_at, value_type, value_type_at, is_in}
use Rattle.parquet_base.specs.Intervals.{holds}
use Rattle.parquet_base.specs.Reading.{◌>>=◌, given}
use Rattle.parquet_meta.specs.Indexes.{raw_index}
use Rattle.parquet_meta.specs.declared.metadata.ColumnChunkMetaData.{ColumnChunkMetaData}
use Rattle.parquet_meta.specs.declared.metadata.Ends.{Ends}
use Rattle.parquet_meta.specs.declared.metadata.Index.{Index}
use Rattle.parquet_meta.specs.declared.metadata.PageIndex.{PageIndex}
use Rattle.parquet_meta.specs.declared.metadata.PrimitiveType.{PrimitiveType}
use Rattle.parquet_meta.specs.declared.metadata.RowGroupMetaData.{RowGroupMetaData}
use Rattle.parquet_page.specs.Chunk.{ChunkPage, PlacedPage}
use Rattle.parquet_page.proofs.SpelledLemmas.{none_of}
use Rattle.flat_values.specs.CellTypes.{cell_range_at, is_cell_at, is_cell_of}
use Rattle.flat_values.specs.Conversion.{Conversion, Item, Value, NotInRange, NotText}
use Rattle.flat_values.specs.Sound.{is_item_of}
use Rattle.flat_values.proofs.PageLemmas.{page_has_type}
use Rattle.column_ends.specs.Converted.{as_cell, causes_of_index, cell_page, group_cells, index_cells, index_rule}
use Rattle.column_ends.specs.Laws.{AreEndsOf, IsEndOf}
use Rattle.column_ends.specs.Told.{stored_pages}
use Rattle.column_ends.proofs.EndTypes.{group_ends_have_type, page_ends_have_type}
use Rattle.parquet_scan.specs.declared.bound.Bound.{Bound}
use Rattle.parquet_scan.specs.declared.bound.Scalar.{Scalar}
use Rattle.parquet_scan.specs.Bound.{KnownEnds, known_value}
use Rattle.parquet_scan.specs.Cells.{Reading, cell, column_cell, column_item, content_of, dictionary_content, is_null_type, item_at, item_in, items_in, rows_of_placed, walked_item, walked_pages, walked_reading}
use Rattle.parquet_scan.specs.Pages.{column_index_causes, count_causes, ends_of_page, locations, page_ends}
use Rattle.parquet_scan.specs.Request.{are_values_of, bound_type, is_value_of}
use Rattle.parquet_scan.specs.Rows.{column_named, group_ends, known_ends, no_ends_known}
use Rattle.parquet_scan.specs.Truth.{items_of}
use Rattle.parquet_scan.proofs.Exact.{IsItemIn, kind-bytes, kind-int, kind-of_value, kind_at}
use Rattle.parquet_scan.proofs.Order.{kind}
use Rattle.parquet_scan.proofs.SoundLists.{all_found, and_then_all, append_nil}

-- a value of the kind that a type's values have
abbrev pub IsKind : DataType → Scalar → Type 0
IsKind data_type value = kind value ≡ kind_at (out-DataType data_type)

pub of_one_kind : (data_type : DataType) (a b : Scalar) → IsKind data_type a → IsKind data_type b → kind a ≡ kind b
of_one_kind data_type a b x y = x ∙ sym y

-- ---- cells

abbrev IsOrderedAt : Layer → Type 0
IsOrderedAt layer = is_ordered_at layer (is_some (number_range_at layer)) (is_text_at layer) ≡ true

-- months are numbers, but not compared
int_kind : (layer : Layer) (n : ℤ) → IsOrderedAt layer → option_map_or (λ range. is_in range n) (cell_range_at layer) false ≡ true → 0 ≡ kind_at layer
int_kind (DataType-F.Interval YearMonth) n ordered of_type = absurd (false≢true ordered)
int_kind (DataType-F.Interval DayTime) n ordered of_type = absurd (false≢true ordered)
int_kind layer n ordered of_type = kind-int layer n of_type

-- null, or a value of a kind
abbrev pub IsItem : DataType → Cell → Type 0
IsItem data_type item = IsItemIn (IsKind data_type) item

abbrev IsItemAt : Layer → Cell → Type 0
IsItemAt layer item = IsItemIn (λ value. kind value ≡ kind_at layer) item

no_truth : (layer : Layer) (b : Bool) → IsOrderedAt layer → is_cell_at layer (Truth b) ≡ true → IsItemAt layer (Truth b)
no_truth DataType-F.Boolean b ordered of_type = absurd (false≢true ordered)
no_truth _ b ordered of_type = absurd (false≢true of_type)

no_interval : (layer : Layer) (days milliseconds : ℤ) → IsOrderedAt layer → is_cell_at layer (DaysMs days milliseconds) ≡ true → IsItemAt layer (DaysMs days milliseconds)
no_interval (DataType-F.Interval unit) days milliseconds ordered of_type = absurd (false≢true ordered)
no_interval _ days milliseconds ordered of_type = absurd (false≢true of_type)

cell_kind : (layer : Layer) (item : Cell) → IsOrderedAt layer → is_cell_at layer item ≡ true → IsItemAt layer item
cell_kind layer Null ordered of_type = refl
cell_kind layer (Truth b) ordered of_type = no_truth layer b ordered of_type
cell_kind layer (Int n) ordered of_type = int_kind layer n ordered of_type
cell_kind layer (DaysMs days milliseconds) ordered of_type = no_interval layer days milliseconds ordered of_type
cell_kind layer (Text text) ordered of_type = sym (cond-true _ _ _ (and_parts (is_text_at layer) _ of_type).0)
cell_kind layer (Bytes bytes) ordered of_type = kind-bytes layer (length bytes) of_type
cell_kind layer _ ordered of_type = absurd (false≢true of_type)

-- ---- items

-- the items of a page are of the type that is asked for
at_place : (test : Item → Bool) (items : List Item) (place : ℕ) → list_all test items ≡ true → IfSome (slice_get items place) (λ item. test item ≡ true)
at_place test [] place all = tt
at_place test (item ∷ items) zero all = (and_parts (test item) (list_all test items) all).0
at_place test (item ∷ items) (suc place) all = at_place test items place (and_parts (test item) (list_all test items) all).1

item_of_type : (reading : Reading) (place : ℕ) (page : ChunkPage) → IfSome (item_at reading place page) (λ item. is_item_of reading.data_type item ≡ true)
item_of_type reading place page = by (items_in reading page) refl where
  by : (o : Option (List Item)) → items_in reading page ≡ o → IfSome (option_and_then (λ items. slice_get items place) o) (λ item. is_item_of reading.data_type item ≡ true)
  by None e = tt
  by (Some items) e = at_place (is_item_of reading.data_type) items place (page_has_type reading.data_type (dictionary_content reading.dictionary) (content_of reading.stored page) items e)

walked_of_type : (bytes : List ℕ) (group : RowGroupMetaData) (data_type : DataType) (column : ColumnChunkMetaData) (row : ℕ) → IfSome (walked_item bytes group data_type column row) (λ item. is_item_of data_type item ≡ true)
walked_of_type bytes group data_type column row =
    let reading = walked_reading bytes group data_type column in
    and_then_all (find (λ (placed : PlacedPage). holds (rows_of_placed placed) row) (walked_pages bytes group column)) (item_in reading row) (λ item. is_item_of data_type item ≡ true)
    (λ placed. item_of_type reading (row - placed.first_row) placed.page)

column_of_type : (bytes : List ℕ) (group : RowGroupMetaData) (data_type : DataType) (column : ColumnChunkMetaData) (row : ℕ) → IfSome (column_item false bytes group data_type column row) (λ item. is_item_of data_type item ≡ true)
column_of_type bytes group data_type column row = by (is_null_type data_type) (nat_lt row group.num_rows) where
  by : (null below : Bool) → IfSome (if null then given below (Value Null) else walked_item bytes group data_type column row) (λ item. is_item_of data_type item ≡ true)
  by true true = refl
  by true false = tt
  by false below = walked_of_type bytes group data_type column row

module _ (bytes : List ℕ) (group : RowGroupMetaData) (field : Field) (ordered : is_ordered (bound_type field) ≡ true) where
  item_if : (o : Option Item) → IfSome o (λ item. is_item_of field.data_type item ≡ true) → IfSome (option_and_then as_cell o) (IsItem (bound_type field))
  item_if None of_type = tt
  item_if (Some NotInRange) of_type = tt
  item_if (Some NotText) of_type = tt
  item_if (Some (Value item)) of_type = cell_kind (out-DataType (bound_type field)) item ordered of_type

  field_kind : (row : ℕ) → IfSome (cell bytes group field row) (IsItem (bound_type field))
  field_kind row =
      and_then_all (column_named group field.name) (λ column. column_cell false bytes group field.data_type column row) (IsItem (bound_type field))
      (λ column. item_if (column_item false bytes group field.data_type column row) (column_of_type bytes group field.data_type column row))

  pub items_are_of_kind : (rows : List ℕ) → AllByRecursion (IsItem (bound_type field)) (items_of bytes group field rows)
  items_are_of_kind rows = all_found (IsItem (bound_type field)) (cell bytes group field) field_kind rows

-- ---- the ends of groups and pages

-- an ordered type is no dictionary's
own_type : (data_type : DataType) (layer : Layer) → IsOrderedAt layer → value_type_at data_type layer ≡ data_type
own_type data_type (DataType-F.Dictionary key value is) ordered = absurd (false≢true ordered)
own_type data_type _ ordered = refl

abbrev pub AreKind : DataType → KnownEnds → Type 0
AreKind data_type ends = IfSome ends.low (IsKind data_type) × IfSome ends.high (IsKind data_type)

module _ (data_type : DataType) (ordered : is_ordered data_type ≡ true) where
  own : value_type data_type ≡ data_type
  own = own_type data_type (out-DataType data_type) ordered

  value_kind : (item : Cell) → is_cell_of data_type item ≡ true → IsItem data_type item
  value_kind item of_type = cell_kind (out-DataType data_type) item ordered (sym (ap (λ own. is_cell_at (out-DataType own) item) own) ∙ of_type)

  end_kind : (end : Option Cell) → IsEndOf data_type end → IfSome (known_value end) (IsKind data_type)
  end_kind None of_type = tt
  end_kind (Some Null) of_type = tt
  end_kind (Some (Truth b)) of_type = tt
  end_kind (Some (Int n)) of_type = value_kind (Int n) of_type
  end_kind (Some (Text text)) of_type = value_kind (Text text) of_type
  end_kind (Some (Bytes bytes)) of_type = value_kind (Bytes bytes) of_type
  end_kind (Some _) of_type = tt

  pub group_ends_are_of_kind : (column : ColumnChunkMetaData) → AreKind data_type (group_ends data_type column)
  group_ends_are_of_kind column = by (group_cells data_type column) refl where
    by : (o : Option (Ends Cell)) → group_cells data_type column ≡ o → AreKind data_type (option_map_or known_ends o no_ends_known)
    by None e = (tt, tt)
    by (Some ends) e =
        let typed = group_ends_have_type data_type column ends own e in
        (end_kind ends.min_value typed.0, end_kind ends.max_value typed.1)

  each_kind : (pages : List (PageIndex Cell)) → AllByRecursion (AreEndsOf data_type) pages → AllByRecursion (AreKind data_type) (map ends_of_page pages)
  each_kind [] typed = tt
  each_kind (page ∷ pages) typed = ((end_kind page.min typed.0.0, end_kind page.max typed.0.1), each_kind pages typed.1)

  pub page_ends_are_of_kind : (bytes : List ℕ) (column : ColumnChunkMetaData) → AllByRecursion (AreKind data_type) (page_ends data_type bytes column)
  page_ends_are_of_kind bytes column = by (raw_index bytes column) refl where
    stored : PrimitiveType
    stored = column.descriptor.primitive_type

    found : (index : Index) (o : Option (List (PageIndex Cell))) → raw_index bytes column ≡ Some index → index_cells stored data_type index ≡ o → AllByRecursion (AreKind data_type) (map ends_of_page (unwrap_or o []))
    found index None is e = tt
    found index (Some pages) is e = each_kind pages (page_ends_have_type data_type bytes column index pages own is e)

    by : (o : Option Index) → raw_index bytes column ≡ o → AllByRecursion (AreKind data_type) (map ends_of_page (unwrap_or (o >>= index_cells stored data_type) []))
    by None e = tt
    by (Some index) e = found index (index_cells stored data_type index) e refl

-- an index without a cause tells of each location
each_told : (rule : Option Conversion) (index : Option Index) (count : ℕ) (causes : Index → List Cause)
    → and_then (unless (is_some rule) NotYetImplemented) (option_map_or (λ index. causes index ++ count_causes count index) index (ExternalFormat ∷ [])) ≡ []
    → length (map ends_of_page (unwrap_or (index >>= λ index. option_map (λ rule. map (cell_page rule) (stored_pages index)) rule) [])) ≡ count
each_told None index count causes none = absurd cc
each_told (Some rule) None count causes none = absurd cc
each_told (Some rule) (Some index) count causes none =
    let parts = append_nil (causes index) (count_causes count index) none in
    length-map (map (cell_page rule) (stored_pages index)) ends_of_page ∙ length-map (stored_pages index) (cell_page rule) ∙ eqb-true (length (stored_pages index)) count (none_of _ ExternalFormat parts.1)

pub tells_of_locations : (data_type : DataType) (bytes : List ℕ) (column : ColumnChunkMetaData) → column_index_causes data_type (length (locations bytes column)) bytes column ≡ []
    → length (page_ends data_type bytes column) ≡ length (locations bytes column)
tells_of_locations data_type bytes column none =
    let stored = column.descriptor.primitive_type in
    each_told (index_rule stored data_type) (raw_index bytes column) (length (locations bytes column)) (causes_of_index stored data_type) none

-- ---- bounds

bound_kind : (data_type : DataType) (end : Option Scalar) → option_map_or (is_value_of data_type) end true ≡ true → IfSome end (IsKind data_type)
bound_kind data_type None of_type = tt
bound_kind data_type (Some value) of_type = kind-of_value data_type value of_type

-- the type of a bound is ordered, and its values are of one kind
pub record HasKind (data_type : DataType) (bound : Bound) : Type 0 where
  pub ordered : is_ordered data_type ≡ true
  pub low : IfSome bound.low (IsKind data_type)
  pub high : IfSome bound.high (IsKind data_type)

pub bound_has_kind : (data_type : DataType) (bound : Bound) → are_values_of data_type bound ≡ true → HasKind data_type bound
bound_has_kind data_type bound legal =
    let high = and_parts (is_ordered data_type && option_map_or (is_value_of data_type) bound.low true) (option_map_or (is_value_of data_type) bound.high true) legal in
    let low = and_parts (is_ordered data_type) (option_map_or (is_value_of data_type) bound.low true) high.0 in
    record { ordered = low.0; low = bound_kind data_type bound.low low.1; high = bound_kind data_type bound.high high.1 }
