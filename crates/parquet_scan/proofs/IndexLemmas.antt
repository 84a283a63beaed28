-- The column index of one column, and the ends that it tells.
use Rattle.std.proofs.Common.{◌≡◌, ◌≤◌, ℕ, suc, ◌+◌, Bool, true, false, cond, List, [], ◌∷◌, ◌++◌, length, map, Option, Some, None, refl, sym, subst, ◌∙◌, ap, arith, inr}
use Rattle.std.specs.Prelude.{◌&&◌, ◌||◌, ◌==◌, IfSome, Result, Err, is_none, is_some, nat_eq, option_map, slice_get, unwrap_or, zip}
use Rattle.std.specs.Cmp.Lexicographic.{pointwise, same_text}
use Rattle.std.specs.List.{enumerate_from, list_all}
use Rattle.std.specs.Option.{option_map_or}
use Rattle.std.proofs.lemmas.Bool.{and_parts, eq-eqb, eqb-true, true≢false}
use Rattle.std.proofs.lemmas.List.{length-map}
use Rattle.std.proofs.lemmas.List.FromFn.{length-enumerate_from}
use Rattle.columns_core.specs.Causes.{Cause, ExternalFormat, IsOneOf, NotYetImplemented, and_then, unless}
use Rattle.columns_core.specs.declared.cell.Cell.{Cell}
use Rattle.columns_core.specs.declared.data_type.DataType.{DataType, fold-roll-DataType, ind-DataType, map-DataType, roll-DataType}
use Rattle.columns_core.specs.declared.data_type.Field.{Field, fold-Field}
use Rattle.columns_core.specs.declared.data_type.DataType.TheOpen.{DataType-F, Field-F}
use Rattle.columns_core.specs.declared.error.Part.{Part}
use Rattle.columns_core.specs.declared.error.Error.{Error}
use Rattle.columns_core.specs.declared.error.Error.TheVariants as error
use Rattle.parquet_base.specs.Reading.{◌>>=◌}
use Rattle.parquet_base.specs.declared.interval.Interval.{Interval}
use Rattle.parquet_meta.specs.Indexes.{FindsIndex, FindsIndexes, field_columns, has_index, is_broken, is_read, raw_index}
use Rattle.parquet_meta.specs.Lists.{all_of}
use Rattle.parquet_meta.specs.Indexes.{is_first as is_first_of}
use Rattle.parquet_meta.specs.TypedStatistics.{is_carried}
use Rattle.parquet_meta.specs.declared.metadata.ColumnChunkMetaData.{ColumnChunkMetaData}
use Rattle.parquet_meta.specs.declared.metadata.Index.{Index}
use Rattle.parquet_meta.specs.declared.metadata.PageIndex.{PageIndex}
use Rattle.parquet_meta.specs.declared.metadata.PhysicalType.{PhysicalType}
use Rattle.parquet_meta.specs.declared.metadata.PhysicalType.TheVariants as types
use Rattle.parquet_meta.specs.declared.metadata.PrimitiveLogicalType.{PrimitiveLogicalType}
use Rattle.parquet_meta.specs.Source.{IsReadFailure}
use Rattle.flat_values.specs.Conversion.{Conversion}
use Rattle.flat_values.specs.Pairs.{page_conversion, page_end_at, page_from_physical}
use Rattle.column_ends.specs.Converted.{causes_of_index, cell_page, each_made, index_cells, index_rule}
use Rattle.column_ends.specs.Told.{stored_pages}
use Rattle.parquet_scan.specs.declared.bound.Bound.{Bound}
use Rattle.parquet_scan.specs.Pages.{column_index_causes, count_causes, ends_of_page, page_ends}
use Rattle.parquet_scan.specs.Rows.{page_keeps}
use Rattle.parquet_scan.specs.Request.{begins, begins_a_path}
use Rattle.parquet_scan.proofs.CauseLemmas.{ComesFrom, tells_left, tells_right}
use Rattle.parquet_scan.proofs.LocationLemmas.{one_of}
use Rattle.parquet_scan.proofs.ScanLemmas.{fails_telling}

-- ---- the one column of a name

same_name : (name : List ℕ) (path : List (List ℕ)) → begins_a_path name path ≡ true → is_first_of name path ≡ true
same_name name [] e = absurd (true≢false (sym e))
same_name name (first ∷ others) e =
    let same : name ≡ first = same_text name first (sym e) in
    sym (λ i. pointwise nat_eq (same i) (sym same i)) ∙ e

one_column : (name : List ℕ) (column : ColumnChunkMetaData) → begins name column.descriptor ≡ true → field_columns name (column ∷ []) ≡ column ∷ []
one_column name column named = ap (λ b. cond b (column ∷ []) []) (same_name name column.descriptor.path_in_schema named)

pub finds_one : {X : Type 0} (view : X → List Index) (name : List ℕ) (column : ColumnChunkMetaData) (told : Option (List ℕ)) (before now : ℕ) (r : Result X Error) → begins name column.descriptor ≡ true
    → FindsIndexes view (field_columns name (column ∷ [])) told before now r → FindsIndexes view (column ∷ []) told before now r
finds_one view name column told before now r named finds = subst (λ columns. FindsIndexes view columns told before now r) (one_column name column named) finds

-- a refusal of the column's indexes is one of its index
pub refuses_one : {X : Type 0} (view : X → List Index) (column : ColumnChunkMetaData) (told : Option (List ℕ)) (before now : ℕ) (e : Error) → FindsIndexes view (column ∷ []) told before now (Err e) → FindsIndex column told before now (Err e)
refuses_one view column told before now (error.InvalidArgumentError p) finds = finds
refuses_one view column told before now (error.NotYetImplemented p) finds = by (is_read column) finds where
  by : (b : Bool) → (b && true) ≡ false → b ≡ false
  by true e = e
  by false e = refl
refuses_one view column None before now (error.ExternalFormat p) finds = tt
refuses_one view column (Some bytes) before now (error.ExternalFormat p) finds = by (is_broken bytes column) finds where
  by : (b : Bool) → (b || false) ≡ true → b ≡ true
  by true e = refl
  by false e = e
refuses_one view column told before now (error.OutOfSpec p) finds = absurd finds
refuses_one view column told before now error.Overflow finds = absurd finds
refuses_one view column told before now error.Io finds = finds
refuses_one view column told before now error.OutOfMemory finds = tt

last_index : (column : ColumnChunkMetaData) (told : Option (List ℕ)) (front : List Index) (index : Index) → IfSome told (λ bytes. all_of (raw_index bytes) (column ∷ []) ≡ Some (front ++ index ∷ [])) → IfSome told (λ bytes. raw_index bytes column ≡ Some index)
last_index column None front index e = tt
last_index column (Some bytes) front index e = by (raw_index bytes column) front (sym (one_of (raw_index bytes) column) ∙ e) where
  by : (o : Option Index) (front : List Index) → (o >>= λ y. Some (y ∷ [])) ≡ Some (front ++ index ∷ []) → o ≡ Some index
  by None front e = absurd cc
  by (Some found) [] e = cc
  by (Some found) (x ∷ []) e = absurd cc
  by (Some found) (x ∷ y ∷ front) e = absurd cc

-- the index that was read last is that of the column
pub gives_one : (column : ColumnChunkMetaData) (told : Option (List ℕ)) (items front : List Index) (index : Index) → items ≡ front ++ index ∷ []
    → (list_all is_read (column ∷ []) ≡ true) × (list_all has_index (column ∷ []) ≡ true) × IfSome told (λ bytes. all_of (raw_index bytes) (column ∷ []) ≡ Some items)
    → (is_read column ≡ true) × (has_index column ≡ true) × IfSome told (λ bytes. raw_index bytes column ≡ Some index)
gives_one column told items front index e finds = (
  (and_parts (is_read column) true finds.0).0,
  (and_parts (has_index column) true finds.1).0,
  last_index column told front index (subst (λ items. IfSome told (λ bytes. all_of (raw_index bytes) (column ∷ []) ≡ Some items)) e finds.2),
)

-- there is one
pub gives_some : (column : ColumnChunkMetaData) (told : Option (List ℕ)) (items : List Index) → items ≡ [] → IfSome told (λ bytes. all_of (raw_index bytes) (column ∷ []) ≡ Some items) → IfSome told (λ bytes. is_broken bytes column ≡ true)
gives_some column None items none e = tt
gives_some column (Some bytes) items none e = absurd (by (raw_index bytes column) (sym (one_of (raw_index bytes) column) ∙ e ∙ ap Some none)) where
  by : (o : Option Index) → (o >>= λ y. Some (y ∷ [])) ≡ Some [] → ⊥
  by None e = cc
  by (Some found) e = cc

-- ---- a column whose pages are read as a type

-- Floating point numbers are read as none.
abbrev Found : Type 0
Found = Option Conversion

abbrev field_found : Field-F Found Found → Found
field_found field = field.data_type

module _ (physical : PhysicalType) (logical : Option PrimitiveLogicalType) (none : (layer : DataType-F Found Found) → page_from_physical physical logical layer ≡ None) where
  abbrev IsNone : DataType → Type 0
  IsNone data_type = page_conversion physical logical data_type ≡ None

  abbrev in_field : Field → Found
  in_field = fold-Field Found Found (page_end_at physical logical) field_found

  abbrev found : DataType-F DataType Field → DataType-F Found Found
  found layer = map-DataType DataType Field Found Found (page_conversion physical logical) in_field layer

  at_roll : (layer : DataType-F DataType Field) → page_conversion physical logical (roll-DataType layer) ≡ page_end_at physical logical (found layer)
  unfolding page_conversion
  at_roll layer = fold-roll-DataType Found Found (page_end_at physical logical) field_found layer

  none_inside : (layer : DataType-F ((data_type : DataType) × IsNone data_type) (Field × Unit {0}))
      → page_end_at physical logical (found (map-DataType ((data_type : DataType) × IsNone data_type) (Field × Unit {0}) DataType Field (λ e. e.0) (λ e. e.0) layer)) ≡ None
  none_inside (DataType-F.Dictionary key value ordered) = value.1
  none_inside layer = none (found (map-DataType ((data_type : DataType) × IsNone data_type) (Field × Unit {0}) DataType Field (λ e. e.0) (λ e. e.0) layer))

  no_pages : (data_type : DataType) → IsNone data_type
  no_pages = ind-DataType IsNone (λ field. Unit {0}) (λ x y is. at_roll x ∙ subst (λ layer. page_end_at physical logical (found layer) ≡ None) is (none_inside y)) (λ x y is. tt)

page_carried : (physical : PhysicalType) (logical : Option PrimitiveLogicalType) (data_type : DataType) → is_some (page_conversion physical logical data_type) ≡ true → is_carried physical ≡ true
page_carried types.Float logical data_type some = absurd (true≢false (sym some ∙ ap is_some (no_pages types.Float logical (λ layer. refl) data_type)))
page_carried types.Double logical data_type some = absurd (true≢false (sym some ∙ ap is_some (no_pages types.Double logical (λ layer. refl) data_type)))
page_carried _ logical data_type some = refl

abbrev IsCarriedAs : DataType → ColumnChunkMetaData → Type 0
IsCarriedAs data_type column = is_some (index_rule column.descriptor.primitive_type data_type) ≡ true

abbrev found_causes : DataType → ℕ → ColumnChunkMetaData → Option Index → List Cause
found_causes data_type count column found =
    option_map_or (λ index. causes_of_index column.descriptor.primitive_type data_type index ++ count_causes count index) found (ExternalFormat ∷ [])

with_rule : (data_type : DataType) (count : ℕ) (bytes : List ℕ) (column : ColumnChunkMetaData) → IsCarriedAs data_type column → column_index_causes data_type count bytes column ≡ found_causes data_type count column (raw_index bytes column)
with_rule data_type count bytes column some = ap (λ b. and_then (unless b NotYetImplemented) (found_causes data_type count column (raw_index bytes column))) some

first_one : IsOneOf (ExternalFormat ∷ []) (Some ExternalFormat)
first_one = (0, omega arith, refl)

not_found : (read : Bool) (found : Option Index) → (read && is_none found) ≡ true → found ≡ None
not_found true None e = refl
not_found true (Some index) e = absurd (true≢false (sym e))
not_found false found e = absurd (true≢false (sym e))

-- a refusal of the index itself
pub index_refused : (data_type : DataType) (count : ℕ) (column : ColumnChunkMetaData) (told : Option (List ℕ)) (before now : ℕ) (e : Error) → IsCarriedAs data_type column
    → FindsIndex column told before now (Err e) → IsReadFailure told before now (λ bytes. column_index_causes data_type count bytes column) e
index_refused data_type count column told before now (error.InvalidArgumentError p) some finds = finds
index_refused data_type count column told before now (error.NotYetImplemented p) some finds =
    absurd (true≢false (sym (page_carried _ column.descriptor.primitive_type.logical_type data_type some) ∙ finds))
index_refused data_type count column None before now (error.ExternalFormat p) some finds = tt
index_refused data_type count column (Some bytes) before now (error.ExternalFormat p) some finds =
    subst (λ causes. IsOneOf causes (Some ExternalFormat))
    (sym (with_rule data_type count bytes column some ∙ ap (found_causes data_type count column) (not_found (is_read column) (raw_index bytes column) finds))) first_one
index_refused data_type count column told before now (error.OutOfSpec p) some finds = absurd finds
index_refused data_type count column told before now error.Overflow some finds = absurd finds
index_refused data_type count column told before now error.Io some finds = finds
index_refused data_type count column told before now error.OutOfMemory some finds = tt

-- what is wrong with the column index where it is there
pub index_found : (data_type : DataType) (count : ℕ) (column : ColumnChunkMetaData) (index : Index) (told : Option (List ℕ)) → IsCarriedAs data_type column → IfSome told (λ bytes. raw_index bytes column ≡ Some index)
    → IfSome told (λ bytes. column_index_causes data_type count bytes column ≡ causes_of_index column.descriptor.primitive_type data_type index ++ count_causes count index)
index_found data_type count column index None some is = tt
index_found data_type count column index (Some bytes) some is = with_rule data_type count bytes column some ∙ ap (found_causes data_type count column) is

-- a refusal of its ends
pub ends_refused : (data_type : DataType) (count : ℕ) (column : ColumnChunkMetaData) (index : Index) (told : Option (List ℕ)) (before now : ℕ) (e : Error) → IsCarriedAs data_type column
    → IfSome told (λ bytes. raw_index bytes column ≡ Some index) → ComesFrom (causes_of_index column.descriptor.primitive_type data_type index) e
    → IsReadFailure told before now (λ bytes. column_index_causes data_type count bytes column) e
ends_refused data_type count column index told before now e some is tells =
    fails_telling told before now (causes_of_index column.descriptor.primitive_type data_type index ++ count_causes count index) (λ bytes. column_index_causes data_type count bytes column) e
    (index_found data_type count column index told some is)
    (tells_left (causes_of_index column.descriptor.primitive_type data_type index) (count_causes count index) e tells)

-- as many are made as there are pages
each_end : {T : Type 0} (make : ℕ × PageIndex Cell → T) (rule : Option Conversion) (index : Index) (items : List T) → option_map (each_made make) (option_map (λ rule. map (cell_page rule) (stored_pages index)) rule) ≡ Some items
    → length items ≡ length (stored_pages index)
each_end make None index items e = absurd cc
each_end make (Some rule) index items e =
    let cells = map (cell_page rule) (stored_pages index) in
    let same : each_made make cells ≡ items = cc in
    ap length (sym same) ∙ length-map (enumerate_from 0 cells) make ∙ length-enumerate_from 0 cells ∙ length-map (stored_pages index) (cell_page rule)

-- and none or too many
other_count : (b : Bool) (m n : ℕ) → (m == n) ≡ b → (m ≡ n → ⊥) → b ≡ false
other_count true m n e apart = absurd (apart (eqb-true m n e))
other_count false m n e apart = refl

pub count_refused : {T : Type 0} (make : ℕ × PageIndex Cell → T) (data_type : DataType) (count : ℕ) (column : ColumnChunkMetaData) (index : Index) (items : List T) (told : Option (List ℕ)) (before now : ℕ) (part : Part)
    → IsCarriedAs data_type column → IfSome told (λ bytes. raw_index bytes column ≡ Some index) → option_map (each_made make) (index_cells column.descriptor.primitive_type data_type index) ≡ Some items → (length items ≡ count → ⊥)
    → IsReadFailure told before now (λ bytes. column_index_causes data_type count bytes column) (error.ExternalFormat part)
count_refused make data_type count column index items told before now part some is are apart =
    let stored = column.descriptor.primitive_type in
    let causes = causes_of_index stored data_type index in
    let same = each_end make (index_rule stored data_type) index items are in
    let wrong : count_causes count index ≡ ExternalFormat ∷ [] = ap (λ b. unless b ExternalFormat) (other_count (length (stored_pages index) == count) (length (stored_pages index)) count refl (λ e. apart (same ∙ e))) in
    fails_telling told before now (causes ++ count_causes count index) (λ bytes. column_index_causes data_type count bytes column) (error.ExternalFormat part)
    (index_found data_type count column index told some is)
    (tells_right causes (count_causes count index) (error.ExternalFormat part) (inr (subst (λ causes. IsOneOf causes (Some ExternalFormat)) (sym wrong) first_one)))

-- an index with nothing wrong
pub index_fine : {T : Type 0} (make : ℕ × PageIndex Cell → T) (data_type : DataType) (count : ℕ) (column : ColumnChunkMetaData) (index : Index) (items : List T) (told : Option (List ℕ)) → IsCarriedAs data_type column
    → IfSome told (λ bytes. raw_index bytes column ≡ Some index) → option_map (each_made make) (index_cells column.descriptor.primitive_type data_type index) ≡ Some items → length items ≡ count
    → causes_of_index column.descriptor.primitive_type data_type index ≡ [] → IfSome told (λ bytes. column_index_causes data_type count bytes column ≡ [])
index_fine make data_type count column index items None some is are same none = tt
index_fine make data_type count column index items (Some bytes) some is are same none =
    let many : length (stored_pages index) ≡ count = sym (each_end make (index_rule column.descriptor.primitive_type data_type) index items are) ∙ same in
    let fine : count_causes count index ≡ [] = ap (λ b. unless b ExternalFormat) (eq-eqb (length (stored_pages index)) count many) in
    index_found data_type count column index (Some bytes) some is ∙ (λ i. none i ++ fine i)

-- ---- the pages that a bound keeps

-- whether the page with a number may hold a row that meets a bound, where pages have these rows
abbrev pub numbered_keeps : (ℕ → Option Interval) → Bound → ℕ × PageIndex Cell → Bool
numbered_keeps rows bound told = option_map_or (λ rows. page_keeps bound (rows, ends_of_page told.1)) (rows told.0) false

-- pages one after another, from a number on
each_keeps : (from : ℕ → Option Interval) (bound : Bound) (n : ℕ) (rows : List Interval) (cells : List (PageIndex Cell)) → ((k : ℕ) → from (n + k) ≡ slice_get rows k) → length cells ≤ length rows
    → map (numbered_keeps from bound) (enumerate_from n cells) ≡ map (page_keeps bound) (zip rows (map ends_of_page cells))
each_keeps from bound n [] [] same enough = refl
each_keeps from bound n (row ∷ rows) [] same enough = refl
each_keeps from bound n [] (cell ∷ cells) same enough = absurd (omega (arith, enough))
each_keeps from bound n (row ∷ rows) (cell ∷ cells) same enough =
    let first : from n ≡ Some row = ap from (let e : n ≡ n + 0 = omega arith in e) ∙ same 0 in
    let rest = each_keeps from bound (n + 1) rows cells (λ k. ap from (let e : n + 1 + k ≡ n + suc k = omega arith in e) ∙ same (suc k)) (omega (arith, enough)) in
    λ i. option_map_or (λ rows. page_keeps bound (rows, ends_of_page cell)) (first i) false ∷ rest i

kept_cells : (bound : Bound) (rows : List Interval) (cells : Option (List (PageIndex Cell))) (keep : List Bool) → option_map (each_made (numbered_keeps (slice_get rows) bound)) cells ≡ Some keep → length keep ≡ length rows
    → map (page_keeps bound) (zip rows (map ends_of_page (unwrap_or cells []))) ≡ keep
kept_cells bound rows None keep e many = absurd cc
kept_cells bound rows (Some cells) keep e many =
    let make = numbered_keeps (slice_get rows) bound in
    let same : each_made make cells ≡ keep = cc in
    let count : length (each_made make cells) ≡ length cells = length-map (enumerate_from 0 cells) make ∙ length-enumerate_from 0 cells in
    sym (each_keeps (slice_get rows) bound 0 rows cells (λ k. ap (slice_get rows) (let e : 0 + k ≡ k = omega arith in e)) (omega (arith, ap length same, count, many))) ∙ same

pub pages_kept : (data_type : DataType) (bound : Bound) (rows : List Interval) (column : ColumnChunkMetaData) (index : Index) (keep : List Bool) (told : Option (List ℕ)) → IfSome told (λ bytes. raw_index bytes column ≡ Some index)
    → option_map (each_made (numbered_keeps (slice_get rows) bound)) (index_cells column.descriptor.primitive_type data_type index) ≡ Some keep → length keep ≡ length rows
    → IfSome told (λ bytes. map (page_keeps bound) (zip rows (page_ends data_type bytes column)) ≡ keep)
pages_kept data_type bound rows column index keep None is e many = tt
pages_kept data_type bound rows column index keep (Some bytes) is e many =
    let cells = index_cells column.descriptor.primitive_type data_type in
    ap (λ (found : Option Index). map (page_keeps bound) (zip rows (map ends_of_page (unwrap_or (found >>= cells) [])))) is ∙ kept_cells bound rows (cells index) keep e many
