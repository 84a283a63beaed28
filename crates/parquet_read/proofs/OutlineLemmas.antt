-- What is known of columns that are opened, whatever their pages are.
use Rattle.std.proofs.Common.{◌≡◌, ◌∙◌, ℕ, ◌≤◌, Bool, true, false, List, [], ◌∷◌, ◌++◌, length, map, sum, refl, sym, ap, arith, append_assoc, Option, Some, None}
use Rattle.std.specs.Prelude.{◌*◌, ◌==◌, IfOk, IfSome, Result, Ok, Err, is_some, min, nat_le, sum_by, if◌then◌else◌, option_map, zip}
use Rattle.std.specs.Option.{option_map_or}
use Rattle.std.proofs.lemmas.Bool.{and_parts, eqb-true}
use Rattle.std.proofs.lemmas.List.{append-nil, length-replicate}
use Rattle.std.proofs.lemmas.List.Sums.{sum-map, sum_by-cons}
use Rattle.std.proofs.lemmas.Simd.{map-map}
use Rattle.columns_core.specs.Causes.{ExternalFormat, NotYetImplemented, unless}
use Rattle.columns_core.specs.declared.cell.Cell.{Null}
use Rattle.columns_core.specs.Types.{Layer}
use Rattle.columns_core.specs.declared.data_type.DataType.{DataType, out-DataType, roll-DataType, roll-out-DataType}
use Rattle.columns_core.specs.declared.data_type.DataType.TheOpen.{DataType-F}
use Rattle.columns_core.specs.declared.data_type.DataType as type
use Rattle.columns_core.specs.declared.data_type.Field.{Field}
use Rattle.columns_core.specs.declared.error.Error.{Error}
use Rattle.parquet_meta.specs.Chunks.{has_each_value, most_values}
use Rattle.parquet_meta.specs.declared.metadata.ColumnChunkMetaData.{ColumnChunkMetaData}
use Rattle.parquet_meta.specs.declared.metadata.PhysicalType.{PhysicalType}
use Rattle.parquet_page.specs.Lent.{selected_count}
use Rattle.parquet_page.specs.declared.page.FilteredPage.{FilteredPage}
use Rattle.page_decoding.specs.Outcome.{Given}
use Rattle.flat_values.specs.ColumnLeft.{ColumnLeft}
use Rattle.flat_values.specs.Conversion.{Conversion}
use Rattle.flat_values.specs.NullChunks.{nulls_left}
use Rattle.flat_values.specs.Pairs.{conversion}
use Rattle.flat_binary.specs.Left.{Supply, converted_left}
use Rattle.flat_binary.specs.NullType.{is_null_at, is_null_type}
use Rattle.flat_binary.specs.Begun.{BeginsColumn, column_left}
use Rattle.parquet_read.specs.Asked.{AskedField, GroupReading, PageLists, asked_causes, asked_column, asked_fields, asked_outline, column_asked_causes, form_causes, have_one_list, pages_within, range_causes, rows_asked, selected_rows_of, size_asked}
use Rattle.parquet_read.specs.Opening.{ChunkBytes, Outline, chunk_supply, lone, opened_left, opened_outline, outline_of, rows_there, rows_wanted, size_within}
use Rattle.parquet_read.specs.Rows.{limited}
use Rattle.parquet_read.proofs.ColumnLemmas.{unless_true}
use Rattle.parquet_read.proofs.FoundLemmas.{nil_parts}

-- ---- one column

null_layer : (layer : Layer) → is_null_at layer ≡ true → layer ≡ DataType-F.Null
null_layer DataType-F.Null is = refl
null_layer layer is = absurd cc

null_type : (data_type : DataType) → is_null_type data_type ≡ true → data_type ≡ type.Null
unfolding out-DataType denote.Hole.Carrier.out
null_type data_type is =
    sym (roll-out-DataType data_type) ∙ ap roll-DataType (null_layer (out-DataType data_type) is ∙ sym (null_layer (out-DataType type.Null) refl)) ∙ roll-out-DataType type.Null

abbrev outline : DataType → Option ℕ → ℕ → ℕ → Outline
outline data_type size rows lent = record { data_type = data_type; size = size; rows = rows; lent = lent }

alike : (own data_type : DataType) (size : Option ℕ) (count rows lent : ℕ) → own ≡ data_type → count ≡ rows → lent ≡ 0 → outline own size count lent ≡ outline data_type size rows 0
alike own data_type size count rows lent typed counted none =
    ap (λ (t : DataType). outline t size count lent) typed ∙ ap (λ (n : ℕ). outline data_type size n lent) counted ∙ ap (λ (n : ℕ). outline data_type size rows n) none

pub column_outline : (physical : PhysicalType) (data_type : DataType) (size : Option ℕ) (rows : ℕ) (supply : Supply) (rule : Conversion) → rows ≤ supply.row_count → supply.lent ≡ 0
    → outline_of (column_left physical data_type size rows supply rule) ≡ outline data_type size rows 0
column_outline physical data_type size rows supply rule there none = go (is_null_type data_type) refl where
  go : (b : Bool) → is_null_type data_type ≡ b
      → outline_of (if b then nulls_left (record { size = size; rows = min rows supply.row_count }) else converted_left physical data_type size rows supply rule) ≡ outline data_type size rows 0
  go true is =
      let nulls = nulls_left (record { size = size; rows = min rows supply.row_count }) in
      alike type.Null data_type size (rows_wanted nulls) rows 0 (sym (null_type data_type is)) (omega (arith, there, length-replicate (min rows supply.row_count) (Given Null))) refl
  go false is =
      let values = converted_left physical data_type size rows supply rule in
      alike data_type data_type size (rows_wanted values) rows supply.lent refl (omega arith) none

-- of pages that are opened
pub pages_outline : {X : Type 0} (left_of : X → ColumnLeft) (known : Outline) (made : Conversion → ColumnLeft) (rule : Option Conversion) (result : Result X Error) → is_some rule ≡ true
    → ((r : Conversion) → outline_of (made r) ≡ known) → IfSome rule (λ r. BeginsColumn left_of (made r) result) → IfOk result (λ arrays. outline_of (left_of arrays) ≡ known)
pages_outline left_of known made None (Ok arrays) carried is begins = absurd cc
pages_outline left_of known made (Some r) (Ok arrays) carried is begins = ap outline_of begins.begun ∙ is r
pages_outline left_of known made rule (Err e) carried is begins = tt

fresh_supply_lent : (chunk : ChunkBytes) (entries : Option (List FilteredPage)) → (chunk_supply chunk entries).lent ≡ 0
fresh_supply_lent chunk None = refl
fresh_supply_lent chunk (Some entries) = refl

supply_rows : (chunk : ChunkBytes) (entries : Option (List FilteredPage)) → (chunk_supply chunk entries).row_count ≡ rows_there chunk.0 entries
supply_rows chunk None = refl
supply_rows chunk (Some entries) = refl

-- of a chunk
pub chunk_outline : {X : Type 0} (left_of : X → ColumnLeft) (data_type : DataType) (size : Option ℕ) (rows : ℕ) (entries : Option (List FilteredPage)) (chunk : ChunkBytes) (result : Result X Error)
    → rows ≤ rows_there chunk.0 entries → IfOk result (λ arrays. Some (left_of arrays) ≡ opened_left data_type size rows entries chunk) → IfOk result (λ arrays. outline_of (left_of arrays) ≡ opened_outline data_type size rows)
chunk_outline left_of data_type size rows entries chunk (Err e) there begins = tt
chunk_outline left_of data_type size rows entries chunk (Ok arrays) there begins = go (conversion chunk.0.descriptor.primitive_type data_type) begins where
  made : Conversion → ColumnLeft
  made rule = column_left chunk.0.descriptor.primitive_type.physical_type data_type (size_within rows size) rows (chunk_supply chunk entries) rule

  go : (rule : Option Conversion) → Some (left_of arrays) ≡ option_map made rule → outline_of (left_of arrays) ≡ opened_outline data_type size rows
  go None is = absurd (let bad : Some (left_of arrays) ≡ None = is in cc)
  go (Some rule) is =
      let same : left_of arrays ≡ made rule = (let own : Some (left_of arrays) ≡ Some (made rule) = is in cc) in
      ap outline_of same ∙ column_outline chunk.0.descriptor.primitive_type.physical_type data_type (size_within rows size) rows (chunk_supply chunk entries) rule (omega (arith, there, supply_rows chunk entries)) (fresh_supply_lent chunk entries)

-- ---- how many rows there are

-- Of a field that is readable no more rows are asked for than its column has.
pub rows_fit : (reading : GroupReading) (asked : AskedField) (column : ColumnChunkMetaData) → asked_column reading asked ≡ Some column → asked_causes reading asked ≡ [] → rows_asked reading asked ≤ rows_there column asked.1
rows_fit reading asked column one none = by asked.1 refl where
  causes : column_asked_causes reading asked column ≡ []
  causes = sym (ap (λ (o : Option ColumnChunkMetaData). option_map_or (column_asked_causes reading asked) o (NotYetImplemented ∷ [])) one) ∙ none

  each : has_each_value reading.group.num_rows column ≡ true
  each =
      let others = range_causes (is_null_type asked.0.data_type) column asked.1 in
      let own = unless (has_each_value reading.group.num_rows column) ExternalFormat in
      let both = nil_parts (form_causes asked.0.data_type column) (own ++ others) causes in
      unless_true (has_each_value reading.group.num_rows column) ExternalFormat (nil_parts own others both.1).0

  same : column.num_values ≡ reading.group.num_rows
  same = eqb-true _ _ (and_parts (column.num_values == reading.group.num_rows) (nat_le column.num_values (most_values * column.total_compressed_size)) each).0

  within : (limit : Option ℕ) (rows : ℕ) → limited limit rows ≤ rows
  within None rows = omega arith
  within (Some limit) rows = omega arith

  by : (o : Option (List FilteredPage)) → asked.1 ≡ o → limited reading.limit (selected_rows_of reading.group asked.1) ≤ rows_there column asked.1
  by None is = rw is (omega (arith, within reading.limit reading.group.num_rows, same))
  by (Some entries) is = rw is (within reading.limit (selected_count entries))

-- ---- lists

-- what is made of one more
pub one_more : {A : Type 0} (made others all : List A) (one own : A) → made ++ one ∷ others ≡ all → own ≡ one → (made ++ own ∷ []) ++ others ≡ all
one_more {A} made others all one own is same = append_assoc made (own ∷ []) others ∙ ap (λ (x : A). made ++ x ∷ others) same ∙ is

pub all_made : {A : Type 0} (made others all : List A) → others ≡ [] → made ++ others ≡ all → made ≡ all
all_made {A} made others all none is = sym (append-nil made) ∙ ap (λ (l : List A). made ++ l) (sym none) ∙ is

-- What is the same of all is so of its parts.
parts_same : {X Y A B : Type 0} (view : X → A) (views : Y → A) (part : A → B) (xs : List X) (ys : List Y) → map view xs ≡ map views ys → map (λ x. part (view x)) xs ≡ map (λ y. part (views y)) ys
parts_same view views part xs ys same = sym (map-map part view xs) ∙ ap (map part) same ∙ map-map part views ys

split : {A : Type 0} (x y : A) (xs ys : List A) → x ∷ xs ≡ y ∷ ys → (x ≡ y) × (xs ≡ ys)
split x y xs ys same = (cc, cc)

none_counted : {X Y : Type 0} (count : X → ℕ) (xs : List X) (ys : List Y) → map count xs ≡ map (λ _. 0) ys → sum_by count xs ≡ 0
none_counted count [] ys same = refl
none_counted count (x ∷ xs) [] same = absurd (let bad : count x ∷ map count xs ≡ [] = same in cc)
none_counted {X} {Y} count (x ∷ xs) (y ∷ ys) same =
    let both = split (count x) 0 (map count xs) (map (λ (y : Y). 0) ys) same in
    omega (arith, sum_by-cons count x xs, both.0, none_counted count xs ys both.1)

pub sum_of_map : {X Y : Type 0} (count : Y → ℕ) (view : X → Y) (xs : List X) → sum_by count (map view xs) ≡ sum_by (λ x. count (view x)) xs
sum_of_map count view xs = sym (sum-map count (map view xs)) ∙ ap sum (map-map count view xs) ∙ sum-map (λ x. count (view x)) xs

-- ---- the columns of fields

-- the fields are of the types that are asked for
zip_types : (fields : List Field) (lists : PageLists) → length lists ≡ length fields → map (λ (own : Field × List (List FilteredPage)). own.0.data_type) (zip fields lists) ≡ map (λ (field : Field). field.data_type) fields
zip_types [] lists same = refl
zip_types (field ∷ fields) [] same = absurd (omega (arith, same))
zip_types (field ∷ fields) (own ∷ lists) same = ap (λ (l : List DataType). field.data_type ∷ l) (zip_types fields lists (omega (arith, same)))

pub asked_types : (limit : Option ℕ) (fields : List Field) (lists : Option PageLists) → have_one_list (length fields) lists ≡ true
    → map (λ (asked : AskedField). asked.0.data_type) (asked_fields limit fields lists) ≡ map (λ (field : Field). field.data_type) fields
asked_types limit fields None paired = map-map (λ (asked : AskedField). asked.0.data_type) (λ (field : Field). let own : AskedField = (field, None) in own) fields
asked_types limit fields (Some lists) paired =
    map-map (λ (asked : AskedField). asked.0.data_type) (λ (own : Field × List (List FilteredPage)). let asked : AskedField = (own.0, option_map (pages_within limit) (lone own.1)) in asked) (zip fields lists)
    ∙ zip_types fields lists (eqb-true _ _ (and_parts _ _ paired).0)

module _ {X : Type 0} (left_of : X → ColumnLeft) (reading : GroupReading) (asked : List AskedField) (columns : List X) where
  abbrev AreKnown : Type 0
  AreKnown = map (λ column. outline_of (left_of column)) columns ≡ map (asked_outline reading) asked

  pub types_known : (fields : List Field) → map (λ (one : AskedField). one.0.data_type) asked ≡ map (λ (field : Field). field.data_type) fields → AreKnown
      → map (λ column. (left_of column).data_type) columns ≡ map (λ (field : Field). field.data_type) fields
  types_known fields types known = parts_same (λ column. outline_of (left_of column)) (asked_outline reading) (λ (o : Outline). o.data_type) columns asked known ∙ types

  pub rows_known : AreKnown → map (λ column. rows_wanted (left_of column)) columns ≡ map (rows_asked reading) asked
  rows_known known = parts_same (λ column. outline_of (left_of column)) (asked_outline reading) (λ (o : Outline). o.rows) columns asked known

  pub sizes_known : AreKnown → map (λ column. (left_of column).size) columns ≡ map (size_asked reading) asked
  sizes_known known = parts_same (λ column. outline_of (left_of column)) (asked_outline reading) (λ (o : Outline). o.size) columns asked known

  pub none_lent_known : AreKnown → sum_by (λ column. (left_of column).lent) columns ≡ 0
  none_lent_known known =
      none_counted (λ column. (left_of column).lent) columns asked (parts_same (λ column. outline_of (left_of column)) (asked_outline reading) (λ (o : Outline). o.lent) columns asked known)
