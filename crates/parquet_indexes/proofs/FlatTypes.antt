-- Types that the ends of pages are read as are flat, and ends are values of them.
use Rattle.std.proofs.Common.{◌≡◌, refl, sym, ◌∙◌, ap, subst, ℕ, Bool, true, false, List, [], ◌∷◌, ◌++◌, map, arith}
use Rattle.std.specs.Prelude.{Option, Some, None, IfSome, option_map, flat_map, nat_lt, is_some, ◌==◌, ◌&&◌, if◌then◌else◌}
use Rattle.std.specs.List.{AllByRecursion}
use Rattle.std.specs.Option.{option_map_or}
use Rattle.std.proofs.lemmas.Bool.{and_parts, eqb-true, ltb-true}
use Rattle.std.proofs.lemmas.Option.{none-some}
use Rattle.parquet_base.specs.Reading.{given}
use Rattle.columns_core.specs.Causes.{Cause, ExternalFormat, NotYetImplemented, unless}
use Rattle.columns_core.specs.DictionaryType.{entry_type, entry_type_at}
use Rattle.columns_core.specs.Types.{Layer, value_type, value_type_at}
use Rattle.columns_core.specs.declared.cell.Cell.{Cell}
use Rattle.columns_core.specs.declared.data_type.DataType.{DataType, out-DataType}
use Rattle.columns_core.specs.declared.data_type.DataType.TheOpen.{DataType-F}
use Rattle.parquet_meta.specs.TypedStatistics.{known_count}
use Rattle.parquet_meta.specs.declared.metadata.Index.{Index}
use Rattle.parquet_meta.specs.declared.metadata.PageIndex.{PageIndex}
use Rattle.parquet_meta.specs.declared.metadata.PhysicalType.{PhysicalType}
use Rattle.parquet_meta.specs.declared.metadata.PhysicalType.TheVariants as physical
use Rattle.parquet_meta.specs.declared.metadata.PrimitiveLogicalType.{PrimitiveLogicalType}
use Rattle.parquet_meta.specs.declared.metadata.PrimitiveType.{PrimitiveType}
use Rattle.parquet_encoding.proofs.StepLemmas.{some_is}
use Rattle.parquet_page.specs.Stored.{Stored}
use Rattle.flat_values.specs.CellTypes.{is_cell_at}
use Rattle.flat_values.specs.Conversion.{Conversion, Item, Value, NotInRange, NotText, Keep, convert}
use Rattle.flat_values.specs.Pairs.{from_boolean, from_int32, from_int64, from_byte_array, page_from_fixed, page_from_int96, page_from_physical}
use Rattle.flat_values.specs.Sound.{is_stored_as}
use Rattle.flat_values.proofs.ConversionLemmas.{Gives, IsItemAt}
use Rattle.flat_values.proofs.PairLemmas.{page_here, page_out}
use Rattle.flat_builders.specs.Flat.{Flat, Sizeless, flatness, flatness_at}
use Rattle.column_ends.specs.Converted.{as_cell, causes_of_index, causes_of_page, cell_page, end_causes, end_cell, index_cells, index_rule, page_array_causes}
use Rattle.column_ends.specs.Laws.{AreEndsOf, IsEndOf}
use Rattle.column_ends.specs.Told.{stored_pages}
use Rattle.column_ends.proofs.EndTypes.{page_physical-gives}

-- ---- types that pages are read as

-- what no table names is read as nothing
no_table : (type : PhysicalType) (logical : Option PrimitiveLogicalType) (layer : Layer) → from_boolean layer ≡ None → from_int32 layer ≡ None → from_int64 logical layer ≡ None → page_from_int96 layer ≡ None
    → from_byte_array layer ≡ None → ((size : ℕ) → page_from_fixed size layer ≡ None) → page_from_physical type logical layer ≡ None
no_table physical.Boolean logical layer boolean int32 int64 int96 bytes fixed = boolean
no_table physical.Int32 logical layer boolean int32 int64 int96 bytes fixed = int32
no_table physical.Int64 logical layer boolean int32 int64 int96 bytes fixed = int64
no_table physical.Int96 logical layer boolean int32 int64 int96 bytes fixed = int96
no_table physical.Float logical layer boolean int32 int64 int96 bytes fixed = refl
no_table physical.Double logical layer boolean int32 int64 int96 bytes fixed = refl
no_table physical.ByteArray logical layer boolean int32 int64 int96 bytes fixed = bytes
no_table (physical.FixedLenByteArray size) logical layer boolean int32 int64 int96 bytes fixed = fixed size

-- bytes of some size
some_size : (empty : Bool) → (empty ≡ true → ⊥) → (if empty then Sizeless else Flat) ≡ Flat
some_size true some = absurd (some refl)
some_size false some = refl

is_given : (test : Bool) (x y : Conversion) → given test x ≡ Some y → test ≡ true
is_given true x y e = refl
is_given false x y e = absurd (none-some y e)

abbrev fixed_layer : ℕ → Layer
fixed_layer size = DataType-F.FixedSizeBinary size

sized : (size width : ℕ) (rule : Conversion) → given (nat_lt 0 width && width == size) Keep ≡ Some rule → flatness_at (fixed_layer size) ≡ Flat
sized size width rule e =
    let parts = and_parts (nat_lt 0 width) (width == size) (is_given (nat_lt 0 width && width == size) Keep rule e) in
    some_size (size == 0) (λ empty. omega (arith, eqb-true size 0 empty, eqb-true width size parts.1, ltb-true 0 width parts.0))

fixed_flat : (type : PhysicalType) (logical : Option PrimitiveLogicalType) (size : ℕ) (rule : Conversion) → page_from_physical type logical (fixed_layer size) ≡ Some rule → flatness_at (fixed_layer size) ≡ Flat
fixed_flat (physical.FixedLenByteArray width) logical size rule e = sized size width rule e
fixed_flat physical.Boolean logical size rule e = absurd (none-some rule e)
fixed_flat physical.Int32 logical size rule e = absurd (none-some rule e)
fixed_flat physical.Int64 logical size rule e = absurd (none-some rule e)
fixed_flat physical.Int96 logical size rule e = absurd (none-some rule e)
fixed_flat physical.Float logical size rule e = absurd (none-some rule e)
fixed_flat physical.Double logical size rule e = absurd (none-some rule e)
fixed_flat physical.ByteArray logical size rule e = absurd (none-some rule e)

module _ (type : PhysicalType) (logical : Option PrimitiveLogicalType) where
  nothing : (layer : Layer) (rule : Conversion) → from_boolean layer ≡ None → from_int32 layer ≡ None → from_int64 logical layer ≡ None → page_from_int96 layer ≡ None
      → from_byte_array layer ≡ None → ((size : ℕ) → page_from_fixed size layer ≡ None) → page_from_physical type logical layer ≡ Some rule → ⊥
  nothing layer rule boolean int32 int64 int96 bytes fixed e = none-some rule (sym (no_table type logical layer boolean int32 int64 int96 bytes fixed) ∙ e)

  read_flat : (layer : Layer) (rule : Conversion) → page_from_physical type logical layer ≡ Some rule → flatness_at layer ≡ Flat
  read_flat (DataType-F.FixedSizeBinary size) rule e = fixed_flat type logical size rule e
  read_flat (DataType-F.Dictionary key value ordered) rule e = absurd (nothing (DataType-F.Dictionary key value ordered) rule refl refl refl refl refl (λ size. refl) e)
  read_flat (DataType-F.List field) rule e = absurd (nothing (DataType-F.List field) rule refl refl refl refl refl (λ size. refl) e)
  read_flat (DataType-F.LargeList field) rule e = absurd (nothing (DataType-F.LargeList field) rule refl refl refl refl refl (λ size. refl) e)
  read_flat (DataType-F.Struct fields) rule e = absurd (nothing (DataType-F.Struct fields) rule refl refl refl refl refl (λ size. refl) e)
  read_flat (DataType-F.Map field sorted) rule e = absurd (nothing (DataType-F.Map field sorted) rule refl refl refl refl refl (λ size. refl) e)
  read_flat _ rule e = refl

-- A flat type is the type of its own values.
own_values : (data_type : DataType) (layer : Layer) → flatness_at layer ≡ Flat → value_type_at data_type layer ≡ data_type
own_values data_type (DataType-F.Dictionary key value ordered) flat = absurd cc
own_values data_type _ flat = refl

pub own_value_type : (data_type : DataType) → flatness data_type ≡ Flat → value_type data_type ≡ data_type
own_value_type data_type flat = own_values data_type (out-DataType data_type) flat

-- ---- ends without a cause

pub both_empty : (first rest : List Cause) → first ++ rest ≡ [] → (first ≡ []) × (rest ≡ [])
both_empty [] rest e = (refl, e)
both_empty (cause ∷ first) rest e = absurd cc

stored_if : (test : Bool) (causes : List Cause) → (if test then causes else ExternalFormat ∷ []) ≡ [] → test ≡ true
stored_if true causes e = refl
stored_if false causes e = absurd cc

item_end : (layer : Layer) (item : Item) → IsItemAt layer item → IfSome (as_cell item) (λ cell. is_cell_at layer cell ≡ true)
item_end layer (Value cell) is = is
item_end layer NotInRange is = tt
item_end layer NotText is = tt

-- an end of a flat type
of_own_type : (data_type : DataType) (end : Option Cell) → value_type data_type ≡ data_type → IfSome end (λ cell. is_cell_at (out-DataType data_type) cell ≡ true) → IsEndOf data_type end
of_own_type data_type None own is = tt
of_own_type data_type (Some cell) own is = ap (λ (type : DataType). is_cell_at (out-DataType type) cell) own ∙ is

module _ (type : PhysicalType) (logical : Option PrimitiveLogicalType) (data_type : DataType) (rule : Conversion) (found : page_from_physical type logical (out-DataType data_type) ≡ Some rule) where
  is_flat : flatness data_type ≡ Flat
  is_flat = read_flat type logical (out-DataType data_type) rule found

  pub read_end : (end : Option Stored) → end_causes type rule end ≡ [] → IsEndOf data_type (end_cell rule end)
  read_end None none = tt
  read_end (Some value) none =
      let layer = out-DataType data_type in
      let stored = stored_if (is_stored_as type value) _ none in
      of_own_type data_type (as_cell (convert rule value)) (own_value_type data_type is_flat)
      (item_end layer (convert rule value) (subst (Gives layer value) found (page_physical-gives type logical layer value stored)))

  read_page : (page : PageIndex Stored) → causes_of_page type rule page ≡ [] → AreEndsOf data_type (cell_page rule page)
  read_page page none =
      let counted = unless (is_some (known_count page.null_count)) ExternalFormat in
      let outer = both_empty (counted ++ end_causes type rule page.min) (end_causes type rule page.max) none in
      (read_end page.min (both_empty counted (end_causes type rule page.min) outer.0).1, read_end page.max outer.1)

  read_pages : (pages : List (PageIndex Stored)) → flat_map (causes_of_page type rule) pages ≡ [] → AllByRecursion (AreEndsOf data_type) (map (cell_page rule) pages)
  read_pages [] none = tt
  read_pages (page ∷ pages) none =
      let parts = both_empty (causes_of_page type rule page) (flat_map (causes_of_page type rule) pages) none in
      (read_page page parts.0, read_pages pages parts.1)

-- ---- an index without a cause

-- a type that is no dictionary's, by its outermost constructor
own_table : (type : PhysicalType) (logical : Option PrimitiveLogicalType) (layer : Layer) → is_some (entry_type_at layer) ≡ false → page_here type logical layer ≡ page_from_physical type logical layer
own_table type logical (DataType-F.Dictionary key value ordered) own = absurd cc
own_table type logical _ own = refl

-- what an index needs to become arrays
pub record IsReady (data_type : DataType) (pages : List (PageIndex Cell)) : Type 0 where
  pub flat : flatness data_type ≡ Flat
  pub typed : AllByRecursion (AreEndsOf data_type) pages
  pub fit : page_array_causes data_type pages ≡ []

module _ (stored : PrimitiveType) (data_type : DataType) (own : is_some (entry_type data_type) ≡ false) (index : Index) (pages : List (PageIndex Cell)) where
  by_rule : (found : Option Conversion) → index_rule stored data_type ≡ found
      → option_map_or (λ rule. flat_map (causes_of_page stored.physical_type rule) (stored_pages index) ++ page_array_causes data_type (map (cell_page rule) (stored_pages index))) found (NotYetImplemented ∷ []) ≡ []
      → option_map (λ rule. map (cell_page rule) (stored_pages index)) found ≡ Some pages → IsReady data_type pages
  by_rule None is none e = absurd (none-some pages e)
  by_rule (Some rule) is none e =
      let type = stored.physical_type in
      let logical = stored.logical_type in
      let cells = map (cell_page rule) (stored_pages index) in
      let found : page_from_physical type logical (out-DataType data_type) ≡ Some rule = sym (own_table type logical (out-DataType data_type) own) ∙ sym (page_out type logical data_type) ∙ is in
      let parts = both_empty (flat_map (causes_of_page type rule) (stored_pages index)) (page_array_causes data_type cells) none in
      subst (IsReady data_type) (some_is cells pages e) (record {
        flat = is_flat type logical data_type rule found;
        typed = read_pages type logical data_type rule found (stored_pages index) parts.0;
        fit = parts.1;
      })

  pub ready : causes_of_index stored data_type index ≡ [] → index_cells stored data_type index ≡ Some pages → IsReady data_type pages
  ready none e = by_rule (index_rule stored data_type) refl none e
