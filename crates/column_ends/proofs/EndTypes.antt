-- Ends are values of the type that they are read as.
use Rattle.std.proofs.Common.{◌≡◌, ℕ, ◌/◌, ℤ, Bool, true, false, List, [], ◌∷◌, map, refl, ◌∙◌, sym, ap, subst, arith}
use Rattle.std.specs.Prelude.{Option, Some, None, IfSome, option_map, if◌then◌else◌}
use Rattle.std.specs.List.{AllByRecursion}
use Rattle.std.proofs.lemmas.Option.{none-some}
use Rattle.parquet_base.specs.Reading.{◌>>=◌}
use Rattle.parquet_encoding.proofs.StepLemmas.{some_is}
use Rattle.columns_core.specs.Depth.{depth, entry_less_deep}
use Rattle.columns_core.specs.DictionaryType.{entry_type, entry_type_at}
use Rattle.columns_core.specs.declared.cell.Cell.{Cell, Int}
use Rattle.columns_core.specs.declared.data_type.DataType.{DataType, out-DataType}
use Rattle.columns_core.specs.declared.data_type.DataType.TheOpen.{DataType-F}
use Rattle.columns_core.specs.Types.{Layer, signed_range, unsigned_range, value_type, value_type_at, is_in}
use Rattle.parquet_meta.specs.ColumnIndex.{column_index_in}
use Rattle.parquet_meta.specs.Indexes.{index_at, index_in, type_of}
use Rattle.parquet_meta.specs.Places.{part_at}
use Rattle.parquet_meta.specs.PageIndexes.{page_end, page_index, page_indexes, pages, typed_index}
use Rattle.parquet_meta.specs.StoredEnds.{boolean_end, int32_end, int64_end, int96_end, bytes_end, fixed_end}
use Rattle.parquet_meta.specs.TypedStatistics.{ends_by, known_count, known_end, statistics_of, typed_statistics}
use Rattle.parquet_meta.specs.declared.metadata.ColumnChunkMetaData.{ColumnChunkMetaData}
use Rattle.parquet_meta.specs.declared.metadata.Ends.{Ends}
use Rattle.parquet_meta.specs.declared.metadata.Index.{Index}
use Rattle.parquet_meta.specs.declared.metadata.Index.TheVariants as indexes
use Rattle.parquet_meta.specs.declared.metadata.PageIndex.{PageIndex}
use Rattle.parquet_meta.specs.declared.metadata.PhysicalType.{PhysicalType}
use Rattle.parquet_meta.specs.declared.metadata.PhysicalType.TheVariants as physical
use Rattle.parquet_meta.specs.declared.metadata.Place.{Place}
use Rattle.parquet_meta.specs.declared.metadata.PrimitiveLogicalType.{PrimitiveLogicalType}
use Rattle.parquet_meta.specs.declared.metadata.PrimitiveType.{PrimitiveType}
use Rattle.parquet_meta.specs.declared.metadata.RawStatistics.{RawStatistics}
use Rattle.parquet_meta.specs.declared.metadata.RawStatistics.TheVariants as raw
use Rattle.parquet_meta.specs.declared.metadata.StatisticsBytes.{StatisticsBytes}
use Rattle.parquet_page.specs.Stored.{Stored, Number, Truth, Words, Octets}
use Rattle.flat_values.specs.CellTypes.{is_cell_at}
use Rattle.flat_values.specs.Conversion.{Conversion, Item, Value, NotInRange, NotText, Nulls, LowNanoseconds, convert, modulo_bits}
use Rattle.flat_values.specs.Ends.{stored_end}
use Rattle.flat_values.specs.Numbers.{words_of}
use Rattle.flat_values.specs.Pairs.{leaf_conversion, page_conversion, page_from_physical, page_from_int96, page_from_fixed}
use Rattle.flat_values.specs.Sound.{is_stored_as}
use Rattle.flat_values.specs.Units.{nanoseconds_of, per_second}
use Rattle.flat_values.proofs.ConversionLemmas.{Gives, IsItemAt, Within, from_boolean-gives, from_int32-gives, from_int64-gives, from_byte_array-gives, from_fixed-gives, from_physical-gives, has_unit, low_bits_in, since, to_item}
use Rattle.flat_values.proofs.EndLemmas.{ends_are_stored}
use Rattle.flat_values.proofs.PageLemmas.{mapped}
use Rattle.flat_values.proofs.PairLemmas.{leaf_here, leaf_out, page_here, page_out}
use Rattle.column_ends.specs.Converted.{as_cell, cell_ends, cell_page, end_cell, index_rule, statistics_rule, told_cells, counts_alone, told_ends}
use Rattle.column_ends.specs.Laws.{AreEndsOf, GroupEndsHaveType, IsEndOf, PageEndsHaveType}
use Rattle.column_ends.specs.Told.{stored_by, stored_ends, stored_page, stored_pages}
use Rattle.column_ends.proofs.GroupLemmas.{ends_told}

-- ---- ends that a column stores

abbrev IsStored : PhysicalType → Option Stored → Type 0
IsStored type end = IfSome end (λ value. is_stored_as type value ≡ true)

-- an end that is spelled is such a value
abbrev AreStoredBy : {T : Type 0} → PhysicalType → (List ℕ → Option T) → (T → Stored) → Type 0
AreStoredBy {T = T} type end stored = (bytes : List ℕ) → option_map {T = T} {U = Stored} stored (end bytes) ≡ stored_end type bytes

spelled : {T : Type 0} (type : PhysicalType) (end : List ℕ → Option T) (stored : T → Stored) → AreStoredBy type end stored → (bytes : List ℕ) (x : T) → end bytes ≡ Some x → is_stored_as type (stored x) ≡ true
spelled {T = T} type end stored same bytes x e = ends_are_stored type bytes (stored x) (sym (same bytes) ∙ ap (option_map {T = T} {U = Stored} stored) e)

-- ---- of a group

abbrev AreEndsStored : PhysicalType → Ends Stored → Type 0
AreEndsStored type ends = IsStored type ends.min_value × IsStored type ends.max_value

known : {T : Type 0} (type : PhysicalType) (end : List ℕ → Option T) (stored : T → Stored) → AreStoredBy type end stored → (bytes : Option (List ℕ)) (o : Option T) → known_end end bytes ≡ Some o
    → IsStored type (option_map {T = T} {U = Stored} stored o)
known type end stored same bytes None e = tt
known type end stored same None (Some x) e = absurd cc
known {T = T} type end stored same (Some bytes) (Some x) e = mapped {A = T} {B = Option T} (end bytes) Some (Some x) e (λ y p q. spelled type end stored same bytes x (p ∙ q))

-- both ends of such statistics are known
both : {T : Type 0} (nulls distinct : Option (Option ℕ)) (low high : Option (Option T)) (ends : Ends T)
    → (nulls >>= λ n. distinct >>= λ d. low >>= λ l. high >>= λ h. Some (record { null_count = n; distinct_count = d; min_value = l; max_value = h })) ≡ Some ends
    → (low ≡ Some ends.min_value) × (high ≡ Some ends.max_value)
both None distinct low high ends e = absurd cc
both (Some n) None low high ends e = absurd cc
both (Some n) (Some d) None high ends e = absurd cc
both (Some n) (Some d) (Some l) None ends e = absurd cc
both (Some n) (Some d) (Some l) (Some h) ends e = let same = some_is _ ends e in (ap (λ (x : Ends _). Some x.min_value) same, ap (λ (x : Ends _). Some x.max_value) same)

ends_stored : {T : Type 0} (type : PhysicalType) (end : List ℕ → Option T) (stored : T → Stored) → AreStoredBy type end stored → (s : StatisticsBytes) (ends : Ends T) → ends_by end s ≡ Some ends
    → AreEndsStored type (stored_by stored ends)
unfolding ends_by
ends_stored type end stored same s ends e =
    let parts = both (known_count s.null_count) (known_count s.distinct_count) (known_end end s.min_value) (known_end end s.max_value) ends e in
    (known type end stored same s.min_value ends.min_value parts.0, known type end stored same s.max_value ends.max_value parts.1)

statistics_stored : (type : PhysicalType) (s : StatisticsBytes) (told : RawStatistics) → typed_statistics type s ≡ Some told → AreEndsStored type (stored_ends told)
statistics_stored physical.Boolean s told e =
    mapped _ raw.Boolean told e (λ ends p q. subst (λ t. AreEndsStored physical.Boolean (stored_ends t)) q (ends_stored physical.Boolean boolean_end Truth (λ _. refl) s ends p))
statistics_stored physical.Int32 s told e =
    mapped _ raw.Int32 told e (λ ends p q. subst (λ t. AreEndsStored physical.Int32 (stored_ends t)) q (ends_stored physical.Int32 int32_end Number (λ _. refl) s ends p))
statistics_stored physical.Int64 s told e =
    mapped _ raw.Int64 told e (λ ends p q. subst (λ t. AreEndsStored physical.Int64 (stored_ends t)) q (ends_stored physical.Int64 int64_end Number (λ _. refl) s ends p))
statistics_stored physical.Int96 s told e =
    mapped _ raw.Int96 told e (λ ends p q. subst (λ t. AreEndsStored physical.Int96 (stored_ends t)) q (ends_stored physical.Int96 int96_end words_of (λ _. refl) s ends p))
statistics_stored physical.Float s told e = absurd (none-some told e)
statistics_stored physical.Double s told e = absurd (none-some told e)
statistics_stored physical.ByteArray s told e =
    mapped _ raw.ByteArray told e (λ ends p q. subst (λ t. AreEndsStored physical.ByteArray (stored_ends t)) q (ends_stored physical.ByteArray bytes_end Octets (λ _. refl) s ends p))
statistics_stored (physical.FixedLenByteArray width) s told e =
    let type = physical.FixedLenByteArray width in
    mapped _ (raw.FixedLenByteArray width) told e (λ ends p q. subst (λ t. AreEndsStored type (stored_ends t)) q (ends_stored type (fixed_end width) Octets (λ _. refl) s ends p))

told_stored : (type : PhysicalType) (bytes : Option StatisticsBytes) (told : Option RawStatistics) → statistics_of type bytes ≡ Some told → AreEndsStored type (ends_told told)
told_stored type bytes None e = (tt, tt)
told_stored type None (Some told) e = absurd cc
told_stored type (Some s) (Some told) e =
    mapped {A = RawStatistics} {B = Option RawStatistics} (typed_statistics type s) Some (Some told) e (λ typed p q. statistics_stored type s told (p ∙ q))

-- whatever the rule is
any_told : (column : ColumnChunkMetaData) (ends : Ends Stored) → option_map ends_told (statistics_of (type_of column) column.statistics_bytes) ≡ Some ends → AreEndsStored (type_of column) ends
any_told column ends e =
    mapped (statistics_of (type_of column) column.statistics_bytes) ends_told ends e (λ told p q.
    subst (AreEndsStored (type_of column)) q (told_stored (type_of column) column.statistics_bytes told p))

by_rule : (rule : Conversion) (column : ColumnChunkMetaData) (ends : Ends Stored) → told_ends rule column ≡ Some ends → AreEndsStored (type_of column) ends
by_rule Nulls column ends e = mapped _ counts_alone ends e (λ counts p q. subst (AreEndsStored (type_of column)) q (tt, tt))
by_rule _ column ends e = any_told column ends e

-- ---- of pages

abbrev ArePageEndsStored : PhysicalType → PageIndex Stored → Type 0
ArePageEndsStored type page = IsStored type page.min × IsStored type page.max

module _ {T : Type 0} (type : PhysicalType) (end : List ℕ → Option T) (stored : T → Stored) (same : AreStoredBy type end stored) where
  page_end_stored : (is_null : Bool) (bytes : List ℕ) (o : Option T) → page_end end is_null bytes ≡ Some o → IsStored type (option_map {T = T} {U = Stored} stored o)
  page_end_stored is_null bytes None e = tt
  page_end_stored true bytes (Some x) e = absurd cc
  page_end_stored false bytes (Some x) e = mapped {A = T} {B = Option T} (end bytes) Some (Some x) e (λ y p q. spelled type end stored same bytes x (p ∙ q))

  of_page : (low high : Option (Option T)) (nulls : _) (page : PageIndex T) → (low >>= λ l. high >>= λ h. Some (record { min = l; max = h; null_count = nulls })) ≡ Some page
      → (low ≡ Some page.min) × (high ≡ Some page.max)
  of_page None high nulls page e = absurd cc
  of_page (Some l) None nulls page e = absurd cc
  of_page (Some l) (Some h) nulls page e = let is = some_is _ page e in (ap (λ (x : PageIndex T). Some x.min) is, ap (λ (x : PageIndex T). Some x.max) is)

  page_stored : (is_null : Bool) (low high : List ℕ) (nulls : _) (page : PageIndex T) → page_index end is_null low high nulls ≡ Some page → ArePageEndsStored type (stored_page stored page)
  page_stored is_null low high nulls page e =
      let parts = of_page (page_end end is_null low) (page_end end is_null high) nulls page e in
      (page_end_stored is_null low page.min parts.0, page_end_stored is_null high page.max parts.1)

  abbrev AllStored : List (PageIndex T) → Type 0
  AllStored found = AllByRecursion (ArePageEndsStored type) (map (stored_page stored) found)

  one_more : (first : Option (PageIndex T)) (behind : Option (List (PageIndex T))) (found : List (PageIndex T)) → (first >>= λ page. behind >>= λ more. Some (page ∷ more)) ≡ Some found
      → ((page : PageIndex T) → first ≡ Some page → ArePageEndsStored type (stored_page stored page)) → ((more : List (PageIndex T)) → behind ≡ Some more → AllStored more) → AllStored found
  one_more None behind found e one all = absurd cc
  one_more (Some page) None found e one all = absurd cc
  one_more (Some page) (Some more) found e one all = subst AllStored (some_is (page ∷ more) found e) (one page refl, all more refl)

  all_stored : (nulls : List Bool) (lows highs : List (List ℕ)) (counts : _) (found : List (PageIndex T)) → pages end nulls lows highs counts ≡ Some found → AllStored found
  unfolding pages
  all_stored [] [] [] None found e = subst AllStored (some_is [] found e) tt
  all_stored [] [] [] (Some []) found e = subst AllStored (some_is [] found e) tt
  all_stored (is_null ∷ others) (low ∷ lows) (high ∷ highs) None found e =
      one_more (page_index end is_null low high None) (pages end others lows highs None) found e (page_stored is_null low high None) (all_stored others lows highs None)
  all_stored (is_null ∷ others) (low ∷ lows) (high ∷ highs) (Some (count ∷ counts)) found e =
      one_more (page_index end is_null low high (Some count)) (pages end others lows highs (Some counts)) found e (page_stored is_null low high (Some count)) (all_stored others lows highs (Some counts))
  all_stored _ _ _ _ found e = absurd (none-some found e)

  index_stored : (index : _) (found : List (PageIndex T)) → page_indexes end index ≡ Some found → AllStored found
  unfolding page_indexes
  index_stored index found e = all_stored index.null_pages index.min_values index.max_values index.null_counts found e

abbrev IsIndexStored : PhysicalType → Index → Type 0
IsIndexStored type index = AllByRecursion (ArePageEndsStored type) (stored_pages index)

typed_stored : (type : PhysicalType) (index : _) (typed : Index) → typed_index type index ≡ Some typed → IsIndexStored type typed
unfolding typed_index
typed_stored physical.Boolean index typed e =
    mapped _ indexes.Boolean typed e (λ found p q. subst (IsIndexStored physical.Boolean) q (index_stored physical.Boolean boolean_end Truth (λ _. refl) index found p))
typed_stored physical.Int32 index typed e =
    mapped _ indexes.Int32 typed e (λ found p q. subst (IsIndexStored physical.Int32) q (index_stored physical.Int32 int32_end Number (λ _. refl) index found p))
typed_stored physical.Int64 index typed e =
    mapped _ indexes.Int64 typed e (λ found p q. subst (IsIndexStored physical.Int64) q (index_stored physical.Int64 int64_end Number (λ _. refl) index found p))
typed_stored physical.Int96 index typed e =
    mapped _ indexes.Int96 typed e (λ found p q. subst (IsIndexStored physical.Int96) q (index_stored physical.Int96 int96_end words_of (λ _. refl) index found p))
typed_stored physical.Float index typed e = absurd (none-some typed e)
typed_stored physical.Double index typed e = absurd (none-some typed e)
typed_stored physical.ByteArray index typed e =
    mapped _ indexes.ByteArray typed e (λ found p q. subst (IsIndexStored physical.ByteArray) q (index_stored physical.ByteArray bytes_end Octets (λ _. refl) index found p))
typed_stored (physical.FixedLenByteArray width) index typed e =
    let type = physical.FixedLenByteArray width in
    mapped _ (indexes.FixedLenByteArray width) typed e (λ found p q. subst (IsIndexStored type) q (index_stored type (fixed_end width) Octets (λ _. refl) index found p))

stored_in : (type : PhysicalType) (found : Option _) (typed : Index) → (found >>= typed_index type) ≡ Some typed → IsIndexStored type typed
stored_in type None typed e = absurd (none-some typed e)
stored_in type (Some index) typed e = typed_stored type index typed e

stored_at : (type : PhysicalType) (part : Option (List ℕ)) (typed : Index) → (part >>= index_in type) ≡ Some typed → IsIndexStored type typed
stored_at type None typed e = absurd (none-some typed e)
stored_at type (Some bytes) typed e = stored_in type (column_index_in bytes) typed e

stored_of : (type : PhysicalType) (file : List ℕ) (place : Option Place) (typed : Index) → index_at type file place ≡ Some typed → IsIndexStored type typed
stored_of type file None typed e = absurd (none-some typed e)
stored_of type file (Some place) typed e = stored_at type (part_at file place) typed e

-- ---- what the rules of pages give

low_if : (test : Bool) (n : ℤ) → Within (unsigned_range 64) (if test then Value (Int (modulo_bits 64 n)) else NotInRange)
low_if true n = low_bits_in 64 n
low_if false n = tt

low_nanoseconds_of : (value : Stored) → Within (unsigned_range 64) (convert LowNanoseconds value)
low_nanoseconds_of (Words low high day) = low_if (is_in (signed_range 64) (nanoseconds_of low high day)) (nanoseconds_of low high day)
low_nanoseconds_of (Number n) = tt
low_nanoseconds_of (Truth b) = tt
low_nanoseconds_of (Octets bytes) = tt

page_int96-gives : (layer : Layer) (value : Stored) → Gives layer value (page_from_int96 layer)
page_int96-gives DataType-F.UInt64 value = to_item DataType-F.UInt64 (unsigned_range 64) refl _ (low_nanoseconds_of value)
page_int96-gives DataType-F.Int64 value = to_item DataType-F.Int64 (signed_range 64) refl _ (since 1 tt value)
page_int96-gives DataType-F.Date64 value = to_item DataType-F.Date64 (signed_range 64) refl _ (since 1 tt value)
page_int96-gives (DataType-F.Time64 unit) value = to_item (DataType-F.Time64 unit) (signed_range 64) refl _ (since 1 tt value)
page_int96-gives (DataType-F.Duration unit) value = to_item (DataType-F.Duration unit) (signed_range 64) refl _ (since 1 tt value)
page_int96-gives (DataType-F.Timestamp unit zone) value = to_item (DataType-F.Timestamp unit zone) (signed_range 64) refl _ (since (1000000000 / per_second unit) (has_unit unit) value)
page_int96-gives _ value = tt

page_fixed-gives : (size : ℕ) (layer : Layer) (value : Stored) → is_stored_as (physical.FixedLenByteArray size) value ≡ true → Gives layer value (page_from_fixed size layer)
page_fixed-gives size (DataType-F.Interval unit) value e = tt
page_fixed-gives size layer value e = from_fixed-gives size layer value e

pub page_physical-gives : (type : PhysicalType) (logical : Option PrimitiveLogicalType) (layer : Layer) (value : Stored) → is_stored_as type value ≡ true → Gives layer value (page_from_physical type logical layer)
page_physical-gives physical.Boolean logical layer value e = from_boolean-gives layer value e
page_physical-gives physical.Int32 logical layer value e = from_int32-gives layer value e
page_physical-gives physical.Int64 logical layer value e = from_int64-gives logical layer value e
page_physical-gives physical.Int96 logical layer value e = page_int96-gives layer value
page_physical-gives physical.Float logical layer value e = tt
page_physical-gives physical.Double logical layer value e = tt
page_physical-gives physical.ByteArray logical layer value e = from_byte_array-gives layer value e
page_physical-gives (physical.FixedLenByteArray size) logical layer value e = page_fixed-gives size layer value e

-- ---- by the outermost constructor of a type that is no dictionary's

-- a type does not lie inside itself
no_dictionary : (data_type entry : DataType) → value_type data_type ≡ data_type → entry_type data_type ≡ Some entry → value_type data_type ≡ entry → ⊥
no_dictionary data_type entry own is same =
    let falls = entry_less_deep data_type entry is in
    let even : depth data_type ≡ depth entry = ap depth (sym own ∙ same) in
    omega (arith, falls, even)

module _ (type : PhysicalType) (logical : Option PrimitiveLogicalType) (data_type : DataType) (own : value_type data_type ≡ data_type) (rule : Conversion) (value : Stored)
    (stored : is_stored_as type value ≡ true) where
  leaf_at : (layer : Layer) → layer ≡ out-DataType data_type → leaf_here type logical layer ≡ Some rule → IsItemAt layer (convert rule value)
  leaf_at DataType-F.Null here e = subst (λ rule. IsItemAt DataType-F.Null (convert rule value)) (some_is Nulls rule e) refl
  leaf_at (DataType-F.Dictionary key entry ordered) here e = absurd (no_dictionary data_type entry own (sym (ap entry_type_at here)) (sym (ap (value_type_at data_type) here)))
  leaf_at layer here e = subst (Gives layer value) e (from_physical-gives type logical layer value stored)

  page_at : (layer : Layer) → layer ≡ out-DataType data_type → page_here type logical layer ≡ Some rule → IsItemAt layer (convert rule value)
  page_at (DataType-F.Dictionary key entry ordered) here e = absurd (no_dictionary data_type entry own (sym (ap entry_type_at here)) (sym (ap (value_type_at data_type) here)))
  page_at layer here e = subst (Gives layer value) e (page_physical-gives type logical layer value stored)

  leaf_gives : leaf_conversion type logical data_type ≡ Some rule → IsItemAt (out-DataType data_type) (convert rule value)
  leaf_gives e = leaf_at (out-DataType data_type) refl (sym (leaf_out type logical data_type) ∙ e)

  page_gives : page_conversion type logical data_type ≡ Some rule → IsItemAt (out-DataType data_type) (convert rule value)
  page_gives e = page_at (out-DataType data_type) refl (sym (page_out type logical data_type) ∙ e)

-- ---- ends

item_end : (layer : Layer) (item : Item) → IsItemAt layer item → IfSome (as_cell item) (λ cell. is_cell_at layer cell ≡ true)
item_end layer (Value cell) is = is
item_end layer NotInRange is = tt
item_end layer NotText is = tt

own_end : (data_type : DataType) (end : Option Cell) → value_type data_type ≡ data_type → IfSome end (λ cell. is_cell_at (out-DataType data_type) cell ≡ true) → IsEndOf data_type end
own_end data_type None own is = tt
own_end data_type (Some cell) own is = ap (λ t. is_cell_at (out-DataType t) cell) own ∙ is

told_end : (type : PhysicalType) (data_type : DataType) (rule : Conversion) (end : Option Stored) → value_type data_type ≡ data_type → IsStored type end
    → ((value : Stored) → is_stored_as type value ≡ true → IsItemAt (out-DataType data_type) (convert rule value)) → IsEndOf data_type (end_cell rule end)
told_end type data_type rule None own stored gives = tt
told_end type data_type rule (Some value) own stored gives = own_end data_type (as_cell (convert rule value)) own (item_end (out-DataType data_type) (convert rule value) (gives value stored))

-- ---- all of them

abbrev AreGroupEndsOf : DataType → Ends Cell → Type 0
AreGroupEndsOf data_type ends = IsEndOf data_type ends.min_value × IsEndOf data_type ends.max_value

group_by : (data_type : DataType) (column : ColumnChunkMetaData) (ends : Ends Cell) → value_type data_type ≡ data_type → (found : Option Conversion)
    → statistics_rule column.descriptor.primitive_type data_type ≡ found → (found >>= λ rule. told_cells rule column) ≡ Some ends → AreGroupEndsOf data_type ends
group_by data_type column ends own None is e = absurd (none-some ends e)
group_by data_type column ends own (Some rule) is e =
    let type = type_of column in
    let logical = column.descriptor.primitive_type.logical_type in
    mapped (told_ends rule column) (cell_ends rule) ends e (λ told p q.
    let stored = by_rule rule column told p in
    let gives = λ (value : Stored) (known : is_stored_as type value ≡ true). leaf_gives type logical data_type own rule value known is in
    subst (AreGroupEndsOf data_type) q (told_end type data_type rule told.min_value own stored.0 gives, told_end type data_type rule told.max_value own stored.1 gives))

pub group_ends_have_type : GroupEndsHaveType
group_ends_have_type data_type column ends own e = group_by data_type column ends own (statistics_rule column.descriptor.primitive_type data_type) refl e

module _ (stored : PrimitiveType) (data_type : DataType) (own : value_type data_type ≡ data_type) where
  each_page : (rule : Conversion) → index_rule stored data_type ≡ Some rule → (told : List (PageIndex Stored)) → AllByRecursion (ArePageEndsStored stored.physical_type) told
      → AllByRecursion (AreEndsOf data_type) (map (cell_page rule) told)
  each_page rule is [] all = tt
  each_page rule is (page ∷ told) all =
      let type = stored.physical_type in
      let gives = λ (value : Stored) (known : is_stored_as type value ≡ true). page_gives type stored.logical_type data_type own rule value known is in
      ((told_end type data_type rule page.min own all.0.0 gives, told_end type data_type rule page.max own all.0.1 gives), each_page rule is told all.1)

  -- of an index whose ends are such as the column stores
  pages_by : (index : Index) → IsIndexStored stored.physical_type index → (cells : List (PageIndex Cell)) → (found : Option Conversion) → index_rule stored data_type ≡ found
      → option_map (λ rule. map (cell_page rule) (stored_pages index)) found ≡ Some cells → AllByRecursion (AreEndsOf data_type) cells
  pages_by index all cells None is e = absurd (none-some cells e)
  pages_by index all cells (Some rule) is e = subst (AllByRecursion (AreEndsOf data_type)) (some_is _ cells e) (each_page rule is (stored_pages index) all)

pub page_ends_have_type : PageEndsHaveType
page_ends_have_type data_type file column index cells own is e =
    let stored = column.descriptor.primitive_type in
    pages_by stored data_type own index (stored_of stored.physical_type file column.column_index index is) cells (index_rule stored data_type) refl e
