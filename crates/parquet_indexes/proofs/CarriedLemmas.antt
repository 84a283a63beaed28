-- What is carried, by the arguments alone.
use Rattle.std.proofs.Common.{◌≡◌, refl, sym, ◌∙◌, ap, subst, ℕ, Bool, true, false, List, [], ◌∷◌, ◌++◌, Option, Some, None, Result, Ok, Err, inl, inr, is_some, is_none, map}
use Rattle.std.specs.Prelude.{◌&&◌, Contains, IfErr, OnOk, flat_map, if◌then◌else◌}
use Rattle.std.specs.List.{list_all}
use Rattle.std.specs.Option.{option_map_or}
use Rattle.std.proofs.lemmas.Bool.{and_from, true≢false}
use Rattle.std.proofs.lemmas.List.Folds.{list_all-append, list_all_at}
use Rattle.columns_core.specs.Causes.{Cause, ComesOf, ExternalFormat, IsWantOfMemory, NotYetImplemented, OutOfSpec, Overflow, unless}
use Rattle.columns_core.specs.DictionaryType.{entry_type, entry_type_at}
use Rattle.columns_core.specs.Refusals.{IsDamaged}
use Rattle.columns_core.specs.Types.{Layer}
use Rattle.columns_core.specs.declared.data_type.DataType.{DataType, out-DataType}
use Rattle.columns_core.specs.declared.data_type.DataType.TheOpen.{DataType-F}
use Rattle.columns_core.specs.declared.error.Error.{Error}
use Rattle.columns_core.specs.declared.error.Error.TheVariants as error
use Rattle.parquet_meta.specs.Indexes.{FindsIndexes, is_read}
use Rattle.parquet_meta.specs.Source.{Finds}
use Rattle.parquet_meta.specs.TypedStatistics.{is_carried, known_count}
use Rattle.parquet_meta.specs.declared.metadata.ColumnChunkMetaData.{ColumnChunkMetaData}
use Rattle.parquet_meta.specs.declared.metadata.Index.{Index}
use Rattle.parquet_meta.specs.declared.metadata.PageIndex.{PageIndex}
use Rattle.parquet_meta.specs.declared.metadata.PhysicalType.{PhysicalType}
use Rattle.parquet_meta.specs.declared.metadata.PhysicalType.TheVariants as physical
use Rattle.parquet_meta.specs.declared.metadata.PrimitiveLogicalType.{PrimitiveLogicalType}
use Rattle.parquet_meta.specs.declared.metadata.PrimitiveType.{PrimitiveType}
use Rattle.parquet_page.specs.Stored.{Stored}
use Rattle.flat_values.specs.Conversion.{Conversion, Item, Value, NotInRange, NotText, convert}
use Rattle.flat_values.specs.Pairs.{page_from_physical}
use Rattle.flat_values.specs.Sound.{is_stored_as}
use Rattle.flat_values.proofs.PairLemmas.{page_here, page_out}
use Rattle.column_ends.specs.Converted.{array_causes, causes_of_index, causes_of_page, cell_page, end_causes, high_of_page, index_rule, item_causes, low_of_page, page_array_causes}
use Rattle.column_ends.specs.Told.{stored_pages}
use Rattle.parquet_indexes.specs.FieldStatistics.{TellsCarried, TellsUncarried, is_carried_column}
use Rattle.parquet_indexes.specs.Told.{is_carried_pair, statistics_causes}

-- ---- what is wrong with pages says nothing of types

abbrev is_of_pages : Cause → Bool
is_of_pages NotYetImplemented = false
is_of_pages ExternalFormat = true
is_of_pages OutOfSpec = true
is_of_pages Overflow = true

abbrev AreOfPages : List Cause → Type 0
AreOfPages causes = list_all is_of_pages causes ≡ true

not_among : (causes : List Cause) → AreOfPages causes → Contains causes NotYetImplemented → ⊥
not_among causes are told = true≢false (sym are ∙ list_all_at is_of_pages causes told.0 NotYetImplemented told.1 (ap is_of_pages told.2))

of_both : (first rest : List Cause) → AreOfPages first → AreOfPages rest → AreOfPages (first ++ rest)
of_both first rest one other = list_all-append is_of_pages first rest ∙ and_from (list_all is_of_pages first) (list_all is_of_pages rest) one other

of_each : {X : Type 0} (f : X → List Cause) (xs : List X) → ((x : X) → AreOfPages (f x)) → AreOfPages (flat_map f xs)
of_each f [] each = refl
of_each f (x ∷ xs) each = of_both (f x) (flat_map f xs) (each x) (of_each f xs each)

of_test : (test : Bool) (cause : Cause) → is_of_pages cause ≡ true → AreOfPages (unless test cause)
of_test true cause is = refl
of_test false cause is = ap (λ b. b && true) is

of_item : (item : Item) → AreOfPages (item_causes item)
of_item (Value cell) = refl
of_item NotInRange = refl
of_item NotText = refl

of_stored : (test : Bool) (causes : List Cause) → AreOfPages causes → AreOfPages (if test then causes else ExternalFormat ∷ [])
of_stored true causes are = are
of_stored false causes are = refl

module _ (type : PhysicalType) (rule : Conversion) where
  of_end : (end : Option Stored) → AreOfPages (end_causes type rule end)
  of_end None = refl
  of_end (Some stored) = of_stored (is_stored_as type stored) (item_causes (convert rule stored)) (of_item (convert rule stored))

  of_page : (page : PageIndex Stored) → AreOfPages (causes_of_page type rule page)
  of_page page =
      let counted = unless (is_some (known_count page.null_count)) ExternalFormat in
      of_both (counted ++ end_causes type rule page.min) (end_causes type rule page.max)
      (of_both counted (end_causes type rule page.min) (of_test (is_some (known_count page.null_count)) ExternalFormat refl) (of_end page.min)) (of_end page.max)

-- ---- a pair of types

module _ (stored : PrimitiveType) (data_type : DataType) (index : Index) where
  abbrev by_rule : Option Conversion → List Cause
  by_rule found =
      option_map_or (λ rule. flat_map (causes_of_page stored.physical_type rule) (stored_pages index) ++ page_array_causes data_type (map (cell_page rule) (stored_pages index))) found (NotYetImplemented ∷ [])

  abbrev by_entry : Option DataType → List Cause
  by_entry entry = if is_some entry then NotYetImplemented ∷ [] else causes_of_index stored data_type index

  no_rule : (found : Option Conversion) → Contains (by_rule found) NotYetImplemented → is_some found ≡ false
  no_rule None told = refl
  no_rule (Some rule) told =
      let pages = stored_pages index in
      let cells = map (cell_page rule) pages in
      let each = flat_map (causes_of_page stored.physical_type rule) pages in
      let low = array_causes data_type (map low_of_page cells) in
      let high = array_causes data_type (map high_of_page cells) in
      absurd (not_among (each ++ (low ++ high))
      (of_both each (low ++ high) (of_each (causes_of_page stored.physical_type rule) pages (of_page stored.physical_type rule)) (of_both low high (of_test _ Overflow refl) (of_test _ Overflow refl))) told)

  no_pair : (entry : Option DataType) → Contains (by_entry entry) NotYetImplemented → (is_none entry && is_some (index_rule stored data_type)) ≡ false
  no_pair None told = no_rule (index_rule stored data_type) told
  no_pair (Some entry) told = refl

  some_rule : (found : Option Conversion) → by_rule found ≡ [] → is_some found ≡ true
  some_rule None none = absurd cc
  some_rule (Some rule) none = refl

  some_pair : (entry : Option DataType) → by_entry entry ≡ [] → (is_none entry && is_some (index_rule stored data_type)) ≡ true
  some_pair None none = some_rule (index_rule stored data_type) none
  some_pair (Some entry) none = absurd cc

  -- What is told of an index, or what is wrong with it, says whether the pair is carried.
  pub told_carried : {T : Type 0} (r : Result T Error) → OnOk r (statistics_causes stored data_type index ≡ []) → ComesOf r (statistics_causes stored data_type index) → TellsCarried (is_carried_pair stored data_type) r
  told_carried (Ok x) none comes = some_pair (entry_type data_type) none
  told_carried (Err (error.NotYetImplemented p)) none (inl memory) = absurd cc
  told_carried (Err (error.NotYetImplemented p)) none (inr told) = no_pair (entry_type data_type) told
  told_carried (Err (error.InvalidArgumentError p)) none comes = tt
  told_carried (Err (error.ExternalFormat p)) none comes = tt
  told_carried (Err (error.OutOfSpec p)) none comes = tt
  told_carried (Err error.Overflow) none comes = tt
  told_carried (Err error.Io) none comes = tt
  told_carried (Err error.OutOfMemory) none comes = tt

-- ---- floating point numbers

no_float : (type : PhysicalType) (logical : Option PrimitiveLogicalType) (layer : Layer) → is_carried type ≡ false → page_from_physical type logical layer ≡ None
no_float physical.Float logical layer e = refl
no_float physical.Double logical layer e = refl
no_float physical.Boolean logical layer e = absurd (true≢false e)
no_float physical.Int32 logical layer e = absurd (true≢false e)
no_float physical.Int64 logical layer e = absurd (true≢false e)
no_float physical.Int96 logical layer e = absurd (true≢false e)
no_float physical.ByteArray logical layer e = absurd (true≢false e)
no_float (physical.FixedLenByteArray size) logical layer e = absurd (true≢false e)

no_pair_at : (type : PhysicalType) (logical : Option PrimitiveLogicalType) (layer : Layer) → is_carried type ≡ false → (is_none (entry_type_at layer) && is_some (page_here type logical layer)) ≡ false
no_pair_at type logical (DataType-F.Dictionary key value ordered) e = refl
no_pair_at type logical layer e = ap (λ (found : Option Conversion). is_some found) (no_float type logical layer e)

module _ (data_type : DataType) (column : ColumnChunkMetaData) where
  not_read : is_read column ≡ false → is_carried_column (data_type, column) ≡ false
  not_read e =
      let type = column.descriptor.primitive_type.physical_type in
      let logical = column.descriptor.primitive_type.logical_type in
      ap (λ (found : Option Conversion). is_none (entry_type data_type) && is_some found) (page_out type logical data_type) ∙ no_pair_at type logical (out-DataType data_type) e

  -- An index is refused as not carried by the type of its column alone.
  pub index_uncarried : {X : Type 0} (view : X → List Index) (told : Option (List ℕ)) (before now : ℕ) (e : Error) → FindsIndexes view (column ∷ []) told before now (Err e) → TellsUncarried (is_carried_column (data_type, column)) e
  index_uncarried view told before now (error.NotYetImplemented p) finds = not_read (by (is_read column) finds) where
    by : (b : Bool) → (b && true) ≡ false → b ≡ false
    by true e = e
    by false e = refl
  index_uncarried view told before now (error.InvalidArgumentError p) finds = tt
  index_uncarried view told before now (error.ExternalFormat p) finds = tt
  index_uncarried view told before now (error.OutOfSpec p) finds = tt
  index_uncarried view told before now error.Overflow finds = tt
  index_uncarried view told before now error.Io finds = tt
  index_uncarried view told before now error.OutOfMemory finds = tt

-- ---- of each of a list in turn

module _ {A : Type 0} (test : A → Bool) (all rest : List A) (x : A) (so_far : list_all test all ≡ list_all test (x ∷ rest)) where
  one_is : (b : Bool) → test x ≡ b → list_all test all ≡ (b && list_all test rest)
  one_is b one = so_far ∙ ap (λ b. b && list_all test rest) one

  pub carried_next : test x ≡ true → list_all test all ≡ list_all test rest
  carried_next one = one_is true one

  pub uncarried_one : (e : Error) → TellsUncarried (test x) e → TellsUncarried (list_all test all) e
  uncarried_one (error.NotYetImplemented p) one = one_is false one
  uncarried_one (error.InvalidArgumentError p) one = tt
  uncarried_one (error.ExternalFormat p) one = tt
  uncarried_one (error.OutOfSpec p) one = tt
  uncarried_one error.Overflow one = tt
  uncarried_one error.Io one = tt
  uncarried_one error.OutOfMemory one = tt

-- ---- what says nothing of types

module _ (carried : Bool) where
  pub damaged_uncarried : {A : Type 0} (found : Option A) (e : Error) → IsDamaged found e → TellsUncarried carried e
  damaged_uncarried found (error.NotYetImplemented p) (inl memory) = absurd cc
  damaged_uncarried found (error.NotYetImplemented p) (inr d) = absurd cc
  damaged_uncarried found (error.InvalidArgumentError p) d = tt
  damaged_uncarried found (error.ExternalFormat p) d = tt
  damaged_uncarried found (error.OutOfSpec p) d = tt
  damaged_uncarried found error.Overflow d = tt
  damaged_uncarried found error.Io d = tt
  damaged_uncarried found error.OutOfMemory d = tt

  pub not_found_uncarried : {X A : Type 0} (view : X → A) (spelled : List ℕ → Option A) (told : Option (List ℕ)) (before now : ℕ) (e : Error) → Finds view spelled told before now (Err e) → TellsUncarried carried e
  not_found_uncarried view spelled told before now (error.NotYetImplemented p) finds = absurd finds
  not_found_uncarried view spelled told before now (error.InvalidArgumentError p) finds = tt
  not_found_uncarried view spelled told before now (error.ExternalFormat p) finds = tt
  not_found_uncarried view spelled told before now (error.OutOfSpec p) finds = tt
  not_found_uncarried view spelled told before now error.Overflow finds = tt
  not_found_uncarried view spelled told before now error.Io finds = tt
  not_found_uncarried view spelled told before now error.OutOfMemory finds = tt

  -- What is made of what is carried is refused for want of memory,
  pub memory_carried : {T : Type 0} (r : Result T Error) → carried ≡ true → IfErr r IsWantOfMemory → TellsCarried carried r
  memory_carried (Ok x) is memory = is
  memory_carried (Err e) is memory = subst (TellsUncarried carried) (sym memory) tt

  -- or as damaged.
  pub damaged_carried : {T A : Type 0} (found : Option A) (r : Result T Error) → carried ≡ true → IfErr r (IsDamaged found) → TellsCarried carried r
  damaged_carried found (Ok x) is d = is
  damaged_carried found (Err e) is d = damaged_uncarried found e d
