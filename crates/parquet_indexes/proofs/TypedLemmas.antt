-- The column index of one column, and columns with their types.
use Rattle.std.proofs.Common.{◌≡◌, refl, sym, ◌∙◌, ap, subst, ℕ, zero, suc, ◌+◌, ◌<◌, ◌≤◌, Bool, true, false, cond, List, [], ◌∷◌, ◌++◌, length, map, drop, get_or, Option, Some, None, Err, arith, sum_by}
use Rattle.std.specs.Prelude.{◌&&◌, ◌||◌, IfSome, IsSomeAnd, Result, filter, is_none, zip, if◌then◌else◌}
use Rattle.std.specs.List.{list_all}
use Rattle.std.specs.Option.{option_map_or}
use Rattle.std.proofs.lemmas.Bool.{and_parts}
use Rattle.std.proofs.lemmas.List.Sums.{sum_by-cons}
use Rattle.columns_core.specs.Causes.{Cause, ExternalFormat, IsOneOf, NotYetImplemented, and_then, unless}
use Rattle.columns_core.specs.declared.data_type.DataType.{DataType}
use Rattle.columns_core.specs.declared.error.Error.{Error}
use Rattle.columns_core.specs.declared.error.Part.{Part}
use Rattle.columns_core.specs.declared.error.Error.TheVariants as error
use Rattle.parquet_base.specs.Reading.{◌>>=◌}
use Rattle.parquet_meta.specs.Indexes.{FindsIndexes, begins_with, field_columns, has_index, is_broken, is_read, raw_index}
use Rattle.parquet_meta.specs.Lists.{all_of}
use Rattle.parquet_meta.specs.declared.metadata.ColumnChunkMetaData.{ColumnChunkMetaData}
use Rattle.parquet_meta.specs.declared.metadata.Index.{Index}
use Rattle.parquet_meta.proofs.ListLemmas.{item_and_others}
use Rattle.parquet_meta.specs.Source.{IsReadFailure}
use Rattle.parquet_indexes.specs.FieldStatistics.{IsOfColumn, causes_of_typed}
use Rattle.parquet_indexes.specs.Told.{AreTold, statistics_causes}
use Rattle.parquet_indexes.specs.declared.page_statistics.ColumnPageStatistics.{ColumnPageStatistics}
use Rattle.parquet_indexes.proofs.ErrorLemmas.{first_of}
use Rattle.parquet_indexes.proofs.LocationLemmas.{one_of}

-- ---- a column that a name begins

pub finds_one : {X : Type 0} (view : X → List Index) (name : List ℕ) (column : ColumnChunkMetaData) (told : Option (List ℕ)) (before now : ℕ) (r : Result X Error) → begins_with name column ≡ true
    → FindsIndexes view (field_columns name (column ∷ [])) told before now r → FindsIndexes view (column ∷ []) told before now r
finds_one view name column told before now r named finds = subst (λ columns. FindsIndexes view columns told before now r) (ap (λ b. cond b (column ∷ []) []) named) finds

module _ (data_type : DataType) (column : ColumnChunkMetaData) where
  abbrev own_causes : List ℕ → List Cause
  own_causes file = causes_of_typed file (data_type, column)

  abbrev tells : List ℕ → Option Index → List Cause
  tells file found = option_map_or (statistics_causes column.descriptor.primitive_type data_type) found (ExternalFormat ∷ [])

  not_carried : (file : List ℕ) → is_read column ≡ false → own_causes file ≡ NotYetImplemented ∷ []
  not_carried file e = ap (λ b. and_then (unless b NotYetImplemented) (tells file (raw_index file column))) e

  carried : (file : List ℕ) (found : Option Index) → is_read column ≡ true → raw_index file column ≡ found → own_causes file ≡ tells file found
  carried file found read is = ap (λ b. and_then (unless b NotYetImplemented) (tells file (raw_index file column))) read ∙ ap (tells file) is

  broken : (file : List ℕ) → is_broken file column ≡ true → own_causes file ≡ ExternalFormat ∷ []
  broken file e =
      let parts = and_parts (is_read column) (is_none (raw_index file column)) e in
      carried file None parts.0 (none (raw_index file column) parts.1) where
        none : (o : Option Index) → is_none o ≡ true → o ≡ None
        none None e = refl
        none (Some index) e = absurd cc

  -- A refusal of its index is one by its causes.
  pub index_refused : {X : Type 0} (view : X → List Index) (told : Option (List ℕ)) (before now : ℕ) (e : Error) → FindsIndexes view (column ∷ []) told before now (Err e) → IsReadFailure told before now own_causes e
  index_refused view told before now (error.InvalidArgumentError p) finds = finds
  index_refused view None before now (error.NotYetImplemented p) finds = tt
  index_refused view (Some file) before now (error.NotYetImplemented p) finds = subst (λ causes. IsOneOf causes (Some NotYetImplemented)) (sym (not_carried file (by (is_read column) finds))) (first_of NotYetImplemented []) where
    by : (b : Bool) → (b && true) ≡ false → b ≡ false
    by true e = e
    by false e = refl
  index_refused view None before now (error.ExternalFormat p) finds = tt
  index_refused view (Some file) before now (error.ExternalFormat p) finds = subst (λ causes. IsOneOf causes (Some ExternalFormat)) (sym (broken file (by (is_broken file column) finds))) (first_of ExternalFormat []) where
    by : (b : Bool) → (b || false) ≡ true → b ≡ true
    by true e = refl
    by false e = e
  index_refused view told before now (error.OutOfSpec p) finds = absurd finds
  index_refused view told before now error.Overflow finds = absurd finds
  index_refused view told before now error.Io finds = finds
  index_refused view told before now error.OutOfMemory finds = tt

  -- There is one.
  pub no_index : (told : Option (List ℕ)) (before now : ℕ) (items : List Index) (part : Part) → items ≡ [] → IfSome told (λ file. all_of (raw_index file) (column ∷ []) ≡ Some items)
      → IsReadFailure told before now own_causes (error.ExternalFormat part)
  no_index None before now items part none e = tt
  no_index (Some file) before now items part none e = absurd (by (raw_index file column) (sym (one_of (raw_index file) column) ∙ e ∙ ap Some none)) where
    by : (o : Option Index) → (o >>= λ y. Some (y ∷ [])) ≡ Some [] → ⊥
    by None e = cc
    by (Some found) e = cc

  last_index : (told : Option (List ℕ)) (front : List Index) (index : Index) → IfSome told (λ file. all_of (raw_index file) (column ∷ []) ≡ Some (front ++ index ∷ [])) → IfSome told (λ file. raw_index file column ≡ Some index)
  last_index None front index e = tt
  last_index (Some file) front index e = by (raw_index file column) front (sym (one_of (raw_index file) column) ∙ e) where
    by : (o : Option Index) (front : List Index) → (o >>= λ y. Some (y ∷ [])) ≡ Some (front ++ index ∷ []) → o ≡ Some index
    by None front e = absurd cc
    by (Some found) [] e = cc
    by (Some found) (x ∷ []) e = absurd cc
    by (Some found) (x ∷ y ∷ front) e = absurd cc

  -- The index that was read last is that of the column.
  pub one_index : (told : Option (List ℕ)) (items front : List Index) (index : Index) → items ≡ front ++ index ∷ []
      → (list_all is_read (column ∷ []) ≡ true) × (list_all has_index (column ∷ []) ≡ true) × IfSome told (λ file. all_of (raw_index file) (column ∷ []) ≡ Some items)
      → (is_read column ≡ true) × IfSome told (λ file. raw_index file column ≡ Some index)
  one_index told items front index e finds = (
    (and_parts (is_read column) true finds.0).0,
    last_index told front index (subst (λ items. IfSome told (λ file. all_of (raw_index file) (column ∷ []) ≡ Some items)) e finds.2),
  )

  -- What is told by its index is what is told of it.
  pub by_index : (told : Option (List ℕ)) (index : Index) (statistics : ColumnPageStatistics) → IfSome told (λ file. raw_index file column ≡ Some index)
      → AreTold column.descriptor.primitive_type data_type index statistics → IfSome told (λ file. IsOfColumn file (data_type, column) statistics)
  by_index None index statistics is are = tt
  by_index (Some file) index statistics is are = subst (λ o. IsSomeAnd o (λ index. AreTold column.descriptor.primitive_type data_type index statistics)) (sym is) are

  -- What is wrong with the column is what is wrong with its index.
  pub causes_by_index : (told : Option (List ℕ)) (index : Index) → is_read column ≡ true → IfSome told (λ file. raw_index file column ≡ Some index)
      → IfSome told (λ file. own_causes file ≡ statistics_causes column.descriptor.primitive_type data_type index)
  causes_by_index None index read is = tt
  causes_by_index (Some file) index read is = carried file (Some index) read is

pub same_causes : (told : Option (List ℕ)) (causes : List ℕ → List Cause) (own : List Cause) → IfSome told (λ file. causes file ≡ own) → own ≡ [] → IfSome told (λ file. causes file ≡ [])
same_causes None causes own is none = tt
same_causes (Some file) causes own is none = is ∙ none

-- ---- columns and types side by side

pub zip_next : {X Y A B : Type 0} (f : X → A) (g : Y → B) (xs : List X) (ys : List Y) (i : ℕ) (x : X) (y : Y) → i < length xs → i < length ys → x ≡ get_or xs i x → y ≡ get_or ys i y
    → zip (map f (drop i xs)) (map g (drop i ys)) ≡ (f x, g y) ∷ zip (map f (drop (i + 1) xs)) (map g (drop (i + 1) ys))
zip_next f g xs ys i x y h k is are = λ j. zip (map f (item_and_others xs i x h is j)) (map g (item_and_others ys i y k are j))

pub zip_none : {X Y A B : Type 0} (f : X → A) (g : Y → B) (xs : List X) → zip (map f xs) (map g []) ≡ []
zip_none f g [] = refl
zip_none f g (x ∷ xs) = refl

pub sum_beside : {X Y : Type 0} (cost : Y → ℕ) (xs : List X) (ys : List Y) → sum_by (λ (beside : X × Y). cost beside.1) (zip xs ys) ≤ sum_by cost ys
sum_beside cost [] ys = omega arith
sum_beside cost (x ∷ xs) [] = omega arith
sum_beside {X} {Y} cost (x ∷ xs) (y ∷ ys) = omega (arith, sum_by-cons (λ (beside : X × Y). cost beside.1) (x, y) (zip xs ys), sum_by-cons cost y ys, sum_beside cost xs ys)

-- ---- columns of a field

passed_or : {X : Type 0} (p : X → Bool) (x : X) (rest : List X) (b : Bool) → p x ≡ b → list_all p rest ≡ true → list_all p (if b then x ∷ rest else rest) ≡ true
passed_or p x rest true e behind = ap (λ b. b && list_all p rest) e ∙ behind
passed_or p x rest false e behind = behind

all_passed : {X : Type 0} (p : X → Bool) (xs : List X) → list_all p (filter p xs) ≡ true
all_passed p [] = refl
all_passed p (x ∷ xs) = passed_or p x (filter p xs) (p x) refl (all_passed p xs)

all_mapped : {X Y : Type 0} (p : Y → Bool) (f : X → Y) (xs : List X) → list_all (λ x. p (f x)) xs ≡ list_all p (map f xs)
all_mapped p f [] = refl
all_mapped p f (x ∷ xs) = ap (λ b. p (f x) && b) (all_mapped p f xs)

-- The columns of a field begin with its name.
pub all_named : {X : Type 0} (name : List ℕ) (f : X → ColumnChunkMetaData) (xs : List X) (columns : List ColumnChunkMetaData) → map f xs ≡ field_columns name columns → list_all (λ x. begins_with name (f x)) xs ≡ true
all_named name f xs columns are = all_mapped (begins_with name) f xs ∙ ap (list_all (begins_with name)) are ∙ all_passed (begins_with name) columns

pub all_at : {X : Type 0} (p : X → Bool) (xs : List X) (i : ℕ) (d : X) → list_all p xs ≡ true → i < length xs → p (get_or xs i d) ≡ true
all_at p [] i d all h = absurd (omega (arith, h))
all_at p (x ∷ xs) zero d all h = (and_parts (p x) (list_all p xs) all).0
all_at p (x ∷ xs) (suc i) d all h = all_at p xs i d (and_parts (p x) (list_all p xs) all).1 (omega (arith, h))
