-- What a field needs to have statistics, and what is wrong with it.
use Rattle.std.proofs.Common.{◌≡◌, refl, sym, ◌∙◌, ap, subst, ℕ, Bool, true, false, List, [], ◌∷◌, ◌++◌, drop, take, length, map, Option, Some, None, Ok, Err}
use Rattle.std.specs.Prelude.{Contains, IfOk, OnOk, Result, flat_map, is_some, unwrap_or}
use Rattle.std.specs.List.{AllByRecursion, list_all}
use Rattle.std.proofs.lemmas.Bool.{and_parts}
use Rattle.std.proofs.lemmas.List.{length-map}
use Rattle.columns_core.specs.Causes.{Cause, ComesOf, NotYetImplemented, and_then, unless}
use Rattle.columns_core.specs.declared.cell.Cell.{Cell}
use Rattle.columns_core.specs.declared.data_type.DataType.{DataType, UInt64}
use Rattle.columns_core.specs.declared.data_type.Field.{Field}
use Rattle.columns_core.specs.declared.error.Error.{Error}
use Rattle.parquet_meta.specs.declared.metadata.ColumnChunkMetaData.{ColumnChunkMetaData}
use Rattle.parquet_meta.specs.declared.metadata.Ends.{Ends}
use Rattle.parquet_meta.specs.declared.metadata.RowGroupMetaData.{RowGroupMetaData}
use Rattle.flat_builders.specs.Flat.{Flat, Flatness, Nested, Sizeless, flatness}
use Rattle.column_ends.specs.Converted.{group_array_causes, group_cells}
use Rattle.column_ends.proofs.EndTypes.{group_ends_have_type}
use Rattle.parquet_statistics.specs.BuiltTypes.{is_flat_shape}
use Rattle.parquet_statistics.specs.CountType.{count_type}
use Rattle.parquet_statistics.specs.Deserialized.{AreArraysOf, AreStatistics, IsMade, byte_causes, causes_of_arrays, causes_of_refusal, columns_in, deserialize_causes, field_type_causes, fits_groups, group_causes_of_field, has_slots, length_causes, nothing_told, side_causes_of_columns, slot_count, told_columns, told_in, told_of_field}
use Rattle.parquet_statistics.specs.LeafTypes.{has_column, has_single_dictionaries, leaf_types}
use Rattle.columns_core.specs.declared.array.Array.{Array}
use Rattle.parquet_statistics.specs.Made.{Made}
use Rattle.parquet_statistics.specs.Parts.{AreEachReady, HasEndsOf, HasSlots, causes_by_column, uneven_causes}
use Rattle.parquet_statistics.specs.declared.statistics.Statistics.{Statistics}
use Rattle.parquet_statistics.proofs.CountedTypes.{as_many_numbers, has_numbers}
use Rattle.parquet_statistics.proofs.PushedLemmas.{own_value_type}
use Rattle.parquet_statistics.proofs.ToldLemmas.{IsPartOf, by_columns, by_groups, empty_part, even_causes, even_columns, left_part, right_part, told_of_each, told_of_part, typed_causes, uneven_part}

both_none : (first rest : List Cause) → first ++ rest ≡ [] → (first ≡ []) × (rest ≡ [])
both_none [] rest e = (refl, e)
both_none (cause ∷ first) rest e = absurd cc

none_of_both : (first rest : List Cause) → first ≡ [] → rest ≡ [] → first ++ rest ≡ []
none_of_both [] rest e f = f
none_of_both (cause ∷ first) rest e f = absurd cc

-- ---- the steps, one after another

module _ (first next : List Cause) where
  then_after : first ≡ [] → and_then first next ≡ next
  then_after e = go first e where
    go : (first : List Cause) → first ≡ [] → and_then first next ≡ next
    go [] e = refl
    go (cause ∷ causes) e = absurd cc

module _ (field : Field) (groups : List RowGroupMetaData) where
  abbrev first_causes : List Cause
  first_causes = field_type_causes field.data_type ++ flat_map (group_causes_of_field field) groups

  abbrev next_causes : List Cause
  next_causes = byte_causes field groups ++ causes_of_arrays field.data_type (told_of_field field groups)

  module _ (carried : field_type_causes field.data_type ≡ []) (well : flat_map (group_causes_of_field field) groups ≡ []) where
    all_next : deserialize_causes field groups ≡ next_causes
    all_next = then_after first_causes next_causes (none_of_both _ _ carried well)

    pub byte_part : IsPartOf (byte_causes field groups) (deserialize_causes field groups)
    byte_part cause told = subst (λ causes. Contains causes cause) (sym all_next) (left_part (byte_causes field groups) _ cause told)

    pub length_part : IsPartOf (causes_of_arrays field.data_type (told_of_field field groups)) (deserialize_causes field groups)
    length_part cause told = subst (λ causes. Contains causes cause) (sym all_next) (right_part (byte_causes field groups) _ cause told)

    pub no_causes : byte_causes field groups ≡ [] → causes_of_arrays field.data_type (told_of_field field groups) ≡ [] → deserialize_causes field groups ≡ []
    no_causes bytes lengths = all_next ∙ none_of_both _ _ bytes lengths

-- ---- what arrays are made of has no cause

made_free : (found : Option Made) (array : Array) → IsMade found array → length_causes found ≡ []
made_free None array made = absurd made
made_free (Some made) array is = ap (flat_map causes_of_refusal) is.1

pub arrays_free : (data_type : DataType) (told : List (List (Ends Cell))) (statistics : Statistics) → AreArraysOf data_type told statistics → causes_of_arrays data_type told ≡ []
arrays_free data_type told statistics are =
    none_of_both _ _
    (none_of_both _ _ (made_free _ statistics.null_count are.nulls) (made_free _ statistics.distinct_count are.distinct))
    (none_of_both _ _ (made_free _ statistics.min_value are.low) (made_free _ statistics.max_value are.high))

pub free_arrays : (r : Result Statistics Error) (data_type : DataType) (told : List (List (Ends Cell))) → IfOk r (AreArraysOf data_type told) → OnOk r (causes_of_arrays data_type told ≡ [])
free_arrays (Ok statistics) data_type told are = arrays_free data_type told statistics are
free_arrays (Err e) data_type told are = tt

pub are_statistics : (r : Result Statistics Error) (field : Field) (groups : List RowGroupMetaData) (told : List (List (Ends Cell))) → told ≡ told_of_field field groups → IfOk r (AreArraysOf field.data_type told)
    → IfOk r (AreStatistics field groups)
are_statistics r field groups told is are = subst (λ told. IfOk r (AreArraysOf field.data_type told)) is are

-- ---- the columns of each group

module _ (field : Field) (groups : List RowGroupMetaData) where
  abbrev types : List DataType
  types = leaf_types field.data_type

  abbrev columns : List (List ColumnChunkMetaData)
  columns = map (columns_in field) groups

  pub groups_well : flat_map (uneven_causes (length types) field) groups ≡ [] → causes_by_column types columns ≡ [] → flat_map (group_causes_of_field field) groups ≡ []
  groups_well even none =
      even_causes field groups even
      ∙ empty_part (flat_map (typed_causes types) columns) (λ cause told. subst (λ causes. Contains causes cause) none (by_columns types columns cause told))

  pub column_part : flat_map (uneven_causes (length types) field) groups ≡ [] → IsPartOf (causes_by_column types columns) (flat_map (group_causes_of_field field) groups)
  column_part even cause told = subst (λ causes. Contains causes cause) (sym (even_causes field groups even)) (by_groups types columns cause told)

  all_even : flat_map (group_causes_of_field field) groups ≡ [] → flat_map (uneven_causes (length types) field) groups ≡ []
  all_even none = empty_part _ (λ cause told. subst (λ causes. Contains causes cause) none (uneven_part field groups cause told))

  told_once : flat_map (group_causes_of_field field) groups ≡ [] → AllByRecursion (λ column. length column ≡ length groups) (told_of_field field groups)
  told_once none =
      subst (λ n. AllByRecursion (λ column. length column ≡ n) (told_of_field field groups)) (length-map groups (columns_in field))
      (told_of_each types columns (even_columns field groups (all_even none)))

  -- ---- slots

  some_of : (found : Option ℕ) → is_some found ≡ true → (slots : ℕ) × (found ≡ Some slots)
  some_of None e = absurd cc
  some_of (Some slots) e = (slots, refl)

  slots_of : fits_groups field groups ≡ true → (is_some (slot_count (length groups) field.data_type) ≡ true) × (is_some (slot_count (length groups) (count_type field.data_type)) ≡ true)
  slots_of fits =
      and_parts (is_some (slot_count (length groups) field.data_type)) (is_some (slot_count (length groups) (count_type field.data_type)))
      (and_parts (list_all (λ (group : RowGroupMetaData). has_column group.columns field) groups) (has_slots (length groups) field.data_type) fits).1

  pub has_end_slots : fits_groups field groups ≡ true → flat_map (group_causes_of_field field) groups ≡ [] → HasSlots field.data_type (told_of_field field groups)
  has_end_slots fits none =
      let found = some_of _ (slots_of fits).0 in
      record { groups = length groups; slots = found.0; is = found.1; even = told_once none }

  pub has_count_slots : fits_groups field groups ≡ true → flat_map (group_causes_of_field field) groups ≡ [] → HasSlots (count_type field.data_type) (told_of_field field groups)
  has_count_slots fits none =
      let found = some_of _ (slots_of fits).1 in
      record { groups = length groups; slots = found.0; is = found.1; even = told_once none }

-- ---- types

no_cause : (b : Bool) → unless b NotYetImplemented ≡ [] → b ≡ true
no_cause true e = refl
no_cause false e = absurd cc

carried_parts : (data_type : DataType) → field_type_causes data_type ≡ [] → (has_single_dictionaries data_type ≡ true) × (list_all (λ leaf. is_flat_shape (flatness leaf)) (leaf_types data_type) ≡ true)
carried_parts data_type carried = and_parts (has_single_dictionaries data_type) (list_all (λ leaf. is_flat_shape (flatness leaf)) (leaf_types data_type)) (no_cause _ carried)

pub counts_are_numbers : {X : Type 0} (data_type : DataType) (told : List X) → field_type_causes data_type ≡ [] → length told ≡ length (leaf_types data_type) → leaf_types (count_type data_type) ≡ map (λ _. UInt64) told
counts_are_numbers data_type told carried e = has_numbers data_type (carried_parts data_type carried).0 ∙ as_many_numbers (leaf_types data_type) told e

is_flat : (found : Flatness) → is_flat_shape found ≡ true → found ≡ Flat
is_flat Flat e = refl
is_flat Sizeless e = absurd cc
is_flat Nested e = absurd cc

-- ---- ends

module _ (data_type : DataType) (flat : flatness data_type ≡ Flat) where
  typed_of : (column : ColumnChunkMetaData) (found : Option (Ends Cell)) → group_cells data_type column ≡ found → HasEndsOf data_type (unwrap_or found nothing_told)
  typed_of column None is = (tt, tt)
  typed_of column (Some ends) is = group_ends_have_type data_type column ends (own_value_type data_type flat) is

  all_typed : (columns : List ColumnChunkMetaData) → AllByRecursion (HasEndsOf data_type) (map (told_in data_type) columns)
  all_typed [] = tt
  all_typed (column ∷ columns) = (typed_of column (group_cells data_type column) refl, all_typed columns)

pub each_ready : (types : List DataType) (groups : List (List ColumnChunkMetaData)) → list_all (λ leaf. is_flat_shape (flatness leaf)) types ≡ true → side_causes_of_columns types (told_columns types groups) ≡ []
    → AreEachReady types (told_columns types groups)
each_ready [] groups flat none = tt
each_ready (data_type ∷ types) groups flat none =
    let own = and_parts (is_flat_shape (flatness data_type)) (list_all (λ leaf. is_flat_shape (flatness leaf)) types) flat in
    let free = both_none (group_array_causes data_type (map (told_in data_type) (flat_map (take 1) groups))) (side_causes_of_columns types (told_columns types (map (drop 1) groups))) none in
    let is = is_flat (flatness data_type) own.0 in
    (record { flat = is; typed = all_typed data_type is (flat_map (take 1) groups); fit = free.0 }, each_ready types (map (drop 1) groups) own.1 free.1)

pub field_ready : (field : Field) (groups : List RowGroupMetaData) → field_type_causes field.data_type ≡ [] → byte_causes field groups ≡ [] → AreEachReady (leaf_types field.data_type) (told_of_field field groups)
field_ready field groups carried none = each_ready (leaf_types field.data_type) (map (columns_in field) groups) (carried_parts field.data_type carried).1 none

-- ---- of results

pub ok_so : {X : Type 0} (r : Result X Error) (P Q : Type 0) → (P → Q) → OnOk r P → OnOk r Q
ok_so (Ok x) P Q f p = f p
ok_so (Err e) P Q f p = tt

pub comes_more : {X : Type 0} (r : Result X Error) (some all : List Cause) → IsPartOf some all → ComesOf r some → ComesOf r all
comes_more (Ok x) some all part told = tt
comes_more (Err e) some all part told = told_of_part some all e part told
