-- The columns of a field, with their types, as references show them.
use Rattle.std.proofs.Common.{◌≡◌, refl, sym, ◌∙◌, ap, subst, ℕ, ◌+◌, ◌≤◌, Bool, true, false, Bor, List, [], ◌∷◌, length, map, Option, Some, None, arith, sum_by}
use Rattle.std.specs.Prelude.{◌&&◌, ◌==◌, IfSome, flat_map, zip}
use Rattle.std.specs.List.{AllZip, list_all}
use Rattle.std.proofs.lemmas.Bool.{eq-eqb, eqb-true, false_from_ne_true}
use Rattle.std.proofs.lemmas.List.{length-map}
use Rattle.columns_core.specs.Causes.{Cause, IsOneOf, NotYetImplemented, and_then, unless}
use Rattle.columns_core.specs.declared.data_type.DataType.{DataType}
use Rattle.columns_core.specs.declared.data_type.Field.{Field}
use Rattle.columns_core.specs.declared.error.Error.{Error}
use Rattle.columns_core.specs.declared.error.Error.TheVariants as error
use Rattle.columns_core.specs.declared.error.Part.{Part}
use Rattle.parquet_meta.specs.Indexes.{column_index_length, field_columns}
use Rattle.parquet_meta.specs.declared.metadata.ColumnChunkMetaData.{ColumnChunkMetaData}
use Rattle.parquet_meta.specs.Source.{IsReadFailure}
use Rattle.parquet_indexes.specs.FieldStatistics.{IsOfColumn, IsOfField, causes_of_field, causes_of_typed, column_indexes_length, is_carried_column, is_carried_field, typed_columns}
use Rattle.parquet_statistics.specs.LeafTypes.{leaf_types}
use Rattle.parquet_indexes.specs.FieldTypes.{arranged}
use Rattle.parquet_indexes.specs.declared.page_statistics.ColumnPageStatistics.{ColumnPageStatistics}
use Rattle.parquet_indexes.specs.declared.page_statistics.FieldPageStatistics.{FieldPageStatistics}
use Rattle.parquet_indexes.proofs.ErrorLemmas.{first_of}
use Rattle.parquet_meta.proofs.FailureLemmas.{fails_more}
use Rattle.parquet_indexes.proofs.TypedLemmas.{sum_beside}

module _ (chunks : List ColumnChunkMetaData) (field : Field) where
  abbrev Inside : List DataType
  Inside = leaf_types field.data_type

  abbrev Own : List ColumnChunkMetaData
  Own = field_columns field.name chunks

  abbrev by_test : List ℕ → Bool → List Cause
  by_test file test = and_then (unless test NotYetImplemented) (flat_map (causes_of_typed file) (typed_columns chunks field))

  -- not as many columns as types
  pub uneven : (told : Option (List ℕ)) (before now : ℕ) (part : Part) → (length Inside ≡ length Own → ⊥) → IsReadFailure told before now (λ file. causes_of_field file chunks field) (error.NotYetImplemented part)
  uneven None before now part differ = tt
  uneven (Some file) before now part differ = by (length Inside == length Own) (λ same. differ (eqb-true (length Inside) (length Own) same)) where
    by : (test : Bool) → (test ≡ true → ⊥) → IsOneOf (by_test file test) (Some NotYetImplemented)
    by true not_so = absurd (not_so refl)
    by false not_so = first_of NotYetImplemented []

  pub uneven_uncarried : (length Inside ≡ length Own → ⊥) → is_carried_field chunks field ≡ false
  uneven_uncarried differ =
      ap (λ test. test && list_all is_carried_column (typed_columns chunks field))
      (false_from_ne_true (length Inside == length Own) (λ same. differ (eqb-true (length Inside) (length Own) same)))

  even_causes : (file : List ℕ) → length Inside ≡ length Own → causes_of_field file chunks field ≡ flat_map (causes_of_typed file) (typed_columns chunks field)
  even_causes file same = ap (by_test file) (eq-eqb (length Inside) (length Own) same)

  module _ (types : List (Bor DataType)) (columns : List (Bor ColumnChunkMetaData)) (types_are : map (λ t. t.now) types ≡ Inside) (columns_are : map (λ column. column.now) columns ≡ Own) where
    abbrev Typed : List (DataType × ColumnChunkMetaData)
    Typed = zip (map (λ t. t.now) types) (map (λ column. column.now) columns)

    typed_are : Typed ≡ typed_columns chunks field
    typed_are = λ i. zip (types_are i) (columns_are i)

    pub both_lengths : (length Inside ≡ length types) × (length Own ≡ length columns)
    both_lengths = (ap length (sym types_are) ∙ length-map types (λ (t : Bor DataType). t.now), ap length (sym columns_are) ∙ length-map columns (λ (column : Bor ColumnChunkMetaData). column.now))

    even_lists : length types ≡ length columns → length Inside ≡ length Own
    even_lists same = both_lengths.0 ∙ same ∙ sym both_lengths.1

    causes_are : (file : List ℕ) → length types ≡ length columns → causes_of_field file chunks field ≡ flat_map (causes_of_typed file) Typed
    causes_are file same = even_causes file (even_lists same) ∙ ap (flat_map (causes_of_typed file)) (sym typed_are)

    -- As many columns as types are carried where each is.
    pub field_carried : length types ≡ length columns → is_carried_field chunks field ≡ list_all is_carried_column Typed
    field_carried same =
        ap (λ test. test && list_all is_carried_column (typed_columns chunks field)) (eq-eqb (length Inside) (length Own) (even_lists same))
        ∙ ap (list_all is_carried_column) (sym typed_are)

    pub columns_fail : (told : Option (List ℕ)) (before now : ℕ) (e : Error) → length types ≡ length columns → IsReadFailure told before now (λ file. flat_map (causes_of_typed file) Typed) e
        → IsReadFailure told before now (λ file. causes_of_field file chunks field) e
    columns_fail told before now e same fails =
        fails_more told before before now (λ file. flat_map (causes_of_typed file) Typed) (λ file. causes_of_field file chunks field) e (omega arith) (within told) fails where
          within : (told : Option (List ℕ)) → IfSome told (λ file. (o : Option Cause) → IsOneOf (flat_map (causes_of_typed file) Typed) o → IsOneOf (causes_of_field file chunks field) o)
          within None = tt
          within (Some file) = λ o one. subst (λ causes. IsOneOf causes o) (sym (causes_are file same)) one

    pub no_causes : (told : Option (List ℕ)) → length types ≡ length columns → IfSome told (λ file. flat_map (causes_of_typed file) Typed ≡ []) → IfSome told (λ file. causes_of_field file chunks field ≡ [])
    no_causes None same none = tt
    no_causes (Some file) same none = causes_are file same ∙ none

    pub at_most : (before now : ℕ) → now ≤ before + sum_by (λ (t : DataType × ColumnChunkMetaData). column_index_length t.1) Typed → now ≤ before + column_indexes_length chunks field
    at_most before now le =
        let least = sum_beside column_index_length (map (λ (t : Bor DataType). t.now) types) (map (λ (column : Bor ColumnChunkMetaData). column.now) columns) in
        omega (arith, le, least, ap (sum_by column_index_length) columns_are)

    -- What is told of the columns, put together, is told of the field.
    pub of_field : (told : Option (List ℕ)) (items rest : List ColumnPageStatistics) (statistics : FieldPageStatistics) → IfSome told (λ file. AllZip (IsOfColumn file) Typed items)
        → arranged field.data_type items ≡ Some (statistics, rest) → length rest ≡ 0 → IfSome told (λ file. IsOfField file chunks field statistics)
    of_field None items rest statistics each shaped none = tt
    of_field (Some file) items rest statistics each shaped none = record {
      told = items;
      each = subst (λ typed. AllZip (IsOfColumn file) typed items) typed_are each;
      shaped = shaped ∙ ap (λ (behind : List ColumnPageStatistics). Some (statistics, behind)) (empty rest none);
    }
      where
        empty : (xs : List ColumnPageStatistics) → length xs ≡ 0 → xs ≡ []
        empty [] e = refl
        empty (x ∷ xs) e = absurd (omega arith)
