-- The column indexes of a field's columns in turn.
use Rattle.std.proofs.Common.{◌≡◌, ℕ, ◌+◌, ◌≤◌, Bool, true, false, List, [], ◌∷◌, ◌++◌, Option, Some, None, Err, refl, sym, ap, subst, ◌∙◌, ◌&&◌, ◌||◌}
use Rattle.std.specs.Prelude.{IfSome}
use Rattle.std.specs.List.{list_all, list_any}
use Rattle.columns_core.specs.declared.error.Error.{Error}
use Rattle.columns_core.specs.declared.error.Error.TheVariants as error
use Rattle.parquet_meta.specs.Indexes.{FindsIndex, FindsIndexes, begins_with, column_index_length, field_columns, has_index, is_broken, is_read, raw_index}
use Rattle.parquet_meta.specs.Lists.{all_of}
use Rattle.parquet_meta.specs.declared.metadata.ColumnChunkMetaData.{ColumnChunkMetaData}
use Rattle.parquet_meta.specs.declared.metadata.Index.{Index}
use Rattle.parquet_meta.proofs.EachLemmas.{IsReadingEach, each_goes_on, each_ends, may_fail-later}

-- what is left decides whether all are carried, there and whole
pub record IsReadingIndexes (told : Option (List ℕ)) (all rest : List ColumnChunkMetaData) (items : List Index) (before_all now : ℕ) : Type 0 where
  pub each : IsReadingEach raw_index column_index_length told all rest items before_all now
  pub carried : list_all is_read rest ≡ list_all is_read all
  pub present : list_all has_index rest ≡ list_all has_index all
  pub broken : IfSome told (λ file. list_any (is_broken file) rest ≡ list_any (is_broken file) all)

-- one that has a value is not broken
whole : (file : List ℕ) (x : ColumnChunkMetaData) (y : Index) → is_read x ≡ true → raw_index file x ≡ Some y → is_broken file x ≡ false
whole file x y read e = rw (read, e) refl

pub indexes_go_on : (told : Option (List ℕ)) (all rest : List ColumnChunkMetaData) (x : ColumnChunkMetaData) (items : List Index) (y : Index) (before_all now then : ℕ) →
    IsReadingIndexes told all (x ∷ rest) items before_all now → is_read x ≡ true → has_index x ≡ true → IfSome told (λ file. raw_index file x ≡ Some y) → then ≤ now + column_index_length x →
    IsReadingIndexes told all rest (items ++ y ∷ []) before_all then
indexes_go_on told all rest x items y before_all now then reading read present one le = record {
  each = each_goes_on raw_index column_index_length told all rest x items y before_all now then reading.each one le;
  carried = sym (ap (λ (b : Bool). b && list_all is_read rest) read) ∙ reading.carried;
  present = sym (ap (λ (b : Bool). b && list_all has_index rest) present) ∙ reading.present;
  broken = others told reading.broken one;
}
  where
    others : (o : Option (List ℕ)) → IfSome o (λ file. list_any (is_broken file) (x ∷ rest) ≡ list_any (is_broken file) all) → IfSome o (λ file. raw_index file x ≡ Some y) →
        IfSome o (λ file. list_any (is_broken file) rest ≡ list_any (is_broken file) all)
    others None b e = tt
    others (Some file) b e = sym (ap (λ (c : Bool). c || list_any (is_broken file) rest) (whole file x y read e)) ∙ b

pub indexes_end : (told : Option (List ℕ)) (all : List ColumnChunkMetaData) (items : List Index) (before_all now : ℕ) → IsReadingIndexes told all [] items before_all now →
    (list_all is_read all ≡ true) × (list_all has_index all ≡ true) × IfSome told (λ file. all_of (raw_index file) all ≡ Some items)
indexes_end told all items before_all now reading = (sym reading.carried, sym reading.present, each_ends raw_index column_index_length told all items before_all now reading.each)

-- an error of one is that of the whole
refused : {Y : Type 0} (views : Y → List Index) (told : Option (List ℕ)) (all rest : List ColumnChunkMetaData) (x : ColumnChunkMetaData) (items : List Index) (before_all now a b c : ℕ) (e : Error) →
    IsReadingIndexes told all (x ∷ rest) items before_all now → a ≤ b → FindsIndex x told b c (Err e) → FindsIndexes views all told a c (Err e)
refused views told all rest x items before_all now a b c (error.NotYetImplemented part) reading le finds = sym reading.carried ∙ ap (λ (t : Bool). t && list_all is_read rest) finds
refused views None all rest x items before_all now a b c (error.ExternalFormat part) reading le finds = tt
refused views (Some file) all rest x items before_all now a b c (error.ExternalFormat part) reading le finds = sym reading.broken ∙ ap (λ (t : Bool). t || list_any (is_broken file) rest) finds
refused views told all rest x items before_all now a b c error.Io reading le finds = may_fail-later a b c le finds
refused views told all rest x items before_all now a b c error.OutOfMemory reading le finds = tt
refused views told all rest x items before_all now a b c (error.InvalidArgumentError part) reading le finds = absurd finds
refused views told all rest x items before_all now a b c (error.OutOfSpec part) reading le finds = absurd finds
refused views told all rest x items before_all now a b c error.Overflow reading le finds = absurd finds

pub indexes_refused : {Y : Type 0} (views : Y → List Index) (told here : Option (List ℕ)) (all rest : List ColumnChunkMetaData) (x : ColumnChunkMetaData) (items : List Index) (before_all now a b c : ℕ) (e : Error) →
    IsReadingIndexes told all (x ∷ rest) items before_all now → a ≤ b → here ≡ told → FindsIndex x here b c (Err e) → FindsIndexes views all told a c (Err e)
indexes_refused views told here all rest x items before_all now a b c e reading le same finds =
    refused views told all rest x items before_all now a b c e reading le (subst (λ (o : Option (List ℕ)). FindsIndex x o b c (Err e)) same finds)

-- a column of the field stands before those behind it, and another is left out
pub of_the_field : (name : List ℕ) (columns others : List ColumnChunkMetaData) (x : ColumnChunkMetaData) → columns ≡ x ∷ others → begins_with name x ≡ true → field_columns name columns ≡ x ∷ field_columns name others
of_the_field name columns others x e begins = rw (e, begins) refl
