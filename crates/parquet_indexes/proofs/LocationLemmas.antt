-- The locations of the pages of a column.
use Rattle.std.proofs.Common.{◌≡◌, ◌∙◌, sym, ap, refl, ℕ, List, [], ◌∷◌, ◌++◌, length, map, Option, Some, None, Err, arith}
use Rattle.std.specs.Prelude.{IfSome}
use Rattle.columns_core.specs.declared.error.Error.{Error}
use Rattle.columns_core.specs.declared.error.Error.TheVariants as error
use Rattle.parquet_base.specs.Reading.{◌>>=◌}
use Rattle.parquet_meta.specs.Indexes.{locations_of}
use Rattle.parquet_meta.specs.Lists.{all_of}
use Rattle.parquet_meta.specs.Source.{Finds}
use Rattle.parquet_meta.specs.declared.metadata.ColumnChunkMetaData.{ColumnChunkMetaData}
use Rattle.parquet_meta.specs.declared.metadata.PageLocation.{PageLocation}

-- what is made of a list of one
pub one_of : {A B : Type 0} (value : A → Option B) (x : A) → all_of value (x ∷ []) ≡ (value x >>= λ y. Some (y ∷ []))
unfolding all_of
one_of value x = refl

pub none_there : {A : Type 0} (xs : List A) → length xs ≡ 0 → xs ≡ []
none_there [] e = refl
none_there (x ∷ xs) e = absurd (omega arith)

module _ (column : ColumnChunkMetaData) where
  none_of : (file : List ℕ) → all_of (locations_of file) (column ∷ []) ≡ None → locations_of file column ≡ None
  none_of file e = by (locations_of file column) (sym (one_of (locations_of file) column) ∙ e) where
    by : (o : Option (List PageLocation)) → (o >>= λ y. Some (y ∷ [])) ≡ None → o ≡ None
    by None e = refl
    by (Some list) e = absurd cc

  -- Where the list of one is refused, so is the one.
  pub one_refused : {X Y : Type 0} (view : X → List (List PageLocation)) (views : Y → List PageLocation) (told : Option (List ℕ)) (start now : ℕ) (e : Error)
      → Finds view (λ file. all_of (locations_of file) (column ∷ [])) told start now (Err e) → Finds views (λ file. locations_of file column) told start now (Err e)
  one_refused view views None start now (error.ExternalFormat part) finds = tt
  one_refused view views (Some file) start now (error.ExternalFormat part) finds = none_of file finds
  one_refused view views told start now error.Io finds = finds
  one_refused view views told start now error.OutOfMemory finds = tt
  one_refused view views told start now (error.InvalidArgumentError part) finds = absurd finds
  one_refused view views told start now (error.NotYetImplemented part) finds = absurd finds
  one_refused view views told start now (error.OutOfSpec part) finds = absurd finds
  one_refused view views told start now error.Overflow finds = absurd finds

  -- There is a list for the column.
  pub some_list : {X : Type 0} (view : X → List PageLocation) (told : Option (List ℕ)) (lists : List X) → lists ≡ []
      → IfSome told (λ file. all_of (locations_of file) (column ∷ []) ≡ Some (map view lists)) → IfSome told (λ file. locations_of file column ≡ None)
  some_list view None lists none e = tt
  some_list view (Some file) lists none e =
      absurd (by (locations_of file column) (sym (one_of (locations_of file) column) ∙ e ∙ ap (λ found. Some (map view found)) none)) where
        by : (o : Option (List PageLocation)) → (o >>= λ y. Some (y ∷ [])) ≡ Some [] → ⊥
        by None e = cc
        by (Some list) e = cc

  -- and it is the last one
  pub one_list : {X : Type 0} (view : X → List PageLocation) (told : Option (List ℕ)) (front : List X) (last : X)
      → IfSome told (λ file. all_of (locations_of file) (column ∷ []) ≡ Some (map view (front ++ last ∷ []))) → IfSome told (λ file. locations_of file column ≡ Some (view last))
  one_list view None front last e = tt
  one_list view (Some file) front last e = by (locations_of file column) front (sym (one_of (locations_of file) column) ∙ e) where
    by : (o : Option (List PageLocation)) (front : List _) → (o >>= λ y. Some (y ∷ [])) ≡ Some (map view (front ++ last ∷ [])) → o ≡ Some (view last)
    by None front e = absurd cc
    by (Some list) [] e = cc
    by (Some list) (x ∷ []) e = absurd cc
    by (Some list) (x ∷ y ∷ front) e = absurd cc
