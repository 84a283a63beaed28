-- The indexes of one column.
use Rattle.std.proofs.Common.{◌≡◌, ℕ, true, cond, List, [], ◌∷◌, ◌++◌, ◌∙◌, Option, Some, None, Vec, Global, ap, map, refl, subst, sym}
use Rattle.std.specs.Prelude.{IfSome, Err, slice_get}
use Rattle.std.specs.List.{list_all}
use Rattle.std.proofs.lemmas.Bool.{and_parts}
use Rattle.std.proofs.lemmas.Slice.Eq.{bytes_eq-Decides}
use Rattle.columns_core.specs.declared.error.Error.{Error}
use Rattle.columns_core.specs.declared.error.Error.TheVariants as error
use Rattle.parquet_base.specs.Reading.{◌>>=◌}
use Rattle.parquet_meta.specs.Indexes.{field_columns, has_index, is_first, is_read, locations_of, raw_index}
use Rattle.parquet_meta.specs.Lists.{all_of}
use Rattle.parquet_meta.specs.Source.{Finds}
use Rattle.parquet_meta.specs.declared.metadata.ColumnChunkMetaData.{ColumnChunkMetaData}
use Rattle.parquet_meta.specs.declared.metadata.Index.{Index}
use Rattle.parquet_meta.specs.declared.metadata.PageLocation.{PageLocation}

-- what is made of one
one_of : {A B : Type 0} (value : A → Option B) (x : A) → all_of value (x ∷ []) ≡ (value x >>= λ y. Some (y ∷ []))
unfolding all_of
one_of value x = refl

-- ---- locations

none_spelled : (o : Option (List PageLocation)) → (o >>= λ y. Some (y ∷ [])) ≡ None → o ≡ None
none_spelled None e = refl
none_spelled (Some list) e = cc

-- what is not found of one column is not found of it
pub no_locations_found : {X Y : Type 0} (view : X → List (List PageLocation)) (own : Y → List PageLocation) (told : Option (List ℕ)) (before now : ℕ) (column : ColumnChunkMetaData) (e : Error)
    → Finds view (λ bytes. all_of (locations_of bytes) (column ∷ [])) told before now (Err e) → Finds own (λ bytes. locations_of bytes column) told before now (Err e)
no_locations_found view own told before now column (error.InvalidArgumentError part) finds = finds
no_locations_found view own told before now column (error.NotYetImplemented part) finds = finds
no_locations_found view own None before now column (error.ExternalFormat part) finds = finds
no_locations_found view own (Some bytes) before now column (error.ExternalFormat part) finds = none_spelled (locations_of bytes column) (sym (one_of (locations_of bytes) column) ∙ finds)
no_locations_found view own told before now column (error.OutOfSpec part) finds = finds
no_locations_found view own told before now column error.Overflow finds = finds
no_locations_found view own told before now column error.Io finds = finds
no_locations_found view own told before now column error.OutOfMemory finds = finds

-- the last of the lists of one column is its own
pub locations_found : (told : Option (List ℕ)) (column : ColumnChunkMetaData) (lists front : List (Vec PageLocation Global)) (last : Vec PageLocation Global) → lists ≡ front ++ last ∷ []
    → IfSome told (λ bytes. all_of (locations_of bytes) (column ∷ []) ≡ Some (map (λ (list : Vec PageLocation Global). list.items) lists)) → IfSome told (λ bytes. locations_of bytes column ≡ Some last.items)
locations_found None column lists front last are found = tt
locations_found (Some bytes) column lists front last are found =
    by (locations_of bytes column) front (sym (one_of (locations_of bytes) column) ∙ found ∙ ap (λ lists. Some (map (λ (list : Vec PageLocation Global). list.items) lists)) are) where
      by : (o : Option (List PageLocation)) (front : List (Vec PageLocation Global)) → (o >>= λ y. Some (y ∷ [])) ≡ Some (map (λ (list : Vec PageLocation Global). list.items) (front ++ last ∷ [])) → o ≡ Some last.items
      by None front e = absurd cc
      by (Some list) [] e = cc
      by (Some list) (x ∷ []) e = absurd cc
      by (Some list) (x ∷ y ∷ front) e = absurd cc

-- ---- column indexes

begins : (name : List ℕ) (path : List (List ℕ)) → Some name ≡ slice_get path 0 → is_first name path ≡ true
begins name [] first = absurd cc
begins name (own ∷ others) first =
    let same : name ≡ own = cc in
    (bytes_eq-Decides own name).1 (sym same)

-- a column is the one of the name that its path begins with
pub own_column : (name : List ℕ) (column : ColumnChunkMetaData) → Some name ≡ slice_get column.descriptor.path_in_schema 0 → field_columns name (column ∷ []) ≡ column ∷ []
own_column name column first = ap (λ b. cond b (column ∷ []) []) (begins name column.descriptor.path_in_schema first)

last_index : (told : Option (List ℕ)) (column : ColumnChunkMetaData) (front : List Index) (index : Index)
    → IfSome told (λ bytes. all_of (raw_index bytes) (column ∷ []) ≡ Some (front ++ index ∷ [])) → IfSome told (λ bytes. raw_index bytes column ≡ Some index)
last_index None column front index found = tt
last_index (Some bytes) column front index found = by (raw_index bytes column) front (sym (one_of (raw_index bytes) column) ∙ found) where
  by : (o : Option Index) (front : List Index) → (o >>= λ y. Some (y ∷ [])) ≡ Some (front ++ index ∷ []) → o ≡ Some index
  by None front e = absurd cc
  by (Some found) [] e = cc
  by (Some found) (x ∷ []) e = absurd cc
  by (Some found) (x ∷ y ∷ front) e = absurd cc

-- the last of the indexes of one column is its own
pub index_found : (told : Option (List ℕ)) (columns : List ColumnChunkMetaData) (column : ColumnChunkMetaData) (indexes front : List Index) (index : Index) → columns ≡ column ∷ [] → indexes ≡ front ++ index ∷ []
    → (list_all is_read columns ≡ true) × (list_all has_index columns ≡ true) × IfSome told (λ bytes. all_of (raw_index bytes) columns ≡ Some indexes)
    → (is_read column ≡ true) × (has_index column ≡ true) × IfSome told (λ bytes. raw_index bytes column ≡ Some index)
index_found told columns column indexes front index one last found = (
  (and_parts (is_read column) true (ap (list_all is_read) (sym one) ∙ found.0)).0,
  (and_parts (has_index column) true (ap (list_all has_index) (sym one) ∙ found.1)).0,
  last_index told column front index
      (subst (λ (indexes : List Index). IfSome told (λ bytes. all_of (raw_index bytes) (column ∷ []) ≡ Some indexes)) last
      (subst (λ (columns : List ColumnChunkMetaData). IfSome told (λ bytes. all_of (raw_index bytes) columns ≡ Some indexes)) one found.2)),
)
