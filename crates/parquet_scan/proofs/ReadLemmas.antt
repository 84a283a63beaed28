-- The chunk of a column in a file's bytes.
use Rattle.std.proofs.Common.{◌≡◌, ℕ, Bool, true, false, List, [], ◌∷◌, length, refl, sym, subst, arith, ◌∙◌, ap}
use Rattle.std.specs.Prelude.{Option, Some, None, is_some, option_map, ◌&&◌, nat_le, Result, Ok, Err, IfOk, IfErr, OnOk, IfSome, if◌then◌else◌, Contains}
use Rattle.columns_core.specs.Causes.{Cause, ExternalFormat, and_then, is_empty, unless}
use Rattle.columns_core.specs.declared.error.Error.{Error}
use Rattle.columns_core.specs.declared.error.Error.TheVariants as error
use Rattle.parquet_meta.specs.declared.metadata.ColumnChunkMetaData.{ColumnChunkMetaData}
use Rattle.parquet_meta.specs.declared.metadata.Place.{Place}
use Rattle.parquet_meta.specs.declared.metadata.RowGroupMetaData.{RowGroupMetaData}
use Rattle.parquet_meta.specs.Chunks.{chunk_causes, chunk_range, has_each_value}
use Rattle.parquet_meta.specs.Places.{place_end, bytes_at, lies_in, part_at}
use Rattle.parquet_meta.specs.Source.{Finds, IsReadFailure}
use Rattle.parquet_scan.specs.Cells.{chunk_of}
use Rattle.parquet_scan.specs.Causes.{chunk_read_causes}
use Rattle.parquet_scan.specs.Located.{part_causes, part_in}
use Rattle.columns_core.specs.declared.error.Part.{Part}

pub placed : (bytes : List ℕ) (group : RowGroupMetaData) (column : ColumnChunkMetaData) → chunk_causes column ≡ [] → has_each_value group.num_rows column ≡ true
    → chunk_of bytes group column ≡ (if nat_le (place_end (chunk_range column)) (length bytes) then Some (chunk_range column) else None)
placed bytes group column none whole =
    ap (λ causes. if is_empty causes && (nat_le (place_end (chunk_range column)) (length bytes) && has_each_value group.num_rows column) then Some (chunk_range column) else None) none
    ∙ ap (λ b. if nat_le (place_end (chunk_range column)) (length bytes) && b then Some (chunk_range column) else None) whole
    ∙ by (nat_le (place_end (chunk_range column)) (length bytes)) where
      by : (b : Bool) → (if b && true then Some (chunk_range column) else None) ≡ (if b then Some (chunk_range column) else None)
      by true = refl
      by false = refl

-- the bytes of a part are those of the chunk
pub found : (bytes : List ℕ) (group : RowGroupMetaData) (column : ColumnChunkMetaData) → chunk_causes column ≡ [] → has_each_value group.num_rows column ≡ true
    → option_map (bytes_at bytes) (chunk_of bytes group column) ≡ part_at bytes (chunk_range column)
found bytes group column none whole = ap (option_map (bytes_at bytes)) (placed bytes group column none whole) ∙ by (nat_le (place_end (chunk_range column)) (length bytes)) where
  by : (b : Bool) → option_map (bytes_at bytes) (if b then Some (chunk_range column) else None) ≡ (if b then Some (bytes_at bytes (chunk_range column)) else None)
  by true = refl
  by false = refl

missing : (o : Option Place) (bytes : List ℕ) → option_map (bytes_at bytes) o ≡ None → is_some o ≡ false
missing None bytes e = refl
missing (Some place) bytes e = absurd cc

damaged : (bytes : List ℕ) (group : RowGroupMetaData) (column : ColumnChunkMetaData) → chunk_causes column ≡ [] → has_each_value group.num_rows column ≡ true → part_at bytes (chunk_range column) ≡ None
    → chunk_read_causes bytes group column ≡ ExternalFormat ∷ []
damaged bytes group column none whole gone =
    ap (λ causes. and_then causes (unless (is_some (chunk_of bytes group column)) ExternalFormat)) none
    ∙ ap (λ b. unless b ExternalFormat) (missing (chunk_of bytes group column) bytes (found bytes group column none whole ∙ gone))

pub gives_chunk : {X : Type 0} (view : X → List ℕ) (told : Option (List ℕ)) (before now : ℕ) (group : RowGroupMetaData) (column : ColumnChunkMetaData) (r : Result X Error)
    → chunk_causes column ≡ [] → has_each_value group.num_rows column ≡ true → Finds view (λ file. part_at file (chunk_range column)) told before now r
    → IfOk r (λ x. IfSome told (λ bytes. option_map (bytes_at bytes) (chunk_of bytes group column) ≡ Some (view x)))
gives_chunk view None before now group column (Ok x) none whole finds = finds
gives_chunk view (Some bytes) before now group column (Ok x) none whole finds = found bytes group column none whole ∙ finds
gives_chunk view told before now group column (Err e) none whole finds = tt

pub first_of : (cause : Cause) (causes : List Cause) → causes ≡ cause ∷ [] → Contains causes cause
first_of cause causes e = let here : Contains (cause ∷ []) cause = (0, omega arith, refl) in subst (λ found. Contains found cause) (sym e) here

-- What is not found fails by the causes that a file has in which it is not spelled.
pub finds_fails : {X A : Type 0} (view : X → A) (spelled : List ℕ → Option A) (causes : List ℕ → List Cause) (told : Option (List ℕ)) (before now : ℕ) (r : Result X Error)
    → ((bytes : List ℕ) → spelled bytes ≡ None → Contains (causes bytes) ExternalFormat) → Finds view spelled told before now r → IfErr r (IsReadFailure told before now causes)
finds_fails view spelled causes told before now (Ok x) damaged finds = tt
finds_fails view spelled causes told before now (Err (error.InvalidArgumentError part)) damaged finds = finds
finds_fails view spelled causes told before now (Err (error.NotYetImplemented part)) damaged finds = absurd finds
finds_fails view spelled causes None before now (Err (error.ExternalFormat part)) damaged finds = finds
finds_fails view spelled causes (Some bytes) before now (Err (error.ExternalFormat part)) damaged finds = damaged bytes finds
finds_fails view spelled causes told before now (Err (error.OutOfSpec part)) damaged finds = absurd finds
finds_fails view spelled causes told before now (Err error.Overflow) damaged finds = absurd finds
finds_fails view spelled causes told before now (Err error.Io) damaged finds = finds
finds_fails view spelled causes told before now (Err error.OutOfMemory) damaged finds = tt

pub fails_by : {X : Type 0} (view : X → List ℕ) (told : Option (List ℕ)) (before now : ℕ) (group : RowGroupMetaData) (column : ColumnChunkMetaData) (r : Result X Error)
    → chunk_causes column ≡ [] → has_each_value group.num_rows column ≡ true → Finds view (λ file. part_at file (chunk_range column)) told before now r
    → IfErr r (IsReadFailure told before now (λ bytes. chunk_read_causes bytes group column))
fails_by view told before now group column r none whole finds =
    finds_fails view (λ file. part_at file (chunk_range column)) (λ bytes. chunk_read_causes bytes group column) told before now r
    (λ bytes gone. first_of ExternalFormat (chunk_read_causes bytes group column) (damaged bytes group column none whole gone)) finds

-- ---- parts that lie in others

part_is : (bytes : List ℕ) (outer part : Place) → lies_in outer part ≡ true → part_in bytes outer part ≡ part_at bytes part
part_is bytes outer part lies = ap (λ b. if b then part_at bytes part else None) lies

pub part_outside_fails : (told : Option (List ℕ)) (before now : ℕ) (outer part : Place) (p : Part) → lies_in outer part ≡ false → IsReadFailure told before now (λ bytes. part_causes bytes outer part) (error.ExternalFormat p)
part_outside_fails None before now outer part p lies = tt
part_outside_fails (Some bytes) before now outer part p lies = first_of ExternalFormat (part_causes bytes outer part) (ap (λ b. unless (is_some (if b then part_at bytes part else None)) ExternalFormat) lies)

pub part_found : {X : Type 0} (view : X → List ℕ) (told : Option (List ℕ)) (before now : ℕ) (outer part : Place) (r : Result X Error) → lies_in outer part ≡ true → Finds view (λ file. part_at file part) told before now r
    → IfOk r (λ x. IfSome told (λ bytes. part_in bytes outer part ≡ Some (view x)))
part_found view None before now outer part (Ok x) lies finds = finds
part_found view (Some bytes) before now outer part (Ok x) lies finds = part_is bytes outer part lies ∙ finds
part_found view told before now outer part (Err e) lies finds = tt

pub part_fine : {X : Type 0} (view : X → List ℕ) (told : Option (List ℕ)) (before now : ℕ) (outer part : Place) (r : Result X Error) → lies_in outer part ≡ true → Finds view (λ file. part_at file part) told before now r
    → OnOk r (IfSome told (λ bytes. part_causes bytes outer part ≡ []))
part_fine view None before now outer part (Ok x) lies finds = finds
part_fine view (Some bytes) before now outer part (Ok x) lies finds = ap (λ o. unless (is_some o) ExternalFormat) (part_is bytes outer part lies ∙ finds)
part_fine view told before now outer part (Err e) lies finds = tt

pub part_fails : {X : Type 0} (view : X → List ℕ) (told : Option (List ℕ)) (before now : ℕ) (outer part : Place) (r : Result X Error) → lies_in outer part ≡ true → Finds view (λ file. part_at file part) told before now r
    → IfErr r (IsReadFailure told before now (λ bytes. part_causes bytes outer part))
part_fails view told before now outer part r lies finds =
    finds_fails view (λ file. part_at file part) (λ bytes. part_causes bytes outer part) told before now r
    (λ bytes gone. first_of ExternalFormat (part_causes bytes outer part) (ap (λ o. unless (is_some o) ExternalFormat) (part_is bytes outer part lies ∙ gone))) finds
